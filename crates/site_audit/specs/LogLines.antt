-- The lines of a log, in the format's own words.
use Rattle.std.specs.Prelude.{◌≡◌, ℕ, ◌<◌, ◌≤◌, ◌^◌, List, Bool, true, false, length}
use Rattle.std.specs.List.{AllByRecursion}
use Rattle.std.specs.Str.{IsUtf8}
use Rattle.site_model.specs.PlainSite.{PlainSite, full_names}
use Rattle.site_model.specs.declared.entry.Entry.{Entry}
use Rattle.event_text.specs.Faults.{fault_name}
use Rattle.log_text.specs.EntryTwo.{untold, IsEntryOf, IsLineOf, IsLineTwoOf}
use Rattle.log_text.specs.LogLines.{turn_line}
use Rattle.run_meaning.specs.Dealing.{refused_line, refused_report}
use Rattle.run_meaning.specs.Turns.{Command, missing, words}
use Rattle.run_text.specs.LogText.{command_line, refusal_line, styled_entry}
use Rattle.run_text.specs.declared.style.Style.{Style}
use Rattle.run_text.specs.declared.style.Style.TheVariants.{One, Two}
use Rattle.site_audit.specs.declared.log_line.LogLine.{LogLine}
use Rattle.site_audit.specs.declared.log_line.LogLine.TheVariants as line

-- whether a macro is missing for a command
abbrev pub is_missing : Command → Bool
is_missing (words ws) = false
is_missing (missing macro) = true

-- its words, or the name of the macro, are texts
abbrev pub IsOfTexts : Command → Type 0
IsOfTexts (words ws) = AllByRecursion IsUtf8 ws
IsOfTexts (missing macro) = IsUtf8 macro

-- the order of this number of a checkable
pub record IsOrderLine (style : Style) (s : PlainSite) (bytes : List ℕ) (number checkable : ℕ) (lacks : Bool) : Type 0 where
  pub command : Command
  pub texts : IsOfTexts command
  pub number_fits : number < 2 ^ 64
  pub own : checkable < length (full_names s)
  pub missing_is : is_missing command ≡ lacks
  pub whole : bytes ≡ command_line style s number checkable command

-- a line of version one tells no texts of a result
abbrev pub IsEntryLine : Style → PlainSite → List ℕ → ℕ → Entry → Type 0
IsEntryLine One s bytes checkable e = IsLineOf s bytes checkable e
IsEntryLine Two s bytes checkable e = IsLineTwoOf s bytes checkable e

-- what the line of an entry tells of it
abbrev pub told_entry : Style → Entry → Entry
told_entry One e = untold e
told_entry Two e = e

-- the bytes are this line of a log
abbrev pub IsLogLine : Style → PlainSite → List ℕ → LogLine → Type 0
IsLogLine style s bytes (line.Turn number moment) = (number < 2 ^ 64) × (moment ≤ 99999999999) × (bytes ≡ turn_line number moment)
IsLogLine style s bytes (line.RefusedLine number f) = (number < 2 ^ 64) × (bytes ≡ refusal_line (refused_line number (fault_name f)))
IsLogLine style s bytes (line.RefusedReport order) = (order < 2 ^ 64) × (bytes ≡ refusal_line (refused_report order))
IsLogLine style s bytes (line.Entry checkable e) = IsEntryLine style s bytes checkable e
IsLogLine style s bytes (line.Order number checkable lacks) = IsOrderLine style s bytes number checkable lacks

-- what stands for each line: of an entry that can stand in memory its line is a text, and what it tells is read back
abbrev pub IsWritten : Style → PlainSite → List ℕ → LogLine → Type 0
IsWritten style s bytes (line.Entry checkable e) = IsEntryOf s checkable e × IsUtf8 bytes × (bytes ≡ styled_entry style s checkable e)
IsWritten style s bytes l = IsLogLine style s bytes l

abbrev pub told_line : Style → LogLine → LogLine
told_line style (line.Entry checkable e) = line.Entry checkable (told_entry style e)
told_line style l = l
