-- What a line of a log tells, read from its front.
use Rattle.std.specs.Prelude.{ℕ, zero, suc, List, [], ◌∷◌, length, drop, codes, true, false, Option, Some, None, if◌then◌else◌}
use Rattle.std.specs.Str.{is_utf8}
use Rattle.site_model.specs.declared.entry.Entry.{Entry}
use Rattle.site_text.specs.ScriptReading.{begins}
use Rattle.event_text.specs.Faults.{fault_name}
use Rattle.event_text.specs.declared.line_fault.LineFault.{LineFault}
use Rattle.event_text.specs.declared.line_fault.LineFault.TheVariants as fault
use Rattle.log_text.specs.EntryReading.{ended, entry_read, entry_two_read, last_moment}
use Rattle.log_text.specs.Fronts.{Front, ◌>>=◌, behind, spelled_at, number_at, bounded_at, text_at, name_at}
use Rattle.log_text.specs.SiteNames.{PlainNames}
use Rattle.run_text.specs.declared.style.Style.{Style}
use Rattle.run_text.specs.declared.style.Style.TheVariants.{One, Two}
use Rattle.site_audit.specs.declared.log_line.LogLine.{LogLine}
use Rattle.site_audit.specs.declared.log_line.LogLine.TheVariants as line

-- After `turn `.
unfoldable pub turn_at : List ℕ → Option LogLine
turn_at bytes = do
  number ← number_at bytes
  a ← behind (codes " ") number.1
  moment ← bounded_at last_moment a
  ended (line.Turn number.0 moment.0, moment.1)

-- After `refused `.

unfoldable pub fault_at : List ℕ → Front LineFault
fault_at bytes =
    spelled_at fault_name (fault.NotText ∷ fault.NoBracket ∷ fault.BadMoment ∷ fault.UnknownCommand ∷ fault.FieldCount ∷ fault.UnknownCheckable ∷ fault.BadNumber ∷ fault.BadSpan ∷ fault.PassiveOff ∷ []) bytes

unfoldable pub refused_line_at : List ℕ → Option LogLine
refused_line_at bytes = do
  number ← number_at bytes
  a ← behind (codes " ") number.1
  f ← fault_at a
  ended (line.RefusedLine number.0 f.0, f.1)

unfoldable pub refused_report_at : List ℕ → Option LogLine
refused_report_at bytes = do
  order ← number_at bytes
  ended (line.RefusedReport order.0, order.1)

-- After `order `.

-- quoted words, joined by blanks, with a bound on their number; what follows them
abbrev pub next_word : (List ℕ → Option (List ℕ)) → List ℕ → Option (List ℕ) → Option (List ℕ)
next_word again rest None = Some rest
next_word again rest (Some next) = again next

abbrev pub words_within : ℕ → List ℕ → Option (List ℕ)
words_within zero bytes = None
words_within (suc most) bytes = text_at bytes >>= λ word. next_word (words_within most) word.1 (behind (codes " ") word.1)

-- there may be none
abbrev pub words_at : List ℕ → Option (List ℕ)
words_at bytes = if begins (10 ∷ []) bytes then Some bytes else words_within (length bytes) bytes

-- the order of a check that is started
abbrev pub started_at : Style → ℕ → ℕ → List ℕ → Option LogLine
started_at One number checkable bytes = ended (line.Order number checkable false, bytes)
started_at Two number checkable bytes = behind (codes " ") bytes >>= λ a. words_at a >>= λ rest. ended (line.Order number checkable false, rest)

abbrev pub lacking_at : ℕ → ℕ → List ℕ → Option LogLine
lacking_at number checkable bytes = text_at bytes >>= λ macro. ended (line.Order number checkable true, macro.1)

abbrev pub command_at : Style → ℕ → ℕ → List ℕ → Option LogLine
command_at style number checkable bytes =
    if begins (codes " missing ") bytes then lacking_at number checkable (drop 9 bytes) else started_at style number checkable bytes

unfoldable pub order_at : Style → PlainNames → List ℕ → Option LogLine
order_at style names bytes = do
  number ← number_at bytes
  a ← behind (codes " ") number.1
  checkable ← name_at names.checkables a
  command_at style number.0 checkable.0 checkable.1

-- Whole lines.

abbrev pub as_entry : ℕ × Entry → Option LogLine
as_entry x = Some (line.Entry x.0 x.1)

abbrev pub styled_read : Style → PlainNames → List ℕ → Option (ℕ × Entry)
styled_read One names bytes = entry_read names bytes
styled_read Two names bytes = entry_two_read names bytes

-- a line is a text
abbrev pub entry_line_read : Style → PlainNames → List ℕ → Option LogLine
entry_line_read style names bytes = if is_utf8 bytes then styled_read style names bytes >>= as_entry else None

unfoldable pub line_read : Style → PlainNames → List ℕ → Option LogLine
line_read style names bytes =
    if begins (codes "turn ") bytes then turn_at (drop 5 bytes)
    else if begins (codes "refused line ") bytes then refused_line_at (drop 13 bytes)
    else if begins (codes "refused report ") bytes then refused_report_at (drop 15 bytes)
    else if begins (codes "order ") bytes then order_at style names (drop 6 bytes)
    else entry_line_read style names bytes
