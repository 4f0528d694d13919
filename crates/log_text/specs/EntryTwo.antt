-- The lines of entries in version two, and which entries have a line.
use Rattle.std.specs.Prelude.{◌≡◌, ℕ, ◌<◌, ◌≤◌, ◌^◌, List, [], ◌∷◌, ◌++◌, codes}
use Rattle.std.specs.List.{AllByRecursion}
use Rattle.std.specs.Str.{IsUtf8}
use Rattle.site_base.specs.Quoted.{quoted}
use Rattle.site_model.specs.PlainSite.{PlainSite}
use Rattle.site_model.specs.declared.entry.Entry.{Entry}
use Rattle.site_model.specs.declared.event.Event.{Event}
use Rattle.site_model.specs.declared.event.Event.TheVariants as event
use Rattle.site_model.specs.declared.outcome.Outcome.{Outcome}
use Rattle.site_model.specs.declared.outcome.Outcome.TheVariants as outcome
use Rattle.site_text.specs.Entries.{entry_line, start_text, effect_text, lists_text, IsPrintable}
use Rattle.log_text.specs.SiteNames.{PlainNames}

-- the quoted output and performance text of a result, and a dash for another event
abbrev pub told_text : Event → List ℕ
told_text (event.Result status passive output perf) = quoted output ++ 32 ∷ quoted perf
told_text _ = codes "-"

-- the line of version one with what a result told behind it
abbrev pub entry_line_two : PlainSite → ℕ → Entry → List ℕ
entry_line_two s checkable e = start_text s checkable e ++ (effect_text e ++ (lists_text s e ++ (codes " | " ++ (told_text e.event ++ 10 ∷ []))))

-- an event whose texts are left out
abbrev pub without_texts : Event → Event
without_texts (event.Result status passive output perf) = event.Result status passive [] []
without_texts e = e

abbrev pub untold : Entry → Entry
untold e = record e { event = without_texts e.event }

-- What every entry in memory meets: its numbers have their bits, moments are in their range, and texts are UTF-8.

abbrev pub FitsEvent : Event → Type 0
FitsEvent (event.Result status passive output perf) = IsUtf8 output × IsUtf8 perf
FitsEvent (event.Down start end fixed duration) = (start ≤ 99999999999) × (end ≤ 99999999999) × (duration < 2 ^ 64)
FitsEvent (event.Undown number) = number < 2 ^ 64
FitsEvent (event.Check moment forced) = moment ≤ 99999999999
FitsEvent _ = Unit {0}

abbrev pub FitsOutcome : Outcome → Type 0
FitsOutcome (outcome.Downtime number) = number < 2 ^ 64
FitsOutcome _ = Unit {0}

pub record FitsEntry (e : Entry) : Type 0 where
  pub caller : e.caller < 2 ^ 32
  pub number : e.number < 2 ^ 64
  pub moment : e.moment ≤ 99999999999
  pub event : FitsEvent e.event
  pub attempt : e.attempt < 2 ^ 32
  pub sights : AllByRecursion (λ sight. sight.count < 2 ^ 64) e.sights
  pub decisions : AllByRecursion (λ d. FitsOutcome d.outcome) e.decisions

-- every name is UTF-8
pub record AreTexts (names : PlainNames) : Type 0 where
  pub checkables : AllByRecursion IsUtf8 names.checkables
  pub depends : AllByRecursion IsUtf8 names.depends
  pub notifies : AllByRecursion IsUtf8 names.notifies
  pub users : AllByRecursion IsUtf8 names.users

-- an entry that can stand in memory, and that this site can print
pub record IsEntryOf (s : PlainSite) (checkable : ℕ) (e : Entry) : Type 0 where
  pub printable : IsPrintable s checkable e
  pub fits : FitsEntry e

-- the line is that of this entry of this checkable, whose texts are left out
pub record IsLineOf (s : PlainSite) (line : List ℕ) (checkable : ℕ) (e : Entry) : Type 0 where
  pub printable : IsPrintable s checkable e
  pub whole : line ≡ entry_line s checkable e
  pub untold : without_texts e.event ≡ e.event

-- the line of version two is that of this entry of this checkable
pub record IsLineTwoOf (s : PlainSite) (line : List ℕ) (checkable : ℕ) (e : Entry) : Type 0 where
  pub printable : IsPrintable s checkable e
  pub whole : line ≡ entry_line_two s checkable e
