-- What acts of one caller make.
use Rattle.std.specs.Prelude.{◌≡◌, ℕ, List, ◌++◌, Option}
use Rattle.jiff_tz.specs.declared.tzif.Tzif.{Tzif}
use Rattle.checkable_core.specs.Contents.{check_at}
use Rattle.checkable_core.specs.Entries.{rules_in}
use Rattle.run_meaning.specs.Acts.{Rules}
use Rattle.run_meaning.specs.Alone.{alone, next_entry}
use Rattle.run_meaning.specs.Runs.{joined}
use Rattle.run_meaning.specs.Turns.{Asked, Histories, of_index}
use Rattle.site_model.specs.PlainSite.{PlainSite}
use Rattle.site_model.specs.declared.entry.Entry.{Entry}
use Rattle.site_model.specs.declared.event.Event.{Event}
use Rattle.site_posts.specs.declared.act.Act.{Act}

abbrev pub asked_of : Act → Asked
asked_of a = record { checkable = a.checkable; event = a.event }

-- the entry that a caller's event makes of the checkable of index k if these are the entries so far
abbrev pub entry_next : PlainSite → Option Tzif → ℕ → Histories → ℕ → ℕ → Event → Entry
entry_next s zone moment histories caller k v =
    next_entry (rules_in s zone) moment (λ c. of_index c histories) caller k (check_at s k) v

-- the round that acts of one caller make after these entries
abbrev pub round_made : PlainSite → Option Tzif → ℕ → Histories → List Asked → Histories
round_made s zone moment before acts = alone (rules_in s zone) moment before acts

-- the entries after a round of some of the acts, the first ones
pub record IsPartly (r : Rules) (moment : ℕ) (before : Histories) (acts : List Asked) (after : Histories) : Type 0 where
  pub done : List Asked
  pub rest : List Asked
  pub first : done ++ rest ≡ acts
  pub are : after ≡ joined before (alone r moment before done)
