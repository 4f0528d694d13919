-- The histories with which another site goes on.
use Rattle.std.specs.Prelude.{ℕ, List, [], map, Option, Some, None}
use Rattle.run_meaning.specs.Turns.{Histories, of_index}
use Rattle.site_model.specs.Names.{place_of}
use Rattle.site_model.specs.PlainSite.{PlainSite, full_names}
use Rattle.site_model.specs.declared.entry.Entry.{Entry}
use Rattle.history_carry.specs.Entries.{carried_history}
use Rattle.history_carry.specs.Moves.{moves_between}

-- those of a place; none without a place
abbrev pub history_at : Histories → Option ℕ → List Entry
history_at hs None = []
history_at hs (Some k) = of_index k hs

-- those of each of some names, if these are the histories of others
abbrev pub histories_named : List (List ℕ) → Histories → List (List ℕ) → Histories
histories_named others hs names = map (λ name. history_at hs (place_of name others)) names

-- A checkable of the second site whose full name the first one had has the entries that it had there, as the second site has them. Any
-- other has none.
abbrev pub carried : PlainSite → PlainSite → Histories → Histories
carried s t hs = histories_named (full_names s) (map (carried_history (moves_between s t)) hs) (full_names t)
