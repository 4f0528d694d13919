-- Where the things of one site stand in another one, by their names.
use Rattle.std.specs.Prelude.{ℕ, List, map, slice_get, Option, Some, None}
use Rattle.site_model.specs.Names.{place_of}
use Rattle.site_model.specs.PlainSite.{PlainSite, full_names}
use Rattle.site_text.specs.Entries.{depend_names, notify_names, user_names}
use Rattle.history_carry.specs.declared.moves.Moves.{Moves}

-- for each of these names its place among others; none if it isn't there
abbrev pub places_among : List (List ℕ) → List (List ℕ) → List (Option ℕ)
places_among names others = map (λ name. place_of name others) names

-- the places that the things of one site have in another one
abbrev pub moves_between : PlainSite → PlainSite → Moves
moves_between s t = record {
  checkables = places_among (full_names s) (full_names t);
  depends = places_among (depend_names s) (depend_names t);
  notifies = places_among (notify_names s) (notify_names t);
  users = places_among (user_names s) (user_names t);
}

abbrev pub if_there : Option (Option ℕ) → Option ℕ
if_there None = None
if_there (Some place) = place

-- the new place of what had this one, if it has one
abbrev pub moved : List (Option ℕ) → ℕ → Option ℕ
moved places k = if_there (slice_get places k)
