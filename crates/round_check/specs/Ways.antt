-- The way of a caller by the lists of its entries.
use Rattle.std.specs.Prelude.{ℕ, suc, ◌-◌, ◌&&◌, ◌||◌, nat_eq, nat_le, not, Bool, true, false, List, [], ◌∷◌, slice_get, Option, Some, None, if◌then◌else◌}
use Rattle.std.specs.List.{list_all}
use Rattle.site_model.specs.declared.entry.Entry.{Entry}
use Rattle.site_model.specs.declared.sight.Sight.{Sight}
use Rattle.run_meaning.specs.Turns.{Asked}
use Rattle.round_check.specs.Shelves.{listed}
use Rattle.round_check.specs.Walking.{raised}
use Rattle.round_check.specs.declared.shelf.Shelf.{Shelf}
use Rattle.round_check.specs.declared.walking.Place.{Place}

abbrev pub place_of : Entry → Place
place_of e = record { number = e.number; sights = e.sights }

-- an entry is among the first so many of its checkable
abbrev pub is_within : ℕ → Option Place → Bool
is_within count None = false
is_within count (Some p) = nat_le p.number count

-- of these entries exactly so many are among the first so many of their checkable
abbrev pub are_within : List Place → ℕ → ℕ → Bool
are_within places n count = (nat_eq n 0 || is_within count (slice_get places (n - 1))) && not (is_within count (slice_get places n))

abbrev pub sees : (ℕ → List Place) → (ℕ → ℕ) → (ℕ → ℕ) → Sight → Bool
sees own done last x = are_within (own x.checkable) (done x.checkable) x.count && nat_le (last x.checkable) x.count

abbrev pub sights_in : Option Place → List Sight
sights_in None = []
sights_in (Some p) = p.sights

abbrev pub sees_all : (ℕ → List Place) → (ℕ → ℕ) → (ℕ → ℕ) → Option Place → Bool
sees_all own done last None = false
sees_all own done last (Some p) = list_all (sees own done last) p.sights

-- the entry of the next event on a checkable
abbrev pub next_place : (ℕ → List Place) → (ℕ → ℕ) → ℕ → Option Place
next_place own done c = slice_get (own c) (done c)

abbrev pub one_more : ℕ → (ℕ → ℕ) → ℕ → ℕ
one_more c done q = if nat_eq c q then suc (done q) else done q

-- the way through these events, of which so many were before on each checkable, and which saw so much so far
abbrev pub is_way : (ℕ → List Place) → (ℕ → ℕ) → (ℕ → ℕ) → List Asked → Bool
is_way own done last [] = true
is_way own done last (a ∷ rest) =
    sees_all own done last (next_place own done a.checkable)
    && is_way own (one_more a.checkable done) (raised (sights_in (next_place own done a.checkable)) last) rest

-- the ways of these callers, each with its own entries
abbrev pub are_ways : List (Shelf Place) → List (List Asked) → Bool
are_ways own [] = true
are_ways [] (acts ∷ more) = true
are_ways (shelf ∷ own) (acts ∷ more) = is_way (listed shelf.lists.entries) (λ _. 0) (λ _. 0) acts && are_ways own more
