-- Whether a caller's entries can be its own way through its events: each event has its entry, and what the entries saw never falls
-- and has exactly the caller's entries before.
use Rattle.std.specs.Prelude.{ℕ, ◌-◌, ◌&&◌, nat_eq, nat_le, max, Bool, true, false, List, [], ◌∷◌, ◌++◌, length, take, slice_get, Option, Some, None, if◌then◌else◌}
use Rattle.std.specs.List.{list_all}
use Rattle.site_model.specs.declared.entry.Entry.{Entry}
use Rattle.site_model.specs.declared.sight.Sight.{Sight}
use Rattle.run_meaning.specs.Turns.{Asked, Histories, from_on, of_index}
use Rattle.run_meaning.specs.Rounds.{entries_by, events_on}

-- how many of these events are on a checkable
abbrev pub done_on : List Asked → ℕ → ℕ
done_on done p = length (events_on p done)

-- of a caller's own entries exactly those of the events so far are seen
abbrev pub is_own : Histories → Histories → ℕ → List Asked → Sight → Bool
is_own before round k done x =
    nat_eq (length (entries_by k (take (x.count - length (of_index x.checkable before)) (of_index x.checkable round)))) (done_on done x.checkable)

-- how much was seen of each checkable at most, these sights counted
abbrev pub raised : List Sight → (ℕ → ℕ) → ℕ → ℕ
raised [] last p = last p
raised (x ∷ xs) last p = raised xs (λ q. if nat_eq x.checkable q then max (last q) x.count else last q) p

abbrev pub fits : Histories → Histories → ℕ → List Asked → (ℕ → ℕ) → Entry → Bool
fits before round k done last e = list_all (λ x. is_own before round k done x && nat_le (last x.checkable) x.count) e.sights

-- the entry of a caller's next event
abbrev pub entry_of_next : Histories → ℕ → List Asked → Asked → Option Entry
entry_of_next round k done a = slice_get (entries_by k (of_index a.checkable round)) (done_on done a.checkable)

-- the way from here on, if this is the entry of the next event
abbrev pub walk_by : Histories → Histories → ℕ → List Asked → (ℕ → ℕ) → ((ℕ → ℕ) → Bool) → Option Entry → Bool
walk_by before round k done last rest None = false
walk_by before round k done last rest (Some e) = fits before round k done last e && rest (raised e.sights last)

-- the way through the events that are left
abbrev pub walks : Histories → Histories → ℕ → List Asked → List Asked → (ℕ → ℕ) → Bool
walks before round k done [] last = true
walks before round k done (a ∷ rest) last =
    walk_by before round k done last (λ more. walks before round k (done ++ a ∷ []) rest more) (entry_of_next round k done a)

-- through all of them
abbrev pub is_walked : Histories → Histories → List (List Asked) → ℕ → Bool
is_walked before round events k = walks before round k [] (of_index k events) (λ _. 0)

abbrev pub are_walked : Histories → List (List Asked) → Histories → Bool
are_walked before events round = list_all (is_walked before round events) (from_on 0 (length events))
