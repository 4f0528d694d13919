-- In which order things are taken, of which some must stand before others.
use Rattle.std.specs.Prelude.{ℕ, zero, suc, ◌+◌, ◌-◌, ◌==◌, ◌&&◌, nat_eq, nat_lt, not, Bool, List, [], ◌∷◌, ◌++◌, length, filter, get_or, slice_set, Option, Some, None, if◌then◌else◌}
use Rattle.std.specs.BTreeSet.{insert_key}
use Rattle.std.specs.List.{list_any}
use Rattle.std.specs.Ordering.{nat_cmp}
use Rattle.run_meaning.specs.Turns.{from_on}
use Rattle.site_audit.specs.declared.order.Pair.{Pair}

abbrev pub stands : List ℕ → ℕ → Bool
stands done k = list_any (nat_eq k) done

-- how many of those are left that must stand before one; one that stands already isn't free either
abbrev pub blocked : List ℕ → List Pair → ℕ → ℕ
blocked done [] k = if stands done k then 1 else 0
blocked done (p ∷ ps) k = if nat_eq p.behind k && not (stands done p.before) then suc (blocked done ps k) else blocked done ps k

-- those of so many that are left, and before which none that is left must stand
abbrev pub free_in : ℕ → List Pair → List ℕ → List ℕ
free_in count pairs done = filter (λ k. blocked done pairs k == 0) (from_on 0 count)

-- one is taken after another, each time the first that is free
abbrev pub taken_next : (List ℕ → List ℕ) → List ℕ → List ℕ → List ℕ
taken_next again done [] = done
taken_next again done (k ∷ ks) = again (done ++ k ∷ [])

abbrev pub order_from : ℕ → ℕ → List Pair → List ℕ → List ℕ
order_from zero count pairs done = done
order_from (suc most) count pairs done = taken_next (order_from most count pairs) done (free_in count pairs done)

-- all of them, if each can be taken
abbrev pub all_or_none : ℕ → List ℕ → Option (List ℕ)
all_or_none count order = if length order == count then Some order else None

unfoldable pub order_in : ℕ → List Pair → Option (List ℕ)
order_in count pairs = all_or_none count (order_from count count pairs [])

-- As it is counted.

-- of a list of counts from this number on, those that are 0
abbrev pub zeros_from : ℕ → List ℕ → List ℕ
zeros_from k [] = []
zeros_from k (w ∷ ws) = if w == 0 then k ∷ zeros_from (suc k) ws else zeros_from (suc k) ws

abbrev pub zeros : List ℕ → List ℕ
zeros ws = zeros_from 0 ws

-- with one more number, if its count is 0
abbrev pub noted : ℕ → ℕ → List ℕ → List ℕ
noted k w ks = if nat_lt 0 w then ks else insert_key nat_cmp ks k

abbrev pub one_less : ℕ → List ℕ → List ℕ
one_less k ws = slice_set ws k (get_or ws k 0 - 1)

-- each of these counts is less by one
abbrev pub less_by : List ℕ → List ℕ → List ℕ
less_by [] ws = ws
less_by (k ∷ ks) ws = less_by ks (one_less k ws)

abbrev pub one_more : ℕ → List ℕ → List ℕ
one_more k ws = slice_set ws k (get_or ws k 0 + 1)

abbrev pub more_by : List Pair → List ℕ → List ℕ
more_by [] ws = ws
more_by (p ∷ ps) ws = more_by ps (one_more p.behind ws)

-- those before which one must stand
abbrev pub followers : List Pair → ℕ → List ℕ
followers [] k = []
followers (p ∷ ps) k = if nat_eq p.before k then p.behind ∷ followers ps k else followers ps k
