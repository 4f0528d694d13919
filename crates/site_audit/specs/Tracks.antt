-- In which order things are taken that stand on tracks: of two on one track the earlier must stand before the later.
use Rattle.std.specs.Prelude.{ℕ, zero, suc, ◌+◌, ◌-◌, ◌/◌, ◌^◌, ◌||◌, ◌&&◌, nat_eq, nat_lt, not, Bool, List, [], ◌∷◌, ◌++◌, filter, Option, Some, None, if◌then◌else◌}
use Rattle.std.specs.List.{list_any}
use Rattle.run_meaning.specs.Turns.{from_on}
use Rattle.site_audit.specs.Order.{all_or_none, stands, taken_next}
use Rattle.site_audit.specs.declared.order.Pair.{Pair}
use Rattle.site_audit.specs.declared.tracks.Last.{Last}
use Rattle.site_audit.specs.declared.tracks.Spot.{Spot}

-- a spot is said in one number: the track times 2^80, and the instant on it
abbrev pub track_of : Spot → ℕ
track_of x = x.at / 2 ^ 80

abbrev pub same_track : Spot → Spot → Bool
same_track a b = nat_eq (track_of a) (track_of b)

abbrev pub is_earlier : Spot → Spot → Bool
is_earlier a b = same_track a b && nat_lt a.at b.at

-- whether one that is left stands earlier than a spot
abbrev pub is_held : List Spot → List ℕ → Spot → Bool
is_held spots done b = list_any (λ a. is_earlier a b && not (stands done a.thing)) spots

-- one waits if this is so of a spot of its own; one that stands already can't be taken either
abbrev pub waits : List Spot → List ℕ → ℕ → Bool
waits spots done k = stands done k || list_any (λ b. nat_eq b.thing k && is_held spots done b) spots

abbrev pub ready : ℕ → List Spot → List ℕ → List ℕ
ready count spots done = filter (λ k. not (waits spots done k)) (from_on 0 count)

-- one is taken after another, each time the first that doesn't wait
abbrev pub taken_from : ℕ → ℕ → List Spot → List ℕ → List ℕ
taken_from zero count spots done = done
taken_from (suc most) count spots done = taken_next (taken_from most count spots) done (ready count spots done)

-- all of them, if each can be taken
unfoldable pub taken_in : ℕ → List Spot → Option (List ℕ)
taken_in count spots = all_or_none count (taken_from count count spots [])

-- As it is counted: after each spot stands a gate, which is open once all things up to it on its track are taken.

-- the gate for which a spot waits, if the gates before it are so many: the one after those that are earlier on its track
abbrev pub low_behind : Last → ℕ → Spot → Option ℕ
low_behind last gate x = if same_track last.spot x then (if nat_lt last.spot.at x.at then Some gate else last.low) else None

abbrev pub low_from : Last → ℕ → Spot → Option ℕ
low_from last zero x = None
low_from last (suc gate) x = low_behind last gate x

abbrev pub low_of : Option Last → ℕ → Spot → Option ℕ
low_of None gates x = None
low_of (Some last) gates x = low_from last gates x

-- the gate before its own on its track
abbrev pub next_behind : Last → ℕ → Spot → Option ℕ
next_behind last gate x = if same_track last.spot x then Some gate else None

abbrev pub next_from : Last → ℕ → Spot → Option ℕ
next_from last zero x = None
next_from last (suc gate) x = next_behind last gate x

abbrev pub next_of : Option Last → ℕ → Spot → Option ℕ
next_of None gates x = None
next_of (Some last) gates x = next_from last gates x

abbrev pub pair_with : Option ℕ → ℕ → List Pair
pair_with None behind = []
pair_with (Some before) behind = record { before = before; behind = behind } ∷ []

-- a thing waits for the gate before its spot, and the gate after that for the thing and for the gate before it
abbrev pub spot_pairs : ℕ → ℕ → Option ℕ → Option ℕ → List Pair
spot_pairs thing gate low next = pair_with low thing ++ (pair_with next gate ++ pair_with (Some thing) gate)

abbrev pub gate_pairs : ℕ → ℕ → Option Last → List Spot → List Pair
gate_pairs gates gate last [] = []
gate_pairs gates gate last (x ∷ xs) =
    spot_pairs (gates + x.thing) gate (low_of last gate x) (next_of last gate x) ++ gate_pairs gates (suc gate) (Some (record { spot = x; low = low_of last gate x })) xs

-- the things among gates and things
abbrev pub things_of : ℕ → List ℕ → List ℕ
things_of gates [] = []
things_of gates (k ∷ ks) = if nat_lt k gates then things_of gates ks else (k - gates) ∷ things_of gates ks
