-- What comes first of downtimes that aren't past, and what each downtime of a run knows of it.
use Rattle.std.specs.Prelude.{◌≡◌, ℕ, ⊤, Bool, true, false, ◌&&◌, nat_lt, nat_le, Option, Some, None, List, [], ◌∷◌, map, if◌then◌else◌}
use Rattle.downtime_book.specs.declared.downtime.Downtime.{Downtime}
use Rattle.downtime_book.specs.declared.firsts.Firsts.{Firsts}
use Rattle.downtime_book.specs.declared.kind.Kind.{Kind}
use Rattle.downtime_book.specs.declared.kind.Kind.TheVariants.{Fixed, Flexible}
use Rattle.downtime_book.specs.declared.placed.Placed.{Placed}
use Rattle.downtime_book.specs.declared.rank.Rank.{Rank}
use Rattle.downtime_book.specs.Downtime.{kind_is_waiting}
use Rattle.downtime_book.specs.Naming.{rank_of, lesser}

-- as long as it is live it is in effect from its start on, once a result came: a problem puts one that waits into effect, if it lasts some time
abbrev pub kind_counts : Bool → Kind → Bool
kind_counts problem Fixed = true
kind_counts problem (Flexible duration (Some trigger)) = true
kind_counts problem (Flexible duration None) = problem && nat_lt 0 duration

-- the same of a downtime
abbrev pub counts : Bool → Downtime → Bool
counts problem d = kind_counts problem d.kind

-- it waits for a problem
abbrev pub is_waiting : Downtime → Bool
is_waiting d = kind_is_waiting d.kind

-- it counts, and has started
abbrev pub starts : ℕ → Bool → Downtime → Bool
starts moment problem d = counts problem d && nat_le d.start moment

-- the least rank of those that pass a test
abbrev pub first_of : (Downtime → Bool) → List Downtime → Option Rank
first_of test [] = None
first_of test (d ∷ ds) = if test d then Some (lesser (rank_of d) (first_of test ds)) else first_of test ds

-- what comes first of some downtimes
abbrev pub firsts_of : List Downtime → Firsts
firsts_of ds = record { settled = first_of (counts false) ds; in_problem = first_of (counts true) ds; waiting = first_of is_waiting ds }

-- the downtimes at their places
abbrev pub downtimes_of : List Placed → List Downtime
downtimes_of placed = map (λ p. p.downtime) placed

-- each has the firsts of those from it on
abbrev pub AreTold : List Placed → Type 0
AreTold [] = ⊤
AreTold (p ∷ ps) = (p.firsts ≡ firsts_of (p.downtime ∷ downtimes_of ps)) × AreTold ps
