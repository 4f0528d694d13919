-- Which of several downtimes is named.
use Rattle.std.specs.Prelude.{◌≡◌, ℕ, ◌<◌, ◌≤◌, ◌⊎◌, Bool, true, false, ◌&&◌, ◌||◌, ◌==◌, nat_lt, nat_le, Option, Some, None, MatchOption, List, [], ◌∷◌, All, Any, if◌then◌else◌}
use Rattle.downtime_book.specs.declared.downtime.Downtime.{Downtime}
use Rattle.downtime_book.specs.declared.rank.Rank.{Rank}
use Rattle.downtime_book.specs.Downtime.{is_in_effect}

-- what decides between downtimes: the start, then the number
abbrev pub rank_of : Downtime → Rank
rank_of d = record { start = d.start; number = d.number }

-- the earlier start, then the lesser number
abbrev pub goes_first : Rank → Rank → Bool
goes_first a b = nat_lt a.start b.start || ((a.start == b.start) && nat_le a.number b.number)

-- the lesser of the two, if there is another
abbrev pub lesser : Rank → Option Rank → Rank
lesser a None = a
lesser a (Some b) = if goes_first a b then a else b

-- the rank, if the downtime has started at the moment
abbrev pub started : ℕ → Option Rank → Option Rank
started moment None = None
started moment (Some r) = if nat_le r.start moment then Some r else None

-- the least rank of those that are in effect
abbrev pub least : ℕ → List Downtime → Option Rank
least moment [] = None
least moment (d ∷ ds) = if is_in_effect moment d then Some (lesser (rank_of d) (least moment ds)) else least moment ds

-- the number of a rank, if there is one
abbrev pub number_of : Option Rank → Option ℕ
number_of None = None
number_of (Some r) = Some r.number

-- the number of the downtime that is named at the moment
abbrev pub named : ℕ → List Downtime → Option ℕ
named moment ds = number_of (least moment ds)

-- the first starts earlier, or at the same moment with a number that isn't greater
abbrev pub Precedes : Downtime → Downtime → Type 0
Precedes d e = (d.start < e.start) ⊎ ((d.start ≡ e.start) × (d.number ≤ e.number))

-- the answer is the number of one that is in effect and precedes each other in effect; none is where none is in effect
abbrev pub Names : ℕ → List Downtime → Option ℕ → Type 0
Names moment ds answer =
    MatchOption answer (All (λ d. is_in_effect moment d ≡ false) ds)
    (λ n. Any (λ d. (d.number ≡ n) × (is_in_effect moment d ≡ true) × All (λ e. is_in_effect moment e ≡ true → Precedes d e) ds) ds)
