-- What came to a book, and what its downtimes are, by a look back over it.
use Rattle.std.specs.Prelude.{ℕ, max, Bool, false, ◌&&◌, ◌||◌, ◌==◌, nat_lt, nat_le, Option, Some, None, List, [], ◌∷◌, if◌then◌else◌}
use Rattle.std.specs.List.{list_any}
use Rattle.downtime_book.specs.declared.downtime.Downtime.{Downtime}
use Rattle.downtime_book.specs.declared.kind.Kind.{Kind}
use Rattle.downtime_book.specs.declared.kind.Kind.TheVariants.{Fixed, Flexible}
use Rattle.downtime_book.specs.Downtime.{is_live}

-- what changed a book: a downtime was added, a result came, a downtime was cancelled. A call that was refused is none.
-- In lists of them the first call stands first.
pub data Call : Type 0 where
  added : (number start finish : ℕ) → (fixed : Bool) → (duration : ℕ) → Call
  resulted : (moment : ℕ) → (problem : Bool) → Call
  cancelled : (number moment : ℕ) → Call

-- the moment of the first problem result that comes from start on and before finish
abbrev pub first_problem : ℕ → ℕ → List Call → Option ℕ
first_problem start finish [] = None
first_problem start finish (added n s e f d ∷ calls) = first_problem start finish calls
first_problem start finish (resulted t problem ∷ calls) =
    if problem && nat_le start t && nat_lt t finish then Some t else first_problem start finish calls
first_problem start finish (cancelled n t ∷ calls) = first_problem start finish calls

-- whether a downtime of this number is cancelled in these calls
abbrev pub is_cancelled : ℕ → List Call → Bool
is_cancelled number [] = false
is_cancelled number (added n s e f d ∷ calls) = is_cancelled number calls
is_cancelled number (resulted t p ∷ calls) = is_cancelled number calls
is_cancelled number (cancelled n t ∷ calls) = (n == number) || is_cancelled number calls

-- how a downtime takes effect, by the calls after it
abbrev pub kind_of : ℕ → ℕ → Bool → ℕ → List Call → Kind
kind_of start finish fixed duration later =
    if fixed then Fixed else Flexible duration (first_problem start finish later)

-- a downtime that was added, by the calls after it
abbrev pub downtime_of : ℕ → ℕ → ℕ → Bool → ℕ → List Call → Downtime
downtime_of n s e fixed duration later =
    record { number = n; start = s; «end» = e; kind = kind_of s e fixed duration later }

-- the downtimes that were added and not cancelled, each with the trigger that the calls after it gave
abbrev pub downtimes : List Call → List Downtime
downtimes [] = []
downtimes (added n s e f d ∷ later) =
    if is_cancelled n later then downtimes later
    else downtime_of n s e f d later ∷ downtimes later
downtimes (resulted t p ∷ later) = downtimes later
downtimes (cancelled n t ∷ later) = downtimes later

-- the latest moment that a result or a cancel brought, or 0
abbrev pub latest : List Call → ℕ
latest [] = 0
latest (added n s e f d ∷ calls) = latest calls
latest (resulted t p ∷ calls) = max t (latest calls)
latest (cancelled n t ∷ calls) = max t (latest calls)

-- whether a downtime of this number is live at the moment
abbrev pub is_live_in : List Call → ℕ → ℕ → Bool
is_live_in calls number moment = list_any (λ d. (d.number == number) && is_live moment d) (downtimes calls)
