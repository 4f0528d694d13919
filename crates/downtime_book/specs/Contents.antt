-- What a book keeps, and the calls that it stands for.
use Rattle.std.specs.Prelude.{◌≡◌, ℕ, List, filter, IsPermutation}
use Rattle.std.specs.List.{flat_map}
use Rattle.std.specs.List.Sorted.{IsNonDecreasingBy}
use Rattle.downtime_book.specs.declared.downtime.Downtime.{Downtime}
use Rattle.downtime_book.specs.Downtime.{until, is_live}
use Rattle.downtime_book.specs.Calls.{Call, downtimes, latest}

-- what clauses see of a book: its latest moment, and the downtimes that it keeps
pub record Contents : Type 0 where
  pub latest : ℕ
  pub downtimes : List Downtime

-- the downtimes of all of these lists
abbrev pub together : List (List Downtime) → List Downtime
together runs = flat_map (λ run. run) runs

-- none ends before one that stands ahead of it
abbrev pub IsInOrder : List Downtime → Type 0
IsInOrder ds = IsNonDecreasingBy until ds

-- the downtimes of these calls that are live at their latest moment
abbrev pub live_downtimes : List Call → List Downtime
live_downtimes calls = filter (is_live (latest calls)) (downtimes calls)

-- the book stands for these calls: it has their latest moment, and keeps exactly their live downtimes, in some order
pub record StandsFor (book : Contents) (calls : List Call) : Type 0 where
  pub latest : book.latest ≡ latest calls
  pub downtimes : IsPermutation (live_downtimes calls) book.downtimes
