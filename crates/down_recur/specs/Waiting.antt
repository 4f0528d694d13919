-- When nothing is due for a while.
use Rattle.std.specs.Prelude.{◌≡◌, ℕ, ◌+◌, ◌<◌, ◌≤◌, List, [], ◌∷◌, Option}
use Rattle.std.specs.List.{AllByRecursion}
use Rattle.jiff_tz.specs.declared.tzif.Tzif.{Tzif}
use Rattle.down_recur.specs.Due.{IsQuiet}
use Rattle.down_recur.specs.Giving.{lead}
use Rattle.down_recur.specs.declared.recurring.Recurring.{Recurring}
use Rattle.down_recur.specs.declared.waiting.Waiting.{Waiting}

abbrev pub recurring_in : Waiting → Recurring
recurring_in w = w.recurring

-- no segment that isn't done yet and ends after it was looked at begins before `next`
abbrev pub IsWaiting : Option Tzif → Waiting → Type 0
IsWaiting zone w = IsQuiet zone w.recurring.spans w.recurring.done w.seen w.next

abbrev pub AreWaiting : Option Tzif → List Waiting → Type 0
AreWaiting zone ws = AllByRecursion (IsWaiting zone) ws

-- at first it is looked at at once
abbrev pub IsFresh : Waiting → Type 0
IsFresh w = w.next ≡ 0

-- It was looked at no later than at a moment, and rests until a second: nothing is due before it. One that rests until 0 doesn't rest.
abbrev pub IsResting : ℕ → ℕ → Waiting → Type 0
IsResting seen second w = 0 < second → (w.seen ≤ seen) × (second + lead w.recurring.trigger ≤ w.next)

-- the same of each and its second
abbrev pub AreResting : ℕ → List ℕ → List Waiting → Type 0
AreResting seen [] [] = Unit {0}
AreResting seen [] (w ∷ ws) = ⊥
AreResting seen (second ∷ seconds) [] = ⊥
AreResting seen (second ∷ seconds) (w ∷ ws) = IsResting seen second w × AreResting seen seconds ws
