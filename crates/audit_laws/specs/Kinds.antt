-- Events in the order of their kinds.
use Rattle.std.specs.Prelude.{◌≡◌, ◌<◌, ◌≤◌, ◌++◌, ℕ, nat_lt, not, List, [], ◌∷◌, filter}
use Rattle.std.specs.List.{AllByRecursion}
use Rattle.run_meaning.specs.Rounds.{events_on}
use Rattle.run_meaning.specs.Turns.{Asked}

-- each is of no lower kind than those before it, or of a higher one
abbrev pub NeverFall : (Asked → ℕ) → List Asked → Type 0
NeverFall kind [] = Unit {0}
NeverFall kind (a ∷ as') = AllByRecursion (λ b. kind a ≤ kind b) as' × NeverFall kind as'

abbrev pub AllRise : (Asked → ℕ) → List Asked → Type 0
AllRise kind [] = Unit {0}
AllRise kind (a ∷ as') = AllByRecursion (λ b. kind a < kind b) as' × AllRise kind as'

-- the same on each checkable
abbrev pub AreSameOnEach : List Asked → List Asked → Type 0
AreSameOnEach xs ys = (c : ℕ) → events_on c xs ≡ events_on c ys

-- what a turn brings: lines, which are below one kind; results for which a macro is missing, which rise by their checkables; other
-- reports, which are below a third; and ticks, which rise too
pub record AreOfTurn (kind : Asked → ℕ) (low middle high : ℕ) (lines lacking reports ticks : List Asked) : Type 0 where
  pub ordered : (low ≤ middle) × (middle ≤ high)
  pub are_lines : AllByRecursion (λ a. kind a < low) lines
  pub are_lacking : AllByRecursion (λ a. low ≤ kind a) lacking
  pub lacking_end : AllByRecursion (λ a. kind a < middle) lacking
  pub are_reports : AllByRecursion (λ a. middle ≤ kind a) reports
  pub reports_end : AllByRecursion (λ a. kind a < high) reports
  pub are_ticks : AllByRecursion (λ a. high ≤ kind a) ticks
  pub lacking_rise : AllRise kind lacking
  pub ticks_rise : AllRise kind ticks
  -- of these the kinds go by checkables
  pub lacking_places : (a b : Asked) → a.checkable ≡ b.checkable → (low ≤ kind a) × (kind a < middle) → (low ≤ kind b) × (kind b < middle) → kind a ≡ kind b
  pub tick_places : (a b : Asked) → a.checkable ≡ b.checkable → high ≤ kind a → high ≤ kind b → kind a ≡ kind b

-- the lines of events whose kinds never fall, and their reports
abbrev pub lines_among : (Asked → ℕ) → ℕ → List Asked → List Asked
lines_among kind low all = filter (λ a. nat_lt (kind a) low) all

abbrev pub reports_among : (Asked → ℕ) → ℕ → ℕ → ℕ → List Asked → List Asked
reports_among kind low middle high all =
    filter (λ a. nat_lt (kind a) high) (filter (λ a. not (nat_lt (kind a) middle)) (filter (λ a. not (nat_lt (kind a) low)) all))

-- the same events, but lines may be in another order among lines, and reports among reports
pub record AreAsInTurn (kind : Asked → ℕ) (low middle high : ℕ) (lines lacking reports ticks all : List Asked) : Type 0 where
  pub are : all ≡ lines_among kind low all ++ (lacking ++ (reports_among kind low middle high all ++ ticks))
  pub same_lines : AreSameOnEach (lines_among kind low all) lines
  pub same_reports : AreSameOnEach (reports_among kind low middle high all) reports
