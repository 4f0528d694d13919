-- The order in which members are due.
use Rattle.std.specs.Prelude.{◌≡◌, ℕ, ◌<◌, ◌≤◌, Some}
use Rattle.wheel_links.specs.Members.{Members, moment_of}

-- (moment, id) isn't after (other_moment, other): the moment decides, and then the id
abbrev pub IsNotAfter : ℕ → ℕ → ℕ → ℕ → Type 0
IsNotAfter moment id other_moment other = (moment ≤ other_moment) × (moment ≡ other_moment → id ≤ other)

-- no member's moment is at or before this one
abbrev pub IsNoneDue : Members → ℕ → Type 0
IsNoneDue members now = (id moment : ℕ) → moment_of members id ≡ Some moment → now < moment

-- the id is due: a member whose moment is at or before this one, and no other member's (moment, id) is before its own
pub record IsNextDue (members : Members) (now id : ℕ) : Type 0 where
  pub moment : ℕ
  pub member : moment_of members id ≡ Some moment
  pub due : moment ≤ now
  pub first : (other other_moment : ℕ) → moment_of members other ≡ Some other_moment → IsNotAfter moment id other_moment other
