-- What is given at which turn, in the words of the rule.
use Rattle.std.specs.Prelude.{◌≡◌, ◌↔◌, ℕ, ◌+◌, ◌<◌, ◌≤◌, true, false, List, [], ◌∷◌, Contains, Option}
use Rattle.std.specs.List.{AllByRecursion}
use Rattle.std.specs.List.Sorted.{IsNonDecreasingBy}
use Rattle.jiff_tz.specs.declared.tzif.Tzif.{Tzif}
use Rattle.site_model.specs.PlainSite.{PlainSite}
use Rattle.run_meaning.specs.Turns.{Begun}
use Rattle.down_recur.specs.Giving.{after_at, given_at, is_triggered, lead}
use Rattle.down_recur.specs.Recurrings.{has_semicolon, is_nameable, recurrings}
use Rattle.down_recur.specs.Segments.{IsSegmentOf}
use Rattle.down_recur.specs.declared.recurring.Recurring.{Recurring}
use Rattle.down_recur.specs.declared.segment.Segment.{Segment}

-- A segment may be given at a turn: it begins at most so far ahead and ends after the turn's moment, and the trigger, if there is one, has a
-- downtime in effect.
pub record MayBeGiven (s : PlainSite) (trigger : Option ℕ) (turn : Begun) (segment : Segment) : Type 0 where
  pub triggered : is_triggered s turn.histories turn.moment trigger ≡ true
  pub soon : segment.start ≤ turn.moment + lead trigger
  pub lasts : turn.moment < segment.«end»

-- no turn is after this moment, nor after the one ahead of it: the last turn stands first
abbrev pub AreEarlier : ℕ → List Begun → Type 0
AreEarlier moment [] = Unit {0}
AreEarlier moment (turn ∷ turns) = (turn.moment ≤ moment) × AreEarlier turn.moment turns

-- what recurs after turns, of which the last stands first
abbrev pub after_all : PlainSite → Option Tzif → Recurring → List Begun → Recurring
after_all s clock r [] = r
after_all s clock r (turn ∷ turns) = after_at s clock turn.histories turn.moment (after_all s clock r turns)

-- Each segment of an object is given at the first turn at which it may be, and at no other.
abbrev pub IsGivenOnce : Type 0
IsGivenOnce =
    (s : PlainSite) (zone : Option Tzif) (r : Recurring) (turns : List Begun) (now : Begun) (segment : Segment) → r.done ≡ 0 → AreEarlier now.moment turns
    → Contains (given_at s zone now.histories now.moment (after_all s zone r turns)) segment
    ↔ (IsSegmentOf zone r.spans segment × MayBeGiven s r.trigger now segment × AllByRecursion (λ turn. MayBeGiven s r.trigger turn segment → ⊥) turns)

-- and those of one turn by their starts
abbrev pub AreGivenInOrder : Type 0
AreGivenInOrder =
    (s : PlainSite) (zone : Option Tzif) (r : Recurring) (turn : Begun)
    → IsNonDecreasingBy (λ segment. segment.start) (given_at s zone turn.histories turn.moment r)

-- What stands for an object at first: names without a semicolon, a duration no longer than the greatest moment, and nothing that was given.
pub record IsNew (r : Recurring) : Type 0 where
  pub host : has_semicolon r.host ≡ false
  pub service : is_nameable r.service ≡ true
  pub duration : r.duration ≤ 99_999_999_999
  pub done : r.done ≡ 0

abbrev pub AreNew : Type 0
AreNew = (s : PlainSite) (r : Recurring) → Contains (recurrings s) r → IsNew r
