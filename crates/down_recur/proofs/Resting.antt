-- What rests gives nothing and stays as it is.
use Rattle.std.proofs.Common.{◌≡◌, ℕ, zero, suc, ◌+◌, ◌-◌, ◌<◌, ◌≤◌, Bool, true, false, cond, List, [], ◌∷◌, ◌++◌, map, drop, length, set, replicate, Option, refl, sym, ap, ◌∙◌, subst, arith}
use Rattle.std.specs.List.{AllByRecursion, flat_map}
use Rattle.jiff_tz.specs.declared.tzif.Tzif.{Tzif}
use Rattle.site_model.specs.PlainSite.{PlainSite}
use Rattle.run_meaning.specs.Turns.{Histories}
use Rattle.down_recur.proofs.NoneDue.{quiet_none}
use Rattle.down_recur.proofs.Steps.{AreChanged}
use Rattle.site_base.specs.declared.day_span.DaySpan.{DaySpan}
use Rattle.down_recur.specs.Due.{IsQuiet}
use Rattle.down_recur.specs.Giving.{after_at, done_after, due_at, given_at, is_triggered, lead, lines_at, lines_of}
use Rattle.down_recur.specs.Rests.{RestFrom}
use Rattle.down_recur.specs.Waiting.{AreResting, AreWaiting, IsFresh, IsResting, IsWaiting, recurring_in}
use Rattle.down_recur.specs.declared.recurring.Recurring.{Recurring}
use Rattle.down_recur.specs.declared.segment.Segment.{Segment}
use Rattle.down_recur.specs.declared.waiting.Waiting.{Waiting}

either_none : (b : Bool) (l : List Segment) → l ≡ [] → cond b l [] ≡ []
either_none true l e = e
either_none false l e = refl

module _ (s : PlainSite) (zone : Option Tzif) (histories : Histories) (moment : ℕ) where
  abbrev lines : Recurring → List (List ℕ)
  lines r = lines_at s zone histories moment r

  abbrev then : Recurring → Recurring
  then r = after_at s zone histories moment r

  none_given : (r : Recurring) → due_at zone moment r ≡ [] → given_at s zone histories moment r ≡ []
  none_given r e = either_none (is_triggered s histories moment r.trigger) (due_at zone moment r) e

  no_lines : (r : Recurring) → given_at s zone histories moment r ≡ [] → lines r ≡ []
  no_lines r e = ap (lines_of moment r) e

  unchanged : (r : Recurring) → given_at s zone histories moment r ≡ [] → then r ≡ r
  unchanged r e = ap (λ l. record r { done = done_after (moment + lead r.trigger) l r.done }) e

  resting_none : (w : Waiting) (second : ℕ) → IsWaiting zone w → IsResting moment second w → moment < second → given_at s zone histories moment w.recurring ≡ []
  resting_none w second quiet rests h =
      let found = rests (omega arith) in
      none_given w.recurring (quiet_none zone w.recurring.spans w.recurring.done (moment + lead w.recurring.trigger) moment w.seen w.next quiet found.0 (omega (arith, found.1)))

  -- the same of the first ones, and then of those from a place on and before another
  first_rest : (n : ℕ) (seconds : List ℕ) (ws : List Waiting) → AreWaiting zone ws → AreResting moment seconds ws → RestFrom moment 0 n seconds → n ≤ length ws
      → (flat_map lines (map recurring_in ws) ≡ flat_map lines (drop n (map recurring_in ws))) × AreChanged recurring_in then n ws (map recurring_in ws)
  first_rest zero seconds ws q a r h = (refl, refl)
  first_rest (suc n) [] [] q a r h = absurd (omega arith)
  first_rest (suc n) [] (w ∷ ws) q a r h = absurd a
  first_rest (suc n) (t ∷ ts) [] q a r h = absurd a
  first_rest (suc n) (t ∷ ts) (w ∷ ws) q a r h =
      let none = resting_none w t q.0 a.0 (r 0 (omega arith) (omega arith) (omega arith)) in
      let more = first_rest n ts ws q.1 a.1 (λ k from till within. r (suc k) (omega arith) (omega arith) (omega arith)) (omega arith) in (
        ap (λ l. l ++ flat_map lines (map recurring_in ws)) (no_lines w.recurring none) ∙ more.0,
        ap (λ x. x ∷ map recurring_in ws) (sym (unchanged w.recurring none)) ∙ ap (λ l. then w.recurring ∷ l) more.1,
      )

  abbrev head_or : Recurring → List Recurring → Recurring
  head_or d [] = d
  head_or d (r ∷ rs) = r

  abbrev tail_of : List Recurring → List Recurring
  tail_of [] = []
  tail_of (r ∷ rs) = rs

  pub rest_between : (i n : ℕ) (seconds : List ℕ) (ws : List Waiting) (rs : List Recurring) → AreWaiting zone ws → AreResting moment seconds ws → RestFrom moment i n seconds → i ≤ n → n ≤ length ws → AreChanged recurring_in then i ws rs
      → (flat_map lines (drop i rs) ≡ flat_map lines (drop n rs)) × AreChanged recurring_in then n ws rs
  rest_between zero n seconds ws rs q a r h k e =
      subst (λ l. (flat_map lines l ≡ flat_map lines (drop n l)) × AreChanged recurring_in then n ws l) e (first_rest n seconds ws q a r k)
  rest_between (suc i) zero seconds ws rs q a r h k e = absurd (omega arith)
  rest_between (suc i) (suc n) [] [] rs q a r h k e = absurd (omega arith)
  rest_between (suc i) (suc n) [] (w ∷ ws) rs q a r h k e = absurd a
  rest_between (suc i) (suc n) (t ∷ ts) [] rs q a r h k e = absurd a
  rest_between (suc i) (suc n) (t ∷ ts) (w ∷ ws) [] q a r h k e = absurd cc
  rest_between (suc i) (suc n) (t ∷ ts) (w ∷ ws) (p ∷ ps) q a r h k e =
      let more = rest_between i n ts ws ps q.1 a.1 (λ j from till within. r (suc j) (omega arith) (omega arith) (omega arith)) (omega arith) (omega arith) (ap tail_of e) in (
        more.0,
        ap (λ x. x ∷ map recurring_in ws) (ap (head_or p) e) ∙ ap (λ l. then p ∷ l) more.1,
      )

-- ---- until when they rest

-- nothing is due before the first second
none_quiet : (clock : Option Tzif) (spans : List DaySpan) (done seen next : ℕ) → next ≡ 0 → IsQuiet clock spans done seen next
none_quiet clock [] done seen next e = tt
none_quiet clock (span ∷ spans) done seen next e = (λ day s is from lasts. omega arith, none_quiet clock spans done seen next e)

pub fresh_waiting : (clock : Option Tzif) (ws : List Waiting) → AllByRecursion IsFresh ws → AreWaiting clock ws
fresh_waiting clock [] h = tt
fresh_waiting clock (w ∷ ws) h = (none_quiet clock w.recurring.spans w.recurring.done w.seen w.next h.0, fresh_waiting clock ws h.1)

-- there is a second for each
pub resting_many : (seen : ℕ) (seconds : List ℕ) (ws : List Waiting) → AreResting seen seconds ws → length seconds ≡ length ws
resting_many seen [] [] a = refl
resting_many seen [] (w ∷ ws) a = absurd a
resting_many seen (t ∷ ts) [] a = absurd a
resting_many seen (t ∷ ts) (w ∷ ws) a = ap suc (resting_many seen ts ws a.1)

-- one that rests until 0 doesn't rest
pub awake : (seen : ℕ) (ws : List Waiting) → AreResting seen (replicate (length ws) 0) ws
awake seen [] = tt
awake seen (w ∷ ws) = (λ h. absurd (omega arith), awake seen ws)

pub resting_later : (seen moment : ℕ) (seconds : List ℕ) (ws : List Waiting) → seen ≤ moment → AreResting seen seconds ws → AreResting moment seconds ws
resting_later seen moment [] [] h a = tt
resting_later seen moment [] (w ∷ ws) h a = absurd a
resting_later seen moment (t ∷ ts) [] h a = absurd a
resting_later seen moment (t ∷ ts) (w ∷ ws) h a = (λ some. let found = a.0 some in (omega (arith, found.0), found.1), resting_later seen moment ts ws h a.1)

-- one rests until another second
pub resting_set : (seen i second : ℕ) (seconds : List ℕ) (ws : List Waiting) (v : Waiting) → AreResting seen seconds ws → IsResting seen second v → AreResting seen (set seconds i second) (set ws i v)
resting_set seen i second [] [] v a is = tt
resting_set seen i second [] (w ∷ ws) v a is = absurd a
resting_set seen i second (t ∷ ts) [] v a is = absurd a
resting_set seen zero second (t ∷ ts) (w ∷ ws) v a is = (is, a.1)
resting_set seen (suc i) second (t ∷ ts) (w ∷ ws) v a is = (a.0, resting_set seen i second ts ws v a.1 is)

-- until the second that is noted
pub rests_until : (seen : ℕ) (v : Waiting) → v.seen ≤ seen → IsResting seen (v.next - lead v.recurring.trigger) v
rests_until seen v h = λ some. (h, omega arith)
