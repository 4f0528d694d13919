-- A plan before a round, after it, and after the walk.
use Rattle.std.proofs.Common.{◌≡◌, ◌<◌, ◌≤◌, ◌&&◌, ◌||◌, not, cond, ℕ, zero, suc, ◌+◌, List, [], ◌∷◌, ◌++◌, length, map, filter, slice_get, Bool, true, false, Option, Some, Result, Ok, Err, refl, sym, ap, ◌∙◌, subst, arith, length-append}
use Rattle.std.specs.Prelude.{IfOk, OnOk}
use Rattle.std.specs.List.{list_any}
use Rattle.std.proofs.lemmas.List.{append-nil}
use Rattle.jiff_tz.specs.declared.tzif.Tzif.{Tzif}
use Rattle.checkable_core.specs.Contents.{Contents, check_at}
use Rattle.depend_graph.specs.Outlooks.{holds_in}
use Rattle.run_meaning.specs.Acts.{Rules, Seen}
use Rattle.run_meaning.specs.Dealing.{dealt, still, taken_reports, ticks_from}
use Rattle.run_meaning.specs.Reachability.{Outlook, for_checks}
use Rattle.run_meaning.specs.Rounds.{IsRound, behind}
use Rattle.run_meaning.specs.Runs.{joined}
use Rattle.run_meaning.specs.Schedule.{Watch, again_at, due_from, is_waiting, outlook_after, seen_after, walk_from, walk_over, watch_from, watch_with, watches_after}
use Rattle.run_meaning.specs.Turns.{Asked, Command, Histories, Outstanding, Plans, Reported, is_command, of_index}
use Rattle.run_meaning.specs.View.{view_of}
use Rattle.run_meaning.proofs.Counting.{as_many_wait, fewer_still, within_still}
use Rattle.run_meaning.proofs.Lists.{length_map}
use Rattle.run_meaning.proofs.Outstanding.{AreSingle, is_report, none_still, round_reports, single_still, waits_still}
use Rattle.site_model.specs.PlainSite.{PlainCheck, PlainSite}
use Rattle.site_model.specs.declared.entry.Entry.{Entry}
use Rattle.site_model.specs.declared.event.Event.{Event}
use Rattle.site_model.specs.declared.event.Event.TheVariants as event
use Rattle.site_model.specs.declared.view.View.{View}
use Rattle.site_posts.specs.Books.{histories_of}
use Rattle.site_posts.specs.declared.segment.Segment.{Segment}
use Rattle.site_posts.proofs.Behind.{joined_at}
use Rattle.check_plan.specs.Followed.{followed, followed_from}
use Rattle.check_plan.specs.Plans.{AreApart, AreGiven, IsPlan, Plan, TellWaiting, plans_of}
use Rattle.check_plan.specs.Rounds.{BeginsWith, IsRoundOf, with_round}
use Rattle.check_plan.specs.Walks.{IsOnWay, Standing, first_of, outlook_now, outstanding_as, walked}
use Rattle.check_plan.proofs.Aside.{none_aside}
use Rattle.check_plan.proofs.BySegments.{after_plans, many_followed, plan_watches}

-- The walk is the schedule's.

module _ (s : PlainSite) (before round : Histories) where
  abbrev seen_so : ℕ → View → Seen
  seen_so k v = record { checkable = k; view = v }

  seen_joined : (k : ℕ) (cs : List PlainCheck) → seen_after k cs (joined before round) [] ≡ seen_after k cs before round
  seen_joined k [] = refl
  seen_joined k (c ∷ cs) =
      ap (λ es. seen_so k (view_of c es) ∷ seen_after (suc k) cs (joined before round) []) (append-nil (of_index k (joined before round)) ∙ joined_at before round k)
      ∙ ap (λ xs. seen_so k (view_of c (behind before round k)) ∷ xs) (seen_joined (suc k) cs)

  abbrev outlook_with : Option Tzif → ℕ → List Seen → Outlook
  outlook_with zone moment xs = record { site = s; holds = holds_in s zone; purpose = for_checks; moment = moment; seen = xs }

  outlook_is : (zone : Option Tzif) (moment : ℕ) (books : List Contents) → histories_of books ≡ joined before round → outlook_now s zone moment (histories_of books) ≡ outlook_after s (holds_in s zone) moment before round
  outlook_is zone moment books stand =
      ap (outlook_now s zone moment) stand
      ∙ ap (outlook_with zone moment) (seen_joined 0 s.checkables)

  watches_are : (plans : Plans) (p : Plan) → BeginsWith s plans p → followed s before round p.watches ≡ watches_after s plans before round
  watches_are plans p begins = ap (followed s before round) begins.watches ∙ after_plans s before round plans.slots plans.outstanding

  pub walk_is : (zone : Option Tzif) (command : ℕ → Command) (moment : ℕ) (plans : Plans) (p : Plan) (books : List Contents) → BeginsWith s plans p → histories_of books ≡ joined before round
      → walked command (outlook_now s zone moment (histories_of books)) (with_round s before round p)
      ≡ walk_over command (outlook_after s (holds_in s zone) moment before round) (due_from moment 0 (watches_after s plans before round)) (walk_from plans (watches_after s plans before round))
  walk_is zone command moment plans p books begins stand =
      ap (λ o. walked command o (with_round s before round p)) (outlook_is zone moment books stand)
      ∙ ap (λ ws. walked command (outlook_after s (holds_in s zone) moment before round) (record p { watches = ws })) (watches_are plans p begins)
      ∙ ap (λ g. walked command (outlook_after s (holds_in s zone) moment before round) (record { watches = watches_after s plans before round; orders = record { given = g; outstanding = p.orders.outstanding } })) begins.given

-- the same where the entries of the round were followed by now
pub walk_from_round : (s : PlainSite) (zone : Option Tzif) (command : ℕ → Command) (moment : ℕ) (plans : Plans) (p : Plan) (books : List Contents) (before round : Histories) (segments : List Segment) (ws : List Watch) → BeginsWith s plans p → IsRoundOf s books segments before round
    → ws ≡ followed s before round p.watches → walked command (outlook_now s zone moment (histories_of books)) (record { watches = ws; orders = p.orders })
    ≡ walk_over command (outlook_after s (holds_in s zone) moment before round) (due_from moment 0 (watches_after s plans before round)) (walk_from plans (watches_after s plans before round))
walk_from_round s zone command moment plans p books before round segments ws begins is now =
    ap (λ vs. walked command (outlook_now s zone moment (histories_of books)) (record { watches = vs; orders = p.orders })) now ∙ walk_is s before round zone command moment plans p books begins is.stand

-- Answers.

pub if_ok : {T E : Type 0} {P Q : T → Type 0} → ((x : T) → P x → Q x) → (r : Result T E) → IfOk r P → IfOk r Q
if_ok step (Ok x) h = step x h
if_ok step (Err e) h = tt

pub on_ok : {T E : Type 0} {P Q : Type 0} → (P → Q) → (r : Result T E) → OnOk r P → OnOk r Q
on_ok step (Ok x) h = step h
on_ok step (Err e) h = tt

-- A plan begins with its own plans.

pub begins_own : (s : PlainSite) (p : Plan) (os : List Outstanding) → IsPlan s p → BeginsWith s (plans_of p) (record p { orders = record { given = p.orders.given; outstanding = os } })
begins_own s p os is = record { watches = sym (plan_watches s p.watches p.orders.outstanding is.whole is.waiting); given = refl }

-- Orders that are apart.

pub single_of : (os : List Outstanding) → AreApart os → AreSingle os
single_of [] h = tt
single_of (o ∷ os) h = (h.0, h.1, single_of os h.2)

pub apart_of : (os : List Outstanding) → AreSingle os → AreApart os
apart_of [] h = tt
apart_of (o ∷ os) h = (h.0, h.1, apart_of os h.2)

-- After the walk.

pub many_wait : (s : PlainSite) (p : Plan) → IsPlan s p → length (filter (λ w. w.waiting) p.watches) ≡ length p.orders.outstanding
many_wait s p is =
    as_many_wait p.watches p.orders.outstanding (single_of p.orders.outstanding is.given.apart) (subst (λ n. (i : ℕ) (o : Outstanding) → slice_get p.orders.outstanding i ≡ Some o → o.checkable < n) (sym is.whole) is.given.within)
    (λ i w at. let z : i ≡ 0 + i = omega arith in is.waiting i w at ∙ ap (is_waiting p.orders.outstanding) z)

pub plan_walked : (s : PlainSite) (o : Outlook) (p : Plan) (y : Standing) (ws : List Watch) → o.site ≡ s → IsPlan s p → IsOnWay o (first_of p) y → length ws ≡ length y.plan.watches → TellWaiting ws y.plan.orders.outstanding → IsPlan s (record { watches = ws; orders = y.plan.orders })
plan_walked s o p y ws site is way whole tell = record {
  whole = whole ∙ way.whole ∙ is.whole;
  waiting = tell;
  given = subst (λ n. AreGiven n y.plan.orders.given y.plan.orders.outstanding) is.whole
      (way.given (none_aside p.watches p.orders.outstanding is.waiting) (subst (λ n. AreGiven n p.orders.given p.orders.outstanding) (sym is.whole) is.given));
  few =
      (let most = ap (λ (t : PlainSite). t.max_orders) site in
      let n = many_wait s p is in
      let m = is.few in
      let f = way.few (omega (arith, n, m, most)) in
      let c = way.counted in
      let t = ap length (way.told p.orders.outstanding (sym (append-nil p.orders.outstanding))) in
      let a = length-append p.orders.outstanding (map outstanding_as y.orders) in
      let b = length_map outstanding_as y.orders in
      omega (arith, n, f, c, t, a, b, most));
}

-- After a round.

keeps_true : (b : Bool) → b ≡ (b && not false)
keeps_true true = refl
keeps_true false = refl

and_or : (a b c : Bool) → ((a && not b) && not c) ≡ (a && not (b || c))
and_or true true c = refl
and_or true false c = refl
and_or false b c = refl

-- what waits goes on waiting, and nothing else does
kept_or_not : (w v : Watch) → v.waiting ≡ false → (t : Bool) → w.waiting ≡ t → (cond t w v).waiting ≡ (w.waiting && not false)
kept_or_not w v h true q = keeps_true w.waiting
kept_or_not w v h false q = h ∙ sym (ap (λ b. b && not false) q)

never : (b : Bool) → false ≡ (b && not true)
never true = refl
never false = refl

-- a report's result ends the waiting
waits_once : (c : PlainCheck) (v : View) (moment : ℕ) (e : Event) (w : Watch) → (watch_with c v moment e w).waiting ≡ (w.waiting && not (is_report e))
waits_once c v moment (event.Result status true output perf) w = kept_or_not w (record { slot = record { next = again_at c v moment; forced = w.slot.forced }; waiting = false }) refl w.waiting refl
waits_once c v moment (event.Result status false output perf) w = never w.waiting
waits_once c v moment (event.Check at forced) w = kept_or_not w (record { slot = record { next = at; forced = w.slot.forced || forced }; waiting = false }) refl w.waiting refl
waits_once c v moment event.Tick w = keeps_true w.waiting
waits_once c v moment (event.Ack sticky notify) w = keeps_true w.waiting
waits_once c v moment event.Unack w = keeps_true w.waiting
waits_once c v moment (event.Down start finish fixed duration) w = keeps_true w.waiting
waits_once c v moment (event.Undown number) w = keeps_true w.waiting
waits_once c v moment (event.Checks on) w = keeps_true w.waiting
waits_once c v moment (event.Notes on) w = keeps_true w.waiting

waits_with : (c : PlainCheck) (history es : List Entry) (w : Watch) → (watch_from c history es w).waiting ≡ (w.waiting && not (list_any (λ e. is_report e.event) es))
waits_with c history [] w = keeps_true w.waiting
waits_with c history (e ∷ es) w =
    let v = view_of c (history ++ e ∷ []) in
    waits_with c (history ++ e ∷ []) es (watch_with c v e.moment e.event w)
    ∙ ap (λ b. b && not (list_any (λ (e : Entry). is_report e.event) es)) (waits_once c v e.moment e.event w)
    ∙ and_or w.waiting (is_report e.event) (list_any (λ (e : Entry). is_report e.event) es)

-- the watch at a place after a round is that before it with the entries of its checkable
followed_at : (s : PlainSite) (before : Histories) (k i : ℕ) (round : Histories) (ws : List Watch) (v : Watch) → slice_get (followed_from s k before round ws) i ≡ Some v
    → (w : Watch) × (slice_get ws i ≡ Some w) × (v ≡ watch_from (check_at s (k + i)) (of_index (k + i) before) (of_index i round) w)
followed_at s before k i [] ws v at = (v, at, refl)
followed_at s before k i (es ∷ round) [] v at = absurd cc
followed_at s before k zero (es ∷ round) (w ∷ ws) v at =
    let z : k ≡ k + 0 = omega arith in
    let is : watch_from (check_at s k) (of_index k before) es w ≡ v = cc in
    (w, refl, sym is ∙ ap (λ n. watch_from (check_at s n) (of_index n before) es w) z)
followed_at s before k (suc i) (es ∷ round) (w ∷ ws) v at =
    let z : suc k + i ≡ k + suc i = omega arith in
    let (u, there, is) = followed_at s before (suc k) i round ws v at in
    (u, there, is ∙ ap (λ n. watch_from (check_at s n) (of_index n before) (of_index i round) u) z)

module _ (b : Rules) (moment : ℕ) (before round : Histories) (callers : ℕ) (lines : List Asked) (rs : List Reported) (p : Plan) (some : 1 ≤ callers) (asked : not (list_any (λ a. not (is_command a.event)) lines) ≡ true)
    (is : IsRound b moment before (dealt callers lines (taken_reports p.orders.outstanding rs) (ticks_from 0 b.site.checkables before moment)) round) (plan : IsPlan b.site p) where
  abbrev os : List Outstanding
  os = p.orders.outstanding

  -- after the round, with the orders that have no report then
  abbrev after : Plan
  after = record { watches = followed b.site before round p.watches; orders = record { given = p.orders.given; outstanding = still rs os } }

  tells : TellWaiting (followed b.site before round p.watches) (still rs os)
  tells i v at =
      let (w, there, is_so) = followed_at b.site before 0 i round p.watches v at in
      ap (λ (x : Watch). x.waiting) is_so
      ∙ waits_with (check_at b.site (0 + i)) (of_index (0 + i) before) (of_index i round) w
      ∙ ap (λ t. t && not (list_any (λ (e : Entry). is_report e.event) (of_index i round))) (plan.waiting i w there)
      ∙ ap (λ t. is_waiting os i && not t) (round_reports b moment before round callers lines os rs i some asked is)
      ∙ sym (waits_still rs os i (single_of os plan.given.apart))

  pub plan_after : IsPlan b.site after
  plan_after = record {
    whole = many_followed b.site 0 before round p.watches ∙ plan.whole;
    waiting = tells;
    given = record {
      apart = apart_of (still rs os) (single_still rs os (single_of os plan.given.apart));
      none_later = λ n h. none_still rs os n (plan.given.none_later n h);
      within = within_still (length b.site.checkables) rs os plan.given.within;
    };
    few = (let n = fewer_still rs os in let m = plan.few in omega (arith, n, m));
  }
