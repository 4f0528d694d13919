-- What one turn comes to, in the words of runs, whoever made its round.
use Rattle.std.proofs.Common.{◌≡◌, ℕ, ◌+◌, ◌*◌, ◌<◌, ◌≤◌, ◌^◌, All, List, [], ◌∷◌, ◌++◌, length, map, Vec, Global, refl, sym, ap, ◌∙◌, subst, arith, length-append}
use Rattle.check_plan.specs.Plans.{IsPlan, Plan, plans_of, slots_in}
use Rattle.check_plan.specs.Rounds as rounds
use Rattle.check_plan.specs.Rounds.{BeginsWith, with_round}
use Rattle.check_plan.specs.Walks.{ordered_as, outstanding_as}
use Rattle.check_plan.specs.declared.ordered.Ordered.{Ordered}
use Rattle.check_plan.proofs.Planning.{begins_own, plan_after}
use Rattle.check_plan.proofs.Showing.{all_shown}
use Rattle.check_plan.proofs.Watching.{segments_within}
use Rattle.checkable_core.specs.Contents.{Contents}
use Rattle.run_meaning.specs.Dealing.{line_events, still}
use Rattle.run_meaning.specs.Runs.{Basis, IsTurn, Stage, TurnLog, begun_by, due_of, events_of, refusals_of, stage_after}
use Rattle.run_meaning.specs.Turns as turns
use Rattle.run_meaning.specs.Turns.{Begun, Histories, Outstanding, Planned, ReadTurn, Reported}
use Rattle.run_meaning.proofs.Lists.{length_map}
use Rattle.site_edge.specs.declared.turn.Turn.{Turn}
use Rattle.site_model.specs.PlainSite.{PlainSite, site_view}
use Rattle.site_posts.specs.Books.{AreBooks, histories_of}
use Rattle.site_posts.specs.declared.segment.Segment.{Segment}
use Rattle.run_text.specs.TurnReading.{lines_read}
use Rattle.run_text.proofs.CommandLaws.{lines_ask}
use Rattle.turn_deal.specs.Dealt.{refusal_of}
use Rattle.turn_deal.specs.declared.refusal.Refusal.{Refusal}
use Rattle.turn_engine.specs.Midst.{CanSettle, IsRounded, basis_at, begun_with, read_at, stage_at, told_at}
use Rattle.turn_engine.specs.Orders.{command_of, order_as}
use Rattle.turn_engine.specs.Ready.{running}
use Rattle.turn_engine.specs.Stages.{TellsTurn, stage_of}
use Rattle.turn_engine.specs.declared.turn_out.TurnOut.{TurnOut}
use Rattle.turn_engine.specs.declared.state.EngineState.{EngineState}

-- no moment is after a later one
pub later_books : (s : PlainSite) (m n : ℕ) (books : List Contents) → m ≤ n → AreBooks s m books → AreBooks s n books
later_books s m n books l are = record {
  whole = are.whole;
  each = λ k book at. let mine = are.each k book at in record { site = mine.site; index = mine.index; moment = (let e = mine.moment in omega (arith, e, l)) };
}

-- of an order what tells that it is outstanding
outs_of : (command : ℕ → turns.Command) (xs : List Ordered) → map outstanding_as xs ≡ map (λ (o : turns.Ordered). record { order = o.number; checkable = o.checkable }) (map (ordered_as command) xs)
outs_of command [] = refl
outs_of command (x ∷ xs) = ap (λ os. outstanding_as x ∷ os) (outs_of command xs)

-- what is ordered after a round, by a plan that goes on to this one
pub record AreOrdered (old : EngineState) (moment : ℕ) (round : Histories) (plan after : Plan) (ordered : List Ordered) : Type 0 where
  pub orders : map (ordered_as (command_of (site_view old.site))) ordered ≡ ((basis_at old).schedule (plans_of old.plan) moment (histories_of old.books.items) round).orders
  pub slots : slots_in after.watches ≡ ((basis_at old).schedule (plans_of old.plan) moment (histories_of old.books.items) round).slots
  pub given : after.orders.given ≡ plan.orders.given + length ordered
  pub outstanding : after.orders.outstanding ≡ plan.orders.outstanding ++ map outstanding_as ordered

module _ {old : EngineState} {callers : ℕ} {turn : Turn} {m : ℕ} {refusals : List Refusal} {segments : List Segment} {plan : Plan} {books : List Contents} (h : IsRounded old callers turn m refusals segments plan books) where
  abbrev s : PlainSite
  s = site_view old.site

  abbrev b : Basis
  b = basis_at old

  abbrev t : ReadTurn
  t = read_at old turn

  abbrev os : List Outstanding
  os = old.plan.orders.outstanding

  abbrev told : List Reported
  told = told_at old turn

  abbrev before : Histories
  before = histories_of old.books.items

  abbrev pub round : Histories
  round = h.made.round

  pub many : length round ≡ length s.checkables
  many = h.made.is.whole

  -- the plan goes on from the one before the turn
  pub begins : BeginsWith s (plans_of old.plan) plan
  begins = subst (BeginsWith s (plans_of old.plan)) (sym h.taken) (begins_own s old.plan (still told os) h.ready.plan)

  pub round_of_turn : (lent : List Contents) (shares : List Segment) → lent ≡ books → shares ≡ segments → rounds.IsRoundOf s lent shares before round
  round_of_turn lent shares are same = record {
    whole = many;
    stand = ap histories_of are ∙ h.made.behind;
    gathered = same ∙ h.made.told;
    shown = all_shown b.rules m before round (events_of b callers (stage_at old) t m) h.made.is;
  }

  pub inside : (shares : List Segment) → shares ≡ segments → (n : ℕ) → n ≡ length s.checkables → All (λ x. x.checkable < n) shares
  inside shares same n is = subst (All (λ x. x.checkable < n)) (sym (same ∙ h.made.told)) (segments_within n round (many ∙ sym is))

  -- between this turn and the next one it is a plan again
  pub still_plan : IsPlan s (with_round s before round plan)
  still_plan = subst (λ p. IsPlan s (with_round s before round p)) (sym h.taken) (plan_after b.rules m before round callers (line_events (lines_read s turn.lines)) told old.plan h.someone (lines_ask s turn.lines) h.made.is h.ready.plan)

  -- The log of the turn.

  abbrev planned : Planned
  planned = b.schedule (plans_of old.plan) m before round

  abbrev pub log : TurnLog
  log = record { number = old.turns + 1; moment = m; refusals = refusals_of b (stage_at old) t m; round = round; orders = planned.orders }

  is_turn : (begun : List Begun) → IsTurn b callers (stage_of (running old) begun) t log
  is_turn begun = record { number = refl; moment = h.moment_is; refusals = refl; round = h.made.is; orders = refl }

  module _ {after : Plan} {ordered : List Ordered} (are : AreOrdered old m round plan after ordered) where
    -- no turn gives more orders than may be outstanding
    pub few_given : IsPlan s after → after.orders.given ≤ (old.turns + 1) * 65535
    few_given is =
        let f = is.few in
        let l = ap length are.outstanding in
        let a = length-append plan.orders.outstanding (map outstanding_as ordered) in
        let k = length_map outstanding_as ordered in
        let g = are.given in
        let p = ap (λ (p : Plan). p.orders.given) h.taken in
        let most = h.ready.most in
        let so_far = h.ready.given in
        omega (arith, f, l, a, k, g, p, most, so_far)

    all_given : after.orders.given ≡ old.plan.orders.given + length planned.orders
    all_given =
        are.given
        ∙ ap (λ (p : Plan). p.orders.given + length ordered) h.taken
        ∙ ap (λ n. old.plan.orders.given + n) (sym (length_map (ordered_as (command_of s)) ordered) ∙ ap length are.orders)

    all_outstanding : after.orders.outstanding ≡ still told os ++ map (λ (o : turns.Ordered). record { order = o.number; checkable = o.checkable }) planned.orders
    all_outstanding =
        are.outstanding
        ∙ ap (λ (p : Plan). p.orders.outstanding ++ map outstanding_as ordered) h.taken
        ∙ ap (λ xs. still told os ++ xs) (outs_of (command_of s) ordered ∙ ap (map (λ (o : turns.Ordered). record { order = o.number; checkable = o.checkable })) are.orders)

    abbrev stage_with : Histories → Plan → List Reported → List Begun → Stage
    stage_with histories p due begun = record { turns = old.turns + 1; moment = m; histories = histories; plans = plans_of p; due = due; begun = begun }

    pub stage_is : (begun : List Begun) (due : List Reported) → due ≡ due_of (map (ordered_as (command_of s)) ordered)
        → stage_with (histories_of books) after due (begun_by (stage_of (running old) begun) m) ≡ stage_after b (stage_of (running old) begun) t log
    stage_is begun due late =
        let all : due ≡ due_of planned.orders = late ∙ ap due_of are.orders in
        λ i. record {
          turns = old.turns + 1;
          moment = m;
          histories = h.made.behind i;
          plans = record { given = all_given i; outstanding = all_outstanding i; slots = are.slots i };
          due = all i;
          begun = begun_by (stage_of (running old) begun) m;
        }

    -- what it tells, and the stage behind it
    pub takes : (begun : List Begun) (out : TurnOut) (due : List Reported)
        → out.number ≡ old.turns + 1 → out.moment ≡ m → out.refusals.items ≡ refusals → out.segments ≡ segments
        → map order_as out.orders.items ≡ map (ordered_as (command_of s)) ordered → due ≡ due_of (map (ordered_as (command_of s)) ordered)
        → TellsTurn b callers (stage_of (running old) begun) t out (stage_with (histories_of books) after due (begun_by (stage_of (running old) begun) m))
    takes begun out due number moment refused told_so orders late = record {
      log = log;
      tells = record {
        number = number;
        moment = moment;
        refused = ap (map refusal_of) refused ∙ h.refused;
        entries = told_so ∙ h.made.told;
        ordered = orders ∙ are.orders;
      };
      is = is_turn begun;
      after = stage_is begun due late;
    }

-- once the round is made the rest can begin
pub can_settle : {w : EngineState} {plan : Plan} {books : Vec Contents Global} {callers : ℕ} {turn : Turn} {m : ℕ} {refusals : List Refusal} {segments : List Segment} → IsRounded (begun_with plan books w) callers turn m refusals segments w.plan w.books.items → w.turns < 2 ^ 40 → CanSettle m segments w
can_settle {w = w} {segments = segments} h few = record {
  graph = h.ready.graph;
  books = h.made.books;
  whole = ap (λ (p : Plan). length p.watches) h.taken ∙ h.ready.plan.whole;
  within = inside h segments refl (length (site_view w.site).checkables) refl;
  numbers = (let p = ap (λ (p : Plan). p.orders.given) h.taken in let g = h.ready.given in let most = h.ready.most in omega (arith, p, g, most, few));
  turns = few;
}
