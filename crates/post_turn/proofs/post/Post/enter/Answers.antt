use Rattle.std.proofs.Common.{rules, sym, ap, refl, ◌∙◌, ⊎_elim, subst, arith, [], ◌∷◌, Some, None}
use mathlib.Core.Option.{none}
use Rattle.atomic_table.specs.Table.{step}
use Rattle.post_turn.specs.History.{IsFront, entries_of}
use Rattle.post_turn.specs.Turns.{caller, serving}
use Rattle.post_turn.specs.Passes.{start_of, seen_of, mine_of}
use Rattle.post_turn.proofs.Draws.{draws_as}
use Rattle.post_turn.proofs.Awaits.{awaits_as}
use Rattle.post_turn.proofs.Passing.{Entered, seen_at, mine_at, took, carries, held, entered, has_turn}
use Rattle.post_turn.proofs.post.Post.enter.Given.{Over}
use Rattle.post_turn.proofs.post.Post.enter.Goals as goal

pub fetch_add-ticket-requires : goal.fetch_add-ticket-requires
fetch_add-ticket-requires g c =
    let post = c.args.self.now in
    let pass = c.args.pass.now in
    let sized = post.sized in (
      c.requires.0,
      (let w = sized.0 in omega arith),
      draws_as g.M.Machine.fit g.M.Machine.after g.M.Machine.caller_of _ _ _ (step 1 0 1 0 none) _ _ _ (caller post.machine (start_of post) pass.caller (seen_of pass) (mine_of pass)) sized.1 c.requires.1,
    )

pub load-served-requires : goal.load-served-requires
load-served-requires g c =
    let post = c.args.self.now in
    let pass = c.args.pass.now in
    let sized = post.sized in
    let inv = c.loop.invariant in (
      inv.place,
      (let w = sized.0 in omega arith),
      awaits_as g.M.Machine.fit g.M.Machine.after g.M.Machine.caller_of _ _ _ (step 1 1 0 0 none) _ _ _ _ (caller post.machine (start_of post) pass.caller (seen_of pass) (mine_of pass)) sized.1 inv.me,
    )

pub loop-init : goal.loop-init
loop-init g c =
    let post = c.args.self.now in
    let pass = c.args.pass.now in
    record {
      place = c.fetch_add-ticket.ensures.0 ∙ c.requires.0;
      whose = refl;
      me = c.fetch_add-ticket.ensures.2 (caller post.machine (start_of post) pass.caller (seen_of pass) (mine_of pass)) c.requires.1;
    }

pub loop-preserved : goal.loop-preserved
loop-preserved g c =
    let post = c.args.self.now in
    let pass = c.args.pass.now in
    let inv = c.loop.invariant in
    record {
      place = c.load-served.ensures.0 ∙ inv.place;
      whose = inv.whose;
      me = ⊎_elim (λ a. absurd (c.if-served-ticket.false a.0)) (λ a. a.1 ∙ inv.me) (c.load-served.ensures.2 c.fetch_add-ticket.result (caller post.machine (start_of post) pass.caller (seen_of pass) (mine_of pass)) inv.me);
    }

pub exchange-requires : goal.exchange-requires
exchange-requires g c =
    let inv = c.loop.invariant in
    let got = took g.M.Machine.fit g.M.Machine.after g.M.Machine.caller_of (step 1 1 0 0 none) _ _ _ _ _ inv.me c.if-served-ticket.true c.load-served.ensures.2 in
    (c.load-served.ensures.0 ∙ inv.place, (Some got.body, carries c.load-served.new.seat.me (Some got.body) (ap (λ m. m.1) got.view)))

pub unwrap-requires : goal.unwrap-requires
unwrap-requires g c =
    let inv = c.loop.invariant in
    let got = took g.M.Machine.fit g.M.Machine.after g.M.Machine.caller_of (step 1 1 0 0 none) _ _ _ _ _ inv.me c.if-served-ticket.true c.load-served.ensures.2 in
    let is = held c.load-served.new.seat.me _ (Some got.body) (ap (λ m. m.1) got.view) c.exchange.ensures.2 in
    search rules

-- what stands once the slot was taken out
abbrev out : (g : Over) (c : goal.After-drop-iterator g)
    → Entered g.M.Machine.fit g.M.Machine.after g.M.Machine.caller_of c.fetch_add-ticket.result (caller c.args.self.now.machine (start_of c.args.self.now) c.args.pass.now.caller (seen_of c.args.pass.now) (mine_of c.args.pass.now)) c.unwrap.result c.exchange.new.seat.me
out g c = entered g.M.Machine.fit g.M.Machine.after g.M.Machine.caller_of (step 1 1 0 0 none) _ _ _ _ _ _ _ _ c.loop.invariant.me c.if-served-ticket.true c.load-served.ensures.2 c.exchange.ensures.2 c.exchange.ensures.3 c.unwrap.ensures

pub returns-then-served-ticket-clause-turn : goal.returns-then-served-ticket-clause-turn
returns-then-served-ticket-clause-turn g c =
    let inv = c.loop.invariant in
    let post = c.args.self.now in
    let pass = c.args.pass.now in
    let now = (out g c).me ∙ ap (λ k. (serving c.fetch_add-ticket.result (caller post.machine (start_of post) k c.unwrap.result.history.items (mine_of pass)), (0, None) ∷ [])) (sym inv.whose) in
    let h = has_turn post.machine (start_of post) c.loop.pass.caller _ _ _ c.exchange.new.seat.me now in
    ((c.exchange.ensures.0 ∙ c.load-served.ensures.0 ∙ inv.place, h.0, h.1), inv.whose)

pub returns-then-served-ticket-clause-seen : goal.returns-then-served-ticket-clause-seen
returns-then-served-ticket-clause-seen g c = let e = out g c in (subst (IsFront (seen_of c.args.pass.now)) (sym (ap seen_at e.me)) e.longer, ap mine_at e.me)

pub returns-then-served-ticket-clause-body : goal.returns-then-served-ticket-clause-body
returns-then-served-ticket-clause-body g c = let e = out g c in (sym (ap seen_at e.me), (e.state, e.is_fit))

pub returns-then-served-ticket-clause-own : goal.returns-then-served-ticket-clause-own
returns-then-served-ticket-clause-own g c = let e = out g c in (λ i. entries_of g.M.Machine.caller_of (c.loop.invariant.whose i) (ap seen_at e.me i)) ∙ e.own ∙ sym (ap mine_at e.me)
