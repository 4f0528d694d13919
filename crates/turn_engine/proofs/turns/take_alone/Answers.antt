-- A turn of one worker.
use Rattle.std.proofs.Common.{sym, ap, ◌∙◌, subst}
use Rattle.check_plan.proofs.Planning.{on_ok}
use Rattle.run_meaning.specs.Alone.{AreOnSite}
use Rattle.site_model.specs.PlainSite.{site_view}
use Rattle.turn_engine.specs.declared.state.EngineState.{EngineState}
use Rattle.turn_engine.proofs.Rounding.{books_now, given_on_site, rounded_alone, still_few, still_ready, taken_so}
use Rattle.turn_engine.proofs.Turning.{can_settle}
use Rattle.turn_engine.proofs.turns.take_alone.Goals as goal

pub round_one-requires-clause-graph : goal.round_one-requires-clause-graph
round_one-requires-clause-graph c = (still_ready c.in_ok-moment.ensures).graph

pub round_one-requires-clause-books : goal.round_one-requires-clause-books
round_one-requires-clause-books c = books_now c.in_ok-moment.ensures

pub round_one-requires-clause-acts : goal.round_one-requires-clause-acts
round_one-requires-clause-acts c = subst (AreOnSite (site_view c.deal_turn.new.state.site)) (sym c.in_ok-acts.ensures) (given_on_site c.in_ok-moment.ensures)

pub settle-requires : goal.settle-requires
settle-requires c =
    let dealt = c.in_ok-moment.ensures in
    let round = c.in_ok-segments.ensures in
    can_settle {plan = c.args.state.now.plan} {books = c.deal_turn.new.state.books} (rounded_alone dealt _ _ c.in_ok-acts.ensures round.round round.segments round.behind round.books) (still_few dealt c.requires.few)

pub returns-clause-takes : goal.returns-clause-takes
returns-clause-takes c = λ begun.
    let dealt = c.in_ok-moment.ensures in
    let round = c.in_ok-segments.ensures in
    taken_so dealt c.settle.result 1 begun c.settle.new.state
    (c.settle.ensures.takes c.args.state.now.plan c.deal_turn.new.state.books 1 c.args.turn.now begun (rounded_alone dealt _ _ c.in_ok-acts.ensures round.round round.segments round.behind round.books))

pub returns-clause-ready : goal.returns-clause-ready
returns-clause-ready c =
    let dealt = c.in_ok-moment.ensures in
    let round = c.in_ok-segments.ensures in
    c.settle.ensures.ready c.args.state.now.plan c.deal_turn.new.state.books 1 c.args.turn.now (rounded_alone dealt _ _ c.in_ok-acts.ensures round.round round.segments round.behind round.books)

pub returns-clause-site : goal.returns-clause-site
returns-clause-site c = on_ok (λ e. e ∙ ap (λ (w : EngineState). w.site) c.in_ok-moment.ensures.others) c.settle.result c.settle.ensures.site

pub returns-clause-zone : goal.returns-clause-zone
returns-clause-zone c = on_ok (λ e. e ∙ ap (λ (w : EngineState). w.zone) c.in_ok-moment.ensures.others) c.settle.result c.settle.ensures.zone
