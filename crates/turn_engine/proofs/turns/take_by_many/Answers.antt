-- A turn of several workers.
use Rattle.std.proofs.Common.{◌≡◌, length, All, sym, ap, ◌∙◌, subst, arith}
use Rattle.check_plan.proofs.Planning.{on_ok}
use Rattle.run_meaning.proofs.Lists.{length_map}
use Rattle.run_meaning.specs.Alone.{AreOnSite}
use Rattle.site_model.specs.PlainSite.{site_view}
use Rattle.site_posts.specs.Many.{IsRoundOf, asked_in}
use Rattle.turn_engine.specs.declared.state.EngineState.{EngineState}
use Rattle.turn_engine.proofs.Rounding.{books_now, given_to_on_site, many_lists, rounded, still_few, still_ready, taken_so}
use Rattle.turn_engine.proofs.Turning.{can_settle}
use Rattle.turn_engine.proofs.turns.take_by_many.Goals as goal

pub round_of-requires-clause-graph : goal.round_of-requires-clause-graph
round_of-requires-clause-graph g c κs within = (still_ready c.in_ok-moment.ensures).graph

pub round_of-requires-clause-books : goal.round_of-requires-clause-books
round_of-requires-clause-books g c κs within = books_now c.in_ok-moment.ensures

pub round_of-requires-clause-callers : goal.round_of-requires-clause-callers
round_of-requires-clause-callers g c κs within =
    let many : length c.in_ok-lists.lists.items ≡ c.args.workers = sym (length_map asked_in c.in_ok-lists.lists.items) ∙ ap length c.in_ok-lists.ensures ∙ many_lists c.in_ok-moment.ensures c.args.workers in
    let workers = c.requires.workers in
    (omega (arith, many, workers.0), omega (arith, many, workers.1))

pub round_of-requires-clause-acts : goal.round_of-requires-clause-acts
round_of-requires-clause-acts g c κs within =
    subst (All (λ events. AreOnSite (site_view c.deal_turn_by_many.new.state.site) events)) (sym c.in_ok-lists.ensures) (given_to_on_site c.in_ok-moment.ensures c.args.workers)

pub settle-requires : goal.settle-requires
settle-requires g c =
    let dealt = c.in_ok-moment.ensures in
    let w = c.deal_turn_by_many.new.state in
    let made = subst (λ es. IsRoundOf (site_view w.site) w.zone c.in_ok-moment.moment w.books.items c.round_of.new.books.items es c.in_ok-segments.segments) c.in_ok-lists.ensures c.in_ok-segments.ensures in
    can_settle {plan = c.args.state.now.plan} {books = w.books} (rounded dealt c.requires.workers.0 made) (still_few dealt c.requires.few)

pub returns-clause-takes : goal.returns-clause-takes
returns-clause-takes g c = λ begun.
    let dealt = c.in_ok-moment.ensures in
    let w = c.deal_turn_by_many.new.state in
    let made = subst (λ es. IsRoundOf (site_view w.site) w.zone c.in_ok-moment.moment w.books.items c.round_of.new.books.items es c.in_ok-segments.segments) c.in_ok-lists.ensures c.in_ok-segments.ensures in
    taken_so dealt c.settle.result c.args.workers begun c.settle.new.state
    (c.settle.ensures.takes c.args.state.now.plan w.books c.args.workers c.args.turn.now begun (rounded dealt c.requires.workers.0 made))

pub returns-clause-ready : goal.returns-clause-ready
returns-clause-ready g c =
    let dealt = c.in_ok-moment.ensures in
    let w = c.deal_turn_by_many.new.state in
    let made = subst (λ es. IsRoundOf (site_view w.site) w.zone c.in_ok-moment.moment w.books.items c.round_of.new.books.items es c.in_ok-segments.segments) c.in_ok-lists.ensures c.in_ok-segments.ensures in
    c.settle.ensures.ready c.args.state.now.plan w.books c.args.workers c.args.turn.now (rounded dealt c.requires.workers.0 made)

pub returns-clause-site : goal.returns-clause-site
returns-clause-site g c = on_ok (λ e. e ∙ ap (λ (w : EngineState). w.site) c.in_ok-moment.ensures.others) c.settle.result c.settle.ensures.site

pub returns-clause-zone : goal.returns-clause-zone
returns-clause-zone g c = on_ok (λ e. e ∙ ap (λ (w : EngineState). w.zone) c.in_ok-moment.ensures.others) c.settle.result c.settle.ensures.zone
