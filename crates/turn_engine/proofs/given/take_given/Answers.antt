-- A turn whose round is told.
use Rattle.std.proofs.Common.{map, ap, ◌∙◌, subst}
use Rattle.round_check.specs.Answer.{IsNoRound, IsOnlyRound}
use Rattle.site_model.specs.PlainSite.{site_view}
use Rattle.site_posts.specs.Many.{asked_in}
use Rattle.turn_engine.specs.declared.state.EngineState.{EngineState}
use Rattle.turn_engine.proofs.Giving.{if_none, if_some, no_turn, only_turn}
use Rattle.turn_engine.proofs.Rounding.{books_now, rounded, still_few, still_ready}
use Rattle.turn_engine.proofs.Turning.{can_settle}
use Rattle.turn_engine.proofs.given.take_given.Goals as goal

pub round_given-requires-clause-graph : goal.round_given-requires-clause-graph
round_given-requires-clause-graph c = (still_ready c.in_ok-moment.ensures).graph

pub round_given-requires-clause-books : goal.round_given-requires-clause-books
round_given-requires-clause-books c = books_now c.in_ok-moment.ensures

pub returns-in_default-clause-takes : goal.returns-in_default-clause-takes
returns-in_default-clause-takes c = λ begun.
    let w = c.deal_turn.new.state in
    let told = c.args.told.items in
    no_turn c.in_ok-moment.ensures c.args.callers told begun
    (subst (λ es. IsNoRound (site_view w.site) w.zone c.in_ok-moment.moment w.books.items es told) (ap (map asked_in) c.as_slice.ensures.value ∙ c.in_ok-lists.ensures) (if_none (IsNoRound (site_view w.site) w.zone c.in_ok-moment.moment w.books.items (map asked_in c.as_slice.result.now) c.args.told.items) (IsOnlyRound (site_view w.site) w.zone c.in_ok-moment.moment w.books.items c.round_given.new.books.items (map asked_in c.as_slice.result.now) c.args.told.items) _ c.in_default.is c.in_ok-segments.ensures))

pub settle-requires : goal.settle-requires
settle-requires c =
    let dealt = c.in_ok-moment.ensures in
    let w = c.deal_turn.new.state in
    let found = subst (λ es. IsOnlyRound (site_view w.site) w.zone c.in_ok-moment.moment w.books.items c.round_given.new.books.items es c.args.told.items c.in-Some.segments) (ap (map asked_in) c.as_slice.ensures.value ∙ c.in_ok-lists.ensures) (if_some (IsNoRound (site_view w.site) w.zone c.in_ok-moment.moment w.books.items (map asked_in c.as_slice.result.now) c.args.told.items) (IsOnlyRound (site_view w.site) w.zone c.in_ok-moment.moment w.books.items c.round_given.new.books.items (map asked_in c.as_slice.result.now) c.args.told.items) _ _ c.in-Some.is c.in_ok-segments.ensures) in
    can_settle {plan = c.args.state.now.plan} {books = w.books} (rounded dealt c.requires.callers found.made) (still_few dealt c.requires.few)

pub returns-clause-takes : goal.returns-clause-takes
returns-clause-takes c = λ begun.
    let dealt = c.in_ok-moment.ensures in
    let w = c.deal_turn.new.state in
    let told = c.args.told.items in
    let found = subst (λ es. IsOnlyRound (site_view w.site) w.zone c.in_ok-moment.moment w.books.items c.round_given.new.books.items es told c.in-Some.segments) (ap (map asked_in) c.as_slice.ensures.value ∙ c.in_ok-lists.ensures) (if_some (IsNoRound (site_view w.site) w.zone c.in_ok-moment.moment w.books.items (map asked_in c.as_slice.result.now) c.args.told.items) (IsOnlyRound (site_view w.site) w.zone c.in_ok-moment.moment w.books.items c.round_given.new.books.items (map asked_in c.as_slice.result.now) c.args.told.items) _ _ c.in-Some.is c.in_ok-segments.ensures) in
    only_turn dealt c.args.callers told begun c.round_given.new.books.items c.in-Some.segments c.in_ok-settle.field-0 c.settle.new.state found c.in_ok-settle.ensures.segments
    (c.in_ok-settle.ensures.takes c.args.state.now.plan w.books c.args.callers c.args.turn.now begun (rounded dealt c.requires.callers found.made))

pub returns-clause-ready : goal.returns-clause-ready
returns-clause-ready c =
    let dealt = c.in_ok-moment.ensures in
    let w = c.deal_turn.new.state in
    let found = subst (λ es. IsOnlyRound (site_view w.site) w.zone c.in_ok-moment.moment w.books.items c.round_given.new.books.items es c.args.told.items c.in-Some.segments) (ap (map asked_in) c.as_slice.ensures.value ∙ c.in_ok-lists.ensures) (if_some (IsNoRound (site_view w.site) w.zone c.in_ok-moment.moment w.books.items (map asked_in c.as_slice.result.now) c.args.told.items) (IsOnlyRound (site_view w.site) w.zone c.in_ok-moment.moment w.books.items c.round_given.new.books.items (map asked_in c.as_slice.result.now) c.args.told.items) _ _ c.in-Some.is c.in_ok-segments.ensures) in
    c.in_ok-settle.ensures.ready c.args.state.now.plan w.books c.args.callers c.args.turn.now (rounded dealt c.requires.callers found.made)

pub returns-clause-site : goal.returns-clause-site
returns-clause-site c = c.in_ok-settle.ensures.site ∙ ap (λ (w : EngineState). w.site) c.in_ok-moment.ensures.others

pub returns-clause-zone : goal.returns-clause-zone
returns-clause-zone c = c.in_ok-settle.ensures.zone ∙ ap (λ (w : EngineState). w.zone) c.in_ok-moment.ensures.others

pub returns-in_default-clause-site : goal.returns-in_default-clause-site
returns-in_default-clause-site c = ap (λ (w : EngineState). w.site) c.in_ok-moment.ensures.others

pub returns-in_default-clause-zone : goal.returns-in_default-clause-zone
returns-in_default-clause-zone c = ap (λ (w : EngineState). w.zone) c.in_ok-moment.ensures.others
