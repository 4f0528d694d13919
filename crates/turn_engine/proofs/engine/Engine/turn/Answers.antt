-- What a turn of so many workers does to what is kept.
use Rattle.std.proofs.Common.{ap, ◌∙◌, subst}
use Rattle.run_meaning.specs.Runs.{begun_by}
use Rattle.site_model.specs.PlainSite.{site_view}
use Rattle.run_text.specs.TurnReading.{turn_read}
use Rattle.turn_engine.specs.Ready.{EngineView, running}
use Rattle.turn_engine.specs.Stages.{TellsTurn, basis_of_site, stage_of}
use Rattle.turn_engine.proofs.Sole.{takes_alone}
use Rattle.turn_engine.proofs.engine.Engine.turn.Goals as goal

pub returns-then-workers-eq1-clause-turn : goal.returns-then-workers-eq1-clause-turn
returns-then-workers-eq1-clause-turn g c = λ begun.
    let r = c.args.self.now.run in
    let next = c.turn_one.new.self.run in
    let s = site_view r.site in
    takes_alone (basis_of_site s r.zone) (stage_of r begun) (turn_read s c.args.turn.now) (stage_of next (begun_by (stage_of r begun) next.moment)) c.args.workers c.turn_one.result c.if-workers-eq1.true (c.turn_one.ensures.tells begun)
    (c.turn_one.ensures.turn begun) (c.turn_one.ensures.stage begun)

pub returns-clause-turn : goal.returns-clause-turn
returns-clause-turn g c = λ begun.
    subst (λ (h : EngineView). TellsTurn (basis_of_site (site_view h.run.site) h.run.zone) c.args.workers (stage_of h.run begun) (turn_read (site_view h.run.site) c.args.turn.now) c.in_ok-out.out (stage_of (running c.take_by_many.new.state) (begun_by (stage_of h.run begun) c.take_by_many.new.state.moment))) c.self.view_is (c.in_ok-out.ensures.takes begun)

pub returns-clause-site : goal.returns-clause-site
returns-clause-site g c = c.in_ok-out.ensures.site ∙ ap (λ (h : EngineView). h.run.site) c.self.view_is
