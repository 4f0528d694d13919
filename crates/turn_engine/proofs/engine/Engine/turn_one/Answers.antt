-- What a turn does to what is kept, where one worker takes it.
use Rattle.std.proofs.Common.{ap, ◌∙◌, subst}
use Rattle.run_meaning.specs.Runs.{begun_by}
use Rattle.site_model.specs.PlainSite.{site_view}
use Rattle.run_text.specs.TurnReading.{turn_read}
use Rattle.turn_engine.specs.Ready.{EngineView, running}
use Rattle.turn_engine.specs.Stages.{TellsTurn, basis_of_site, stage_of}
use Rattle.turn_engine.proofs.Sole.{goes_alone, tells_alone, turns_alone}
use Rattle.turn_engine.proofs.engine.Engine.turn_one.Goals as goal

pub returns-clause-tells : goal.returns-clause-tells
returns-clause-tells c = λ begun. tells_alone
    (subst (λ (h : EngineView). TellsTurn (basis_of_site (site_view h.run.site) h.run.zone) 1 (stage_of h.run begun) (turn_read (site_view h.run.site) c.args.turn.now) c.in_ok-out.out (stage_of (running c.take_alone.new.state) (begun_by (stage_of h.run begun) c.take_alone.new.state.moment))) c.self.view_is (c.in_ok-out.ensures.takes begun))

pub returns-clause-turn : goal.returns-clause-turn
returns-clause-turn c = λ begun. turns_alone
    (subst (λ (h : EngineView). TellsTurn (basis_of_site (site_view h.run.site) h.run.zone) 1 (stage_of h.run begun) (turn_read (site_view h.run.site) c.args.turn.now) c.in_ok-out.out (stage_of (running c.take_alone.new.state) (begun_by (stage_of h.run begun) c.take_alone.new.state.moment))) c.self.view_is (c.in_ok-out.ensures.takes begun))

pub returns-clause-stage : goal.returns-clause-stage
returns-clause-stage c = λ begun. goes_alone
    (subst (λ (h : EngineView). TellsTurn (basis_of_site (site_view h.run.site) h.run.zone) 1 (stage_of h.run begun) (turn_read (site_view h.run.site) c.args.turn.now) c.in_ok-out.out (stage_of (running c.take_alone.new.state) (begun_by (stage_of h.run begun) c.take_alone.new.state.moment))) c.self.view_is (c.in_ok-out.ensures.takes begun))

pub returns-clause-site : goal.returns-clause-site
returns-clause-site c = c.in_ok-out.ensures.site ∙ ap (λ (h : EngineView). h.run.site) c.self.view_is
