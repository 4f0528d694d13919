-- What a turn whose round is told does to what is kept.
use Rattle.std.proofs.Common.{ap, ◌∙◌, subst}
use Rattle.run_meaning.specs.Runs.{begun_by}
use Rattle.site_model.specs.PlainSite.{site_view}
use Rattle.run_text.specs.TurnReading.{turn_read}
use Rattle.turn_engine.specs.Ready.{EngineView, running}
use Rattle.turn_engine.specs.Stages.{basis_of_site, stage_of}
use Rattle.turn_engine.specs.Told.{IsNoTurn, IsOnlyTurn}
use Rattle.turn_engine.proofs.Giving.{if_none, if_some}
use Rattle.turn_engine.proofs.engine.Engine.turn_given.Goals as goal

pub returns-in_default-clause-turn : goal.returns-in_default-clause-turn
returns-in_default-clause-turn c = λ begun.
    subst (λ (h : EngineView). IsNoTurn (basis_of_site (site_view h.run.site) h.run.zone) c.args.callers (stage_of h.run begun) (turn_read (site_view h.run.site) c.args.turn.now) c.args.told.items) c.self.view_is
    (if_none _ _ _ c.in_default.is (c.in_ok-out.ensures.takes begun))

pub returns-clause-turn : goal.returns-clause-turn
returns-clause-turn c = λ begun.
    subst (λ (h : EngineView). IsOnlyTurn (basis_of_site (site_view h.run.site) h.run.zone) c.args.callers (stage_of h.run begun) (turn_read (site_view h.run.site) c.args.turn.now) c.args.told.items c.in-Some.out (stage_of (running c.take_given.new.state) (begun_by (stage_of h.run begun) c.take_given.new.state.moment))) c.self.view_is
    (if_some _ _ _ _ c.in-Some.is (c.in_ok-out.ensures.takes begun))

pub returns-in_default-clause-site : goal.returns-in_default-clause-site
returns-in_default-clause-site c = c.in_ok-out.ensures.site ∙ ap (λ (h : EngineView). h.run.site) c.self.view_is

pub returns-clause-site : goal.returns-clause-site
returns-clause-site c = c.in_ok-out.ensures.site ∙ ap (λ (h : EngineView). h.run.site) c.self.view_is
