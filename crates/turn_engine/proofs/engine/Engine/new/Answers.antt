-- None has entries.
use Rattle.std.proofs.Common.{◌≡◌, [], IfOk, subst}
use Rattle.run_meaning.specs.Runs.{start}
use Rattle.run_meaning.specs.Turns.{Histories}
use Rattle.site_model.specs.PlainSite.{site_view}
use Rattle.turn_engine.specs.Ready.{EngineView}
use Rattle.turn_engine.specs.Stages.{stage_of}
use Rattle.turn_engine.proofs.engine.Engine.new.Goals as goal

pub returns-clause-start : goal.returns-clause-start
returns-clause-start c =
    subst (λ (h : Histories). IfOk c.resume.result (λ (e : EngineView). stage_of e.run [] ≡ start (site_view c.args.site) h)) c.in_ok-books.ensures.none c.resume.ensures.start
