-- The engine is one of the site before its first turn.
use Rattle.std.proofs.Common.{◌≡◌, IfOk, [], subst, sym}
use Rattle.run_meaning.specs.Runs.{no_entries, start}
use Rattle.site_model.specs.PlainSite.{site_view}
use Rattle.site_model.specs.declared.site.Site.{Site}
use Rattle.turn_engine.specs.Ready.{IsZoneOf}
use Rattle.turn_engine.specs.Stages.{stage_of}
use Rattle.kept_runs.specs.Kept.{AnswersKeep}
use Rattle.kept_runs.proofs.keeping.keep_turns.Goals as goal

pub keep_by-requires-clause-begin : goal.keep_by-requires-clause-begin
keep_by-requires-clause-begin g c =
    subst (λ (x : Site). stage_of c.in_ok-engine.engine.run [] ≡ start (site_view x) (no_entries (site_view x))) (sym c.in_ok-engine.ensures.site) c.in_ok-engine.ensures.start

pub keep_by-requires-clause-zone : goal.keep_by-requires-clause-zone
keep_by-requires-clause-zone g c = subst (λ (x : Site). IsZoneOf (site_view x).zone c.in_ok-engine.engine.run.zone) (sym c.in_ok-engine.ensures.site) c.in_ok-engine.ensures.zone

pub returns : goal.returns
returns g c =
    subst (λ (x : Site). IfOk c.keep_by.result (AnswersKeep (g.C.Workers.callers c.args.workers.now) c.args.limit (site_view x) c.args.turns)) c.in_ok-engine.ensures.site c.keep_by.ensures
