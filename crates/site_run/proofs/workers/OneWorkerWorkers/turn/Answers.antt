use Rattle.run_meaning.specs.Alone.{turn_alone}
use Rattle.run_meaning.specs.Runs.{begun_by}
use Rattle.run_text.specs.TurnReading.{turn_read}
use Rattle.site_model.specs.PlainSite.{site_view}
use Rattle.turn_engine.specs.Stages.{basis_of_site, stage_of}
use Rattle.site_run.proofs.Fed.{takes_alone}
use Rattle.site_run.proofs.workers.OneWorkerWorkers.turn.Goals as goal

pub returns-clause-turn : goal.returns-clause-turn
returns-clause-turn c = λ begun.
    let r = c.args.engine.now.run in
    let b = basis_of_site (site_view r.site) r.zone in
    let st = stage_of r begun in
    let t = turn_read (site_view r.site) c.args.turn.now in
    let e = c.turn_one.ensures in
    takes_alone c.turn_one.result b st t (turn_alone b st t) (stage_of c.turn_one.new.self.run (begun_by st c.turn_one.new.self.run.moment)) (e.tells begun) (e.turn begun) (e.stage begun)
