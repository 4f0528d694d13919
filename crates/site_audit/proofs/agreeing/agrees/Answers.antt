-- One caller's way and that of several.
use Rattle.std.proofs.Common.{arith}
use Rattle.run_meaning.specs.Runs.{begun_by}
use Rattle.run_text.specs.TurnReading.{turn_read}
use Rattle.site_model.specs.PlainSite.{site_view}
use Rattle.turn_engine.specs.Stages.{basis_of_site, stage_of}
use Rattle.site_audit.specs.Blocks.{lines_of}
use Rattle.site_audit.proofs.AgreeLaws.{with_callers}
use Rattle.site_audit.proofs.agreeing.agrees.Goals as goal

pub returns-then-callers-eq1-clause-agrees : goal.returns-then-callers-eq1-clause-agrees
returns-then-callers-eq1-clause-agrees c = λ begun.
    let r = c.args.engine.now.run in
    let q = c.agrees_alone.new.engine.run in
    let s = site_view r.site in
    with_callers c.args.style (basis_of_site s r.zone) c.args.callers (stage_of r begun) (stage_of q (begun_by (stage_of r begun) q.moment)) (turn_read s c.args.told.turn) (lines_of c.args.block.now) c.agrees_alone.result c.if-callers-eq1.true
    (c.agrees_alone.ensures.agrees begun)

pub agrees_told-requires-clause-round : goal.agrees_told-requires-clause-round
agrees_told-requires-clause-round c = let some = c.requires.callers.0 in let other = c.if-callers-eq1.false in c.requires.round (omega (arith, some, other))
