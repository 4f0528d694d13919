use Rattle.eval_meaning.specs.Targets.{put_in}
use Rattle.eval_meaning.specs.declared.flow.Flow.TheVariants.{On}
use Rattle.name_work.specs.Reaching.{reached}
use Rattle.eval_work.specs.Works.{state_of}
use Rattle.name_work.proofs.Handing.{err_then, handed_on}
use Rattle.name_work.proofs.Writing.{written_last}
use Rattle.name_work.proofs.targets.write_at.Goals as goal

pub returns-in_err-reached-clause-gives : goal.returns-in_err-reached-clause-gives
returns-in_err-reached-clause-gives c =
    handed_on (λ u. On) c.from_residual.result c.in_err-reached.field-0.0 (state_of c.reach.new.work) _ c.from_residual.ensures.1
    (rw (written_last c.args.place c.args.container c.args.others.now c.args.last.now c.args.value (state_of c.args.work.now))
    (err_then {Y = Unit {0}} (λ v. v) (λ u. On) (λ d s. put_in c.args.place d c.args.last.now c.args.value s) (reached c.args.place c.args.container c.args.others.now (state_of c.args.work.now)) (state_of c.reach.new.work) c.in_err-reached.field-0.0 c.in_err-reached.ensures.gives))

pub returns-clause-gives : goal.returns-clause-gives
returns-clause-gives c = rw (written_last c.args.place c.args.container c.args.others.now c.args.last.now c.args.value (state_of c.args.work.now), c.in_ok-reached.ensures.gives) c.put_in.ensures.gives
