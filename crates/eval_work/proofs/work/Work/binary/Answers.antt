use Rattle.eval_meaning.specs.Operators.{operated, op_kind}
use Rattle.eval_work.proofs.Charged.{settled_is, settled_kept}
use Rattle.eval_work.proofs.work.Work.binary.Goals as goal

pub returns-in-Ok-clause-gives : goal.returns-in-Ok-clause-gives
unfolding operated
returns-in-Ok-clause-gives c =
    let a = c.in-Ok.ensures.answer in
    settled_is op_kind c.args.place c.args.self.now _ _ c.in-Ok.field-0.value c.in-Ok.field-0.units c.binary_within.new.store a.0 a.1 a.2 c.in-Ok.ensures.ok

pub returns-in-Ok-clause-kept : goal.returns-in-Ok-clause-kept
returns-in-Ok-clause-kept c = settled_kept c.args.self.now 1 c.in-Ok.field-0.units c.binary_within.new.store c.in-Ok.field-0.value c.requires.fit c.in-Ok.ensures.grows c.in-Ok.ensures.names
