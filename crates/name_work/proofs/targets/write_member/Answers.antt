use Rattle.std.proofs.Common.{length}
use Rattle.dsl_value.specs.Outcomes.{made_units}
use Rattle.dsl_ops.specs.Members.{MemberRefused, set_outcome}
use Rattle.eval_meaning.specs.Targets.{member_kind}
use Rattle.eval_work.proofs.Charged.{settled_is, settled_over, settled_still, write_free, left_over}
use Rattle.name_work.proofs.targets.write_member.Goals as goal

pub returns-in-Ok-clause-gives : goal.returns-in-Ok-clause-gives
returns-in-Ok-clause-gives c =
    let a = c.in-Ok.ensures.answer in
    settled_is member_kind c.args.place c.args.work.now _ _ c.in-Ok.field-0.value c.in-Ok.field-0.units c.set_member.new.store a.0 a.1 a.2 c.in-Ok.ensures.ok

pub returns-in-Ok-clause-kept : goal.returns-in-Ok-clause-kept
returns-in-Ok-clause-kept c = settled_still c.args.work.now 0 c.in-Ok.field-0.units c.set_member.new.store c.requires.fit c.in-Ok.ensures.grows

pub returns-in-Err-SpaceLimit-clause-gives : goal.returns-in-Err-SpaceLimit-clause-gives
returns-in-Err-SpaceLimit-clause-gives c =
    let o = set_outcome c.args.work.now.store c.args.container.now c.args.key.now c.args.value in
    let over = left_over MemberRefused c.args.work.now.space (length c.args.work.now.store.cells) o (made_units o) c.in-Err-SpaceLimit.field-0 c.in-Err-SpaceLimit.field-0-is c.in-Err-SpaceLimit.ensures.answer in
    rw (c.fault.ensures) (settled_over member_kind c.args.place c.args.work.now o (made_units o) over (λ x e. write_free o x e))
