use Rattle.std.proofs.Common.{length, ◌∙◌}
use Rattle.dsl_lib.specs.Answers.{Refused}
use Rattle.dsl_lib.specs.Library.{answer}
use Rattle.dsl_lib.specs.Units.{units}
use Rattle.eval_meaning.specs.Library.{lib_kind}
use Rattle.eval_work.proofs.Called.{called_is}
use Rattle.eval_work.proofs.Charged.{settled_is, settled_over, settled_kept, call_free, left_over}
use Rattle.eval_work.proofs.work.Work.call_plain.Goals as goal

pub returns-in-Ok-clause-gives : goal.returns-in-Ok-clause-gives
returns-in-Ok-clause-gives c =
    let w = c.args.self.now in
    let o = answer c.args.call w.store c.args.args.now in
    let a = c.in-Ok.ensures.answer in
    called_is c.args.place c.args.call c.args.args.now w
    ∙ settled_is lib_kind c.args.place w o (units c.args.call o) c.in-Ok.field-0.value c.in-Ok.field-0.units c.call_within.new.store a.0 a.1 a.2 c.in-Ok.ensures.ok

pub returns-in-Ok-clause-kept : goal.returns-in-Ok-clause-kept
returns-in-Ok-clause-kept c = settled_kept c.args.self.now 1 c.in-Ok.field-0.units c.call_within.new.store c.in-Ok.field-0.value c.requires.fit c.in-Ok.ensures.grows c.in-Ok.ensures.names

pub returns-in-Err-SpaceLimit-clause-gives : goal.returns-in-Err-SpaceLimit-clause-gives
returns-in-Err-SpaceLimit-clause-gives c =
    let w = c.args.self.now in
    let o = answer c.args.call w.store c.args.args.now in
    let over = left_over Refused w.space (length w.store.cells) o (units c.args.call o) c.in-Err-SpaceLimit.field-0 c.in-Err-SpaceLimit.field-0-is c.in-Err-SpaceLimit.ensures.answer in
    rw (c.fault.ensures) (called_is c.args.place c.args.call c.args.args.now w ∙ settled_over lib_kind c.args.place w o (units c.args.call o) over (λ x e. call_free c.args.call o x e))
