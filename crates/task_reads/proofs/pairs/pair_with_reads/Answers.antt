-- The task is answered over what its reads were told, or asks for one read more.
use Rattle.std.proofs.Common.{[], ◌∷◌, map, refl, sym, ap, ◌∙◌}
use Rattle.eval_work.specs.Works.{plain_rule, view_of}
use Rattle.commit_meaning.specs.Rules.{instances, pair_number}
use Rattle.apply_rules.specs.Plain.{plain_items, plain_target, rule_answer}
use Rattle.kept_tasks.proofs.Pairs.{pair_stays}
use Rattle.task_reads.specs.Given.{pair_no}
use Rattle.commit_meaning.specs.Answers.{blocked, diagnosed, made}
use Rattle.eval_meaning.specs.Views.{View}
use Rattle.task_reads.specs.Looks.{plain_look, reads_of}
use Rattle.task_reads.specs.Telling.{looks_told}
use Rattle.task_reads.proofs.Answered.{asks, is_answered}
use Rattle.task_reads.proofs.Given.{given_then, none_given}
use Rattle.task_reads.proofs.Reading.{begins}
use Rattle.task_reads.proofs.pairs.pair_with_reads.Goals as goal

pub loop-init : goal.loop-init
loop-init g c = record {
  told = c.new-told.ensures.told (view_of c.args.world.now);
  goes = begins (λ (view : View). instances view (plain_rule c.args.rule.now) (plain_target c.args.target.now)) (view_of c.args.world.now) (reads_of (looks_told c.new-told.result)) (ap reads_of c.new-told.ensures.looks);
  only = none_given (pair_no (pair_number (plain_rule c.args.rule.now) (plain_target c.args.target.now))) (g.B.Baker.tasks c.args.baker.now);
}

pub returns-in_err-made-clause-only : goal.returns-in_err-made-clause-only
returns-in_err-made-clause-only g c =
    given_then (pair_no (pair_number (plain_rule c.args.rule.now) (plain_target c.args.target.now))) (g.B.Baker.tasks c.args.baker.now) (g.B.Baker.tasks c.loop.baker) (g.B.Baker.tasks c.rule.new.self) c.loop.invariant.only c.rule.ensures.only

pub returns-in-Instances-clause-answer : goal.returns-in-Instances-clause-answer
returns-in-Instances-clause-answer g c =
    is_answered (λ (view : View). instances view (plain_rule c.args.rule.now) (plain_target c.args.target.now)) c.args.world.now c.loop.told c.loop.invariant.told (view_of c.view.result) c.view.ensures.view c.loop.invariant.goes
    (made (plain_items c.in-Instances.made)) (sym (ap rule_answer c.in-Instances.is) ∙ c.in_ok-made.ensures.answer)
    (map plain_look c.into_looks.result.items) c.into_looks.ensures tt (λ load os. pair_stays load os (reads_of (looks_told c.loop.told)) (plain_rule c.args.rule.now) (plain_target c.args.target.now))

pub returns-in-Diag-clause-answer : goal.returns-in-Diag-clause-answer
returns-in-Diag-clause-answer g c =
    is_answered (λ (view : View). instances view (plain_rule c.args.rule.now) (plain_target c.args.target.now)) c.args.world.now c.loop.told c.loop.invariant.told (view_of c.view.result) c.view.ensures.view c.loop.invariant.goes
    (diagnosed (c.in-Diag.diag ∷ [])) (sym (ap rule_answer c.in-Diag.is) ∙ c.in_ok-made.ensures.answer)
    (map plain_look c.into_looks-in-Diag.result.items) c.into_looks-in-Diag.ensures tt (λ load os. pair_stays load os (reads_of (looks_told c.loop.told)) (plain_rule c.args.rule.now) (plain_target c.args.target.now))

pub returns-in_err-decide-in-Blocked-clause-only : goal.returns-in_err-decide-in-Blocked-clause-only
returns-in_err-decide-in-Blocked-clause-only g c =
    given_then (pair_no (pair_number (plain_rule c.args.rule.now) (plain_target c.args.target.now))) (g.B.Baker.tasks c.args.baker.now) (g.B.Baker.tasks c.loop.baker) (g.B.Baker.tasks c.rule.new.self) c.loop.invariant.only c.rule.ensures.only

pub loop-preserved : goal.loop-preserved
loop-preserved g c = record {
  told = c.in_ok-decide-in-Blocked.ensures.told;
  goes =
      asks (λ (view : View). instances view (plain_rule c.args.rule.now) (plain_target c.args.target.now)) c.args.world.now c.loop.told c.loop.invariant.told (view_of c.view.result) c.view.ensures.view c.loop.invariant.goes
      (blocked c.in-Blocked.read) (sym (ap rule_answer c.in-Blocked.is) ∙ c.in_ok-made.ensures.answer)
      c.in-Blocked.read refl (reads_of (looks_told c.decide.new.self)) c.in_ok-decide-in-Blocked.ensures.reads;
  only = given_then (pair_no (pair_number (plain_rule c.args.rule.now) (plain_target c.args.target.now))) (g.B.Baker.tasks c.args.baker.now) (g.B.Baker.tasks c.loop.baker) (g.B.Baker.tasks c.rule.new.self) c.loop.invariant.only c.rule.ensures.only;
}
