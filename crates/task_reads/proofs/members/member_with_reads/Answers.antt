-- The task is answered over what its reads were told, or asks for one read more.
use Rattle.std.proofs.Common.{map, refl, sym, ap, ◌∙◌}
use Rattle.site_model.specs.PlainSite.{object_view}
use Rattle.eval_work.specs.Works.{view_of}
use Rattle.commit_meaning.specs.Groups.{group_members}
use Rattle.group_rules.specs.Plain.{group_answer, plain_group}
use Rattle.kept_tasks.proofs.Members.{member_stays}
use Rattle.task_reads.specs.Given.{member_no}
use Rattle.commit_meaning.specs.Answers.{blocked, diagnosed, made}
use Rattle.eval_meaning.specs.Views.{View}
use Rattle.task_reads.specs.Looks.{plain_look, reads_of}
use Rattle.task_reads.specs.Telling.{looks_told}
use Rattle.task_reads.proofs.Answered.{asks, is_answered}
use Rattle.task_reads.proofs.Given.{given_then, none_given}
use Rattle.task_reads.proofs.Reading.{begins}
use Rattle.task_reads.proofs.members.member_with_reads.Goals as goal

pub loop-init : goal.loop-init
loop-init g c = record {
  told = c.new-told.ensures.told (view_of c.args.world.now);
  goes = begins (λ (view : View). group_members view (map plain_group c.args.groups.now) (object_view c.args.member.now)) (view_of c.args.world.now) (reads_of (looks_told c.new-told.result)) (ap reads_of c.new-told.ensures.looks);
  only = none_given (member_no c.args.member.now.number) (g.B.Baker.tasks c.args.baker.now);
}

pub returns-in_err-names-clause-only : goal.returns-in_err-names-clause-only
returns-in_err-names-clause-only g c =
    given_then (member_no c.args.member.now.number) (g.B.Baker.tasks c.args.baker.now) (g.B.Baker.tasks c.loop.baker) (g.B.Baker.tasks c.member.new.self) c.loop.invariant.only c.member.ensures.only

pub returns-in-Names-clause-answer : goal.returns-in-Names-clause-answer
returns-in-Names-clause-answer g c =
    is_answered (λ (view : View). group_members view (map plain_group c.args.groups.now) (object_view c.args.member.now)) c.args.world.now c.loop.told c.loop.invariant.told (view_of c.view.result) c.view.ensures.view c.loop.invariant.goes
    (made c.in-Names.names) (sym (ap group_answer c.in-Names.is) ∙ c.in_ok-names.ensures.answer)
    (map plain_look c.into_looks.result.items) c.into_looks.ensures tt (λ load os. member_stays load os (reads_of (looks_told c.loop.told)) (map plain_group c.args.groups.now) (object_view c.args.member.now))

pub returns-in-Diags-clause-answer : goal.returns-in-Diags-clause-answer
returns-in-Diags-clause-answer g c =
    is_answered (λ (view : View). group_members view (map plain_group c.args.groups.now) (object_view c.args.member.now)) c.args.world.now c.loop.told c.loop.invariant.told (view_of c.view.result) c.view.ensures.view c.loop.invariant.goes
    (diagnosed c.in-Diags.list) (sym (ap group_answer c.in-Diags.is) ∙ c.in_ok-names.ensures.answer)
    (map plain_look c.into_looks-in-Diags.result.items) c.into_looks-in-Diags.ensures tt (λ load os. member_stays load os (reads_of (looks_told c.loop.told)) (map plain_group c.args.groups.now) (object_view c.args.member.now))

pub returns-in_err-decide-in-Blocked-clause-only : goal.returns-in_err-decide-in-Blocked-clause-only
returns-in_err-decide-in-Blocked-clause-only g c =
    given_then (member_no c.args.member.now.number) (g.B.Baker.tasks c.args.baker.now) (g.B.Baker.tasks c.loop.baker) (g.B.Baker.tasks c.member.new.self) c.loop.invariant.only c.member.ensures.only

pub loop-preserved : goal.loop-preserved
loop-preserved g c = record {
  told = c.in_ok-decide-in-Blocked.ensures.told;
  goes =
      asks (λ (view : View). group_members view (map plain_group c.args.groups.now) (object_view c.args.member.now)) c.args.world.now c.loop.told c.loop.invariant.told (view_of c.view.result) c.view.ensures.view c.loop.invariant.goes
      (blocked c.in-Blocked.read) (sym (ap group_answer c.in-Blocked.is) ∙ c.in_ok-names.ensures.answer)
      c.in-Blocked.read refl (reads_of (looks_told c.decide.new.self)) c.in_ok-decide-in-Blocked.ensures.reads;
  only = given_then (member_no c.args.member.now.number) (g.B.Baker.tasks c.args.baker.now) (g.B.Baker.tasks c.loop.baker) (g.B.Baker.tasks c.member.new.self) c.loop.invariant.only c.member.ensures.only;
}
