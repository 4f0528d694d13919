-- The task is answered over what its reads were told, or asks for one read more.
use Rattle.std.proofs.Common.{map, refl, sym, ap, ◌∙◌}
use Rattle.site_model.specs.PlainSite.{object_view}
use Rattle.eval_work.specs.Works.{view_of}
use Rattle.commit_meaning.specs.Items.{item_answer}
use Rattle.wave_order.specs.WaveItems.{plain_pending}
use Rattle.item_body.specs.Plain.{plain_answer}
use Rattle.kept_tasks.proofs.Items.{item_stays}
use Rattle.task_reads.specs.Given.{item_no}
use Rattle.commit_meaning.specs.Answers.{blocked, diagnosed, made}
use Rattle.eval_meaning.specs.Views.{View}
use Rattle.task_reads.specs.Looks.{plain_look, reads_of}
use Rattle.task_reads.specs.Telling.{looks_told}
use Rattle.task_reads.proofs.Answered.{asks, is_answered}
use Rattle.task_reads.proofs.Given.{given_then, none_given}
use Rattle.task_reads.proofs.Reading.{begins}
use Rattle.task_reads.proofs.items.item_with_reads.Goals as goal

pub loop-init : goal.loop-init
loop-init g c = record {
  told = c.new-told.ensures.told (view_of c.args.world.now);
  goes = begins (λ (view : View). item_answer view (plain_pending c.args.item.now)) (view_of c.args.world.now) (reads_of (looks_told c.new-told.result)) (ap reads_of c.new-told.ensures.looks);
  only = none_given (item_no (plain_pending c.args.item.now).number) (g.B.Baker.tasks c.args.baker.now);
}

pub returns-in_err-object-clause-only : goal.returns-in_err-object-clause-only
returns-in_err-object-clause-only g c =
    given_then (item_no (plain_pending c.args.item.now).number) (g.B.Baker.tasks c.args.baker.now) (g.B.Baker.tasks c.loop.baker) (g.B.Baker.tasks c.item.new.self) c.loop.invariant.only c.item.ensures.only

pub returns-in-Made-clause-answer : goal.returns-in-Made-clause-answer
returns-in-Made-clause-answer g c =
    is_answered (λ (view : View). item_answer view (plain_pending c.args.item.now)) c.args.world.now c.loop.told c.loop.invariant.told (view_of c.view.result) c.view.ensures.view c.loop.invariant.goes
    (made (object_view c.in-Made.object)) (sym (ap plain_answer c.in-Made.is) ∙ c.in_ok-object.ensures.answer)
    (map plain_look c.into_looks.result.items) c.into_looks.ensures tt (λ load os. item_stays load os (reads_of (looks_told c.loop.told)) (plain_pending c.args.item.now))

pub returns-in-Diags-clause-answer : goal.returns-in-Diags-clause-answer
returns-in-Diags-clause-answer g c =
    is_answered (λ (view : View). item_answer view (plain_pending c.args.item.now)) c.args.world.now c.loop.told c.loop.invariant.told (view_of c.view.result) c.view.ensures.view c.loop.invariant.goes
    (diagnosed c.in-Diags.list) (sym (ap plain_answer c.in-Diags.is) ∙ c.in_ok-object.ensures.answer)
    (map plain_look c.into_looks-in-Diags.result.items) c.into_looks-in-Diags.ensures tt (λ load os. item_stays load os (reads_of (looks_told c.loop.told)) (plain_pending c.args.item.now))

pub returns-in_err-decide-in-Blocked-clause-only : goal.returns-in_err-decide-in-Blocked-clause-only
returns-in_err-decide-in-Blocked-clause-only g c =
    given_then (item_no (plain_pending c.args.item.now).number) (g.B.Baker.tasks c.args.baker.now) (g.B.Baker.tasks c.loop.baker) (g.B.Baker.tasks c.item.new.self) c.loop.invariant.only c.item.ensures.only

pub loop-preserved : goal.loop-preserved
loop-preserved g c = record {
  told = c.in_ok-decide-in-Blocked.ensures.told;
  goes =
      asks (λ (view : View). item_answer view (plain_pending c.args.item.now)) c.args.world.now c.loop.told c.loop.invariant.told (view_of c.view.result) c.view.ensures.view c.loop.invariant.goes
      (blocked c.in-Blocked.read) (sym (ap plain_answer c.in-Blocked.is) ∙ c.in_ok-object.ensures.answer)
      c.in-Blocked.read refl (reads_of (looks_told c.decide.new.self)) c.in_ok-decide-in-Blocked.ensures.reads;
  only = given_then (item_no (plain_pending c.args.item.now).number) (g.B.Baker.tasks c.args.baker.now) (g.B.Baker.tasks c.loop.baker) (g.B.Baker.tasks c.item.new.self) c.loop.invariant.only c.item.ensures.only;
}
