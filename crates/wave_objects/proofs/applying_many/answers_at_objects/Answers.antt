-- Objects and what rules are evaluated with may be shared by threads, and what the tasks come to is what the rules come to at the objects.
use denote.Param.Send.{sendable}
use Rattle.std.proofs.Common.{◌∙◌, List, subst}
use Rattle.std.proofs.Crossing.{crosses}
use Rattle.std.proofs.lemmas.Result.{IfOk-weaker}
use Rattle.std.specs.List.{AllZip}
use Rattle.site_model.specs.declared.object.Object.{Object}
use Rattle.wave_objects.specs.Tasks.{AreOfObject}
use Rattle.wave_objects.proofs.Crossing.{object_sync, placed_answer_send, rule_tasks_sync}
use Rattle.wave_objects.proofs.TaskLaws.{all_fit, lent_zip}
use Rattle.wave_objects.proofs.applying_many.answers_at_objects.Goals as goal

pub answer_all-requires-send-T : goal.answer_all-requires-send-T
answer_all-requires-send-T g c κs within = search (sendable, crosses, object_sync) depth 60

pub answer_all-requires-send-A : goal.answer_all-requires-send-A
answer_all-requires-send-A g c κs within = search (sendable, crosses, placed_answer_send) depth 60

pub answer_all-requires-sync-E : goal.answer_all-requires-sync-E
answer_all-requires-sync-E g c κs within = search (sendable, rule_tasks_sync) depth 60

pub answer_all-requires-after_bounds : goal.answer_all-requires-after_bounds
answer_all-requires-after_bounds g c κs within = all_fit (record { lawful = c.requires.lawful; named = c.requires.named }) c.in_ok-tasks.tasks.items

pub returns : goal.returns
returns g c =
    let R = AreOfObject c.args.view.now c.args.objects.now c.args.types.now in
    let ts = c.in_ok-tasks.tasks.items in
    IfOk-weaker c.answer_all.result (λ xs. AllZip (λ t x. R t.now x) ts xs.items) (λ xs. AllZip R c.args.objects.now xs.items)
    (λ xs h. subst (λ (os : List Object). AllZip R os xs.items) (c.in_ok-tasks.ensures ∙ c.as_slice.ensures) (lent_zip R ts xs.items h)) c.answer_all.ensures
