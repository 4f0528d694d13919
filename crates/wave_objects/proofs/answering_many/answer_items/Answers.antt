-- Items and what is evaluated with them may be shared by threads, and what the tasks come to is what the items come to.
use denote.Param.Send.{sendable}
use Rattle.std.proofs.Common.{◌≡◌, ◌∙◌, ap, map, subst, sym}
use Rattle.std.proofs.Crossing.{crosses}
use Rattle.std.proofs.lemmas.Result.{IfOk-weaker}
use Rattle.std.specs.List.{AllZip}
use Rattle.eval_work.specs.Works.{view_of}
use Rattle.commit_meaning.specs.Items.{item_answer}
use Rattle.item_body.specs.Plain.{plain_answer}
use Rattle.wave_order.specs.WaveItems.{AreWaitingIn, plain_pending}
use Rattle.wave_objects.specs.Captured.{AreNamed}
use Rattle.wave_objects.proofs.Crossing.{item_tasks_sync, pending_sync}
use Rattle.wave_objects.proofs.TaskLaws.{answered, lent, tasks_fit}
use Rattle.wave_objects.proofs.answering_many.answer_items.Goals as goal

pub answer_all-requires-send-T : goal.answer_all-requires-send-T
answer_all-requires-send-T g c κs within = search (sendable, crosses, pending_sync) depth 60

pub answer_all-requires-sync-E : goal.answer_all-requires-sync-E
answer_all-requires-sync-E g c κs within = search (sendable, item_tasks_sync) depth 60

pub answer_all-requires-after_bounds : goal.answer_all-requires-after_bounds
answer_all-requires-after_bounds g c κs within =
    let s = c.args.view.now.store.now in
    tasks_fit (record { view = c.args.view.now; keys = c.args.keys }) c.requires.lawful c.requires.keys c.in_ok-tasks.tasks.items
    (subst (λ ps. AreNamed s (map plain_pending ps)) (sym c.in_ok-tasks.ensures) c.requires.named)
    (subst (AreWaitingIn s) (sym c.in_ok-tasks.ensures) c.requires.shared)

pub returns : goal.returns
returns g c =
    let v = view_of c.args.view.now in
    let ts = c.in_ok-tasks.tasks.items in
    IfOk-weaker c.answer_all.result (λ xs. AllZip (λ t x. plain_answer x ≡ item_answer v (plain_pending t.now)) ts xs.items) (λ xs. map plain_answer xs.items ≡ map (item_answer v) (map plain_pending c.args.items.now))
    (λ xs h. answered plain_answer (λ t. item_answer v (plain_pending t.now)) ts xs.items h ∙ lent (item_answer v) plain_pending ts ∙ ap (λ ps. map (item_answer v) (map plain_pending ps)) c.in_ok-tasks.ensures) c.answer_all.ensures
