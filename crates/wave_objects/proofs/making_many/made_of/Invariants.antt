-- What was added, and what is added of the answers that are left, is what is added of all.
use Rattle.std.proofs.Common.{◌≡◌, ◌++◌, map}
use Rattle.std.specs.List.{flat_map}
use Rattle.std.specs.Vec.Iter.{into_iter_items}
use Rattle.site_model.specs.PlainSite.{object_view}
use Rattle.eval_work.specs.Works.{plain_item}
use Rattle.commit_meaning.specs.Answers.{made_in, diags_in}
use Rattle.item_body.specs.Plain.{plain_answer}
use Rattle.wave_order.specs.WaveItems.{plain_pending}
use Rattle.wave_objects.specs.Steps.{groups_among}
use Rattle.wave_objects.proofs.making_many.made_of.Given as goal

abbrev pub invariant-loop-answer : goal.invariant-loop-answer
invariant-loop-answer l =
    (map object_view l.made.objects.items ++ flat_map made_in (map plain_answer (into_iter_items l.answer-iterator)) ≡ flat_map made_in (map plain_answer l.fn.answers.items))
    × ((map plain_item l.made.groups.items ++ groups_among (map plain_answer (into_iter_items l.answer-iterator)) (map plain_pending (into_iter_items l.left))
    ≡ groups_among (map plain_answer l.fn.answers.items) (map plain_pending l.fn.items.items))
    × (l.made.faults ++ flat_map diags_in (map plain_answer (into_iter_items l.answer-iterator)) ≡ flat_map diags_in (map plain_answer l.fn.answers.items)))
