-- What was joined, and what the answers that are left join, is what all of them do.
use Rattle.std.proofs.Common.{◌≡◌, ◌++◌, map}
use Rattle.std.specs.List.{flat_map}
use Rattle.std.specs.Vec.Iter.{into_iter_items}
use Rattle.site_model.specs.PlainSite.{object_view}
use Rattle.commit_meaning.specs.Answers.{diags_in}
use Rattle.group_rules.specs.Plain.{group_answer}
use Rattle.wave_objects.specs.Members.{grown_by}
use Rattle.wave_objects.proofs.joining_many.joined_of.Given as goal

abbrev pub invariant-loop-answer : goal.invariant-loop-answer
invariant-loop-answer l =
    (map object_view l.joined.items ++ grown_by (map group_answer (into_iter_items l.answer-iterator)) (map object_view (into_iter_items l.left))
    ≡ grown_by (map group_answer l.fn.answers.items) (map object_view l.fn.objects.items))
    × (l.faults ++ flat_map diags_in (map group_answer (into_iter_items l.answer-iterator)) ≡ l.fn.faults ++ flat_map diags_in (map group_answer l.fn.answers.items))
