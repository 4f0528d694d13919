-- The groups so far, and those of the type that are left, are all.
use Rattle.std.proofs.Common.{◌≡◌, ◌++◌, drop, map, Some}
use Rattle.group_rules.specs.Lawful.{GroupsNamed}
use Rattle.group_rules.specs.Plain.{plain_group}
use Rattle.commit_meaning.specs.Waves.{groups_of}
use Rattle.eval_work.specs.Works.{plain_item}
use Rattle.wave_objects.specs.Captured.{AreNamed}
use Rattle.wave_objects.proofs.joining.groups_of_type.Given as goal

abbrev pub invariant-loop-group : goal.invariant-loop-group
invariant-loop-group l =
    (map plain_group l.of_type.items ++ groups_of (Some l.kind) (map plain_item (drop l.group-index l.groups)) ≡ groups_of (Some l.kind) (map plain_item l.groups))
    × (GroupsNamed l.store l.of_type.items × AreNamed l.store (map plain_item (drop l.group-index l.groups)))
