use Rattle.std.proofs.Common.{◌≡◌, drop, map}
use Rattle.dsl_value.specs.PlainStores.{plain_store}
use Rattle.eval_meaning.specs.States.{rule}
use Rattle.eval_work.specs.Works.{view_of}
use Rattle.commit_meaning.specs.Groups.{groups_run, none_taken}
use Rattle.commit_meaning.specs.Starts.{fresh}
use Rattle.rule_expressions.specs.Seen.{names_of}
use Rattle.group_rules.specs.Lawful.{GroupsNamed}
use Rattle.group_rules.specs.Plain.{plain_group, plain_taken}
use Rattle.group_rules.proofs.taking.take.Given as goal

abbrev pub invariant-loop-group : goal.invariant-loop-group
invariant-loop-group l =
    (groups_run (view_of l.view) l.number (names_of l.seen) (map plain_group (drop l.group-index l.groups)) (plain_taken l.taken) (fresh (plain_store l.view.store.now) rule l.reads.items) ≡ groups_run (view_of l.view) l.number (names_of l.seen) (map plain_group l.groups) none_taken (fresh (plain_store l.view.store.now) rule l.fn.reads.items))
    × GroupsNamed l.view.store.now (drop l.group-index l.groups)
