use Rattle.std.proofs.Common.{◌≡◌, ◌++◌, option_to_list}
use Rattle.std.specs.Vec.Iter.{into_iter_items}
use Rattle.command_macros.specs.Arguments.{repeated}
use Rattle.command_macros.proofs.arguments.add_repeated.Given as goal

abbrev pub invariant-loop-text : goal.invariant-loop-text
invariant-loop-text l =
    l.words ++ repeated (option_to_list l.key) (into_iter_items l.text-iterator) ≡ l.fn.words ++ repeated (option_to_list l.key) l.fn.texts
