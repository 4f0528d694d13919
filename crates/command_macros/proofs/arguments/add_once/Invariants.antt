use Rattle.std.proofs.Common.{◌≡◌, ◌++◌, option_to_list}
use Rattle.std.specs.Vec.Iter.{into_iter_items}
use Rattle.command_macros.proofs.arguments.add_once.Given as goal

abbrev pub invariant-loop-text : goal.invariant-loop-text
invariant-loop-text l = l.words ++ into_iter_items l.text-iterator ≡ l.fn.words ++ (option_to_list l.fn.key ++ l.fn.texts)
