use Rattle.dsl_value.specs.Whole.{NamesAll}
use Rattle.language_tests.proofs.stores.unsorted_pairs.Given as goal

abbrev pub invariant-loop-number : goal.invariant-loop-number
invariant-loop-number l = NamesAll 0 0 l.pairs
