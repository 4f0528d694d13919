use Rattle.std.proofs.Common.{◌≡◌, ◌++◌, map, length}
use Rattle.commit_meaning.specs.Rules.{of_pairs}
use Rattle.rule_expressions.specs.Plain.{plain_element}
use Rattle.rule_expressions.proofs.loops.pair_elements.Given as goal

abbrev pub invariant-loop-key : goal.invariant-loop-key
invariant-loop-key l = map plain_element l.elements.items ++ of_pairs l.first l.second l.left ≡ of_pairs l.first l.second l.pairs

abbrev pub decreases-loop-key : goal.decreases-loop-key
decreases-loop-key l = length l.left
