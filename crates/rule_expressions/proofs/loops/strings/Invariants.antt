use Rattle.std.proofs.Common.{◌≡◌, drop, map}
use Rattle.commit_meaning.specs.Rules.{of_strings}
use Rattle.rule_expressions.specs.Plain.{plain_element}
use Rattle.rule_expressions.proofs.Looping.{after}
use Rattle.rule_expressions.proofs.loops.strings.Given as goal

abbrev pub invariant-loop-item : goal.invariant-loop-item
invariant-loop-item l = after (map plain_element l.elements.items) (of_strings l.name (drop l.item-index l.items)) ≡ of_strings l.name l.items
