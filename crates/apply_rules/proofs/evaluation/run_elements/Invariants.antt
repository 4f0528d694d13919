use Rattle.std.proofs.Common.{◌≡◌, ◌+◌, [], drop, map}
use Rattle.eval_work.specs.Works.{state_of, view_of, plain_rule}
use Rattle.commit_meaning.specs.Rules.{elements_run}
use Rattle.item_start.specs.Ready.{IsReady}
use Rattle.rule_expressions.specs.Named.{ElementsNamed}
use Rattle.rule_expressions.specs.Plain.{plain_element}
use Rattle.apply_rules.specs.Judging.{unframed}
use Rattle.apply_rules.specs.Plain.{plain_instance, plain_target}
use Rattle.apply_rules.specs.Sharing.{AreLike}
use Rattle.apply_rules.proofs.evaluation.run_elements.Given as goal

abbrev pub invariant-loop-element : goal.invariant-loop-element
invariant-loop-element l =
    (elements_run (view_of l.view) (plain_rule l.rule) (plain_target l.share.target) (unframed (state_of l.fn.work)) (l.number + 1) (map plain_element (drop l.element-index l.elements)) (map plain_instance l.items.items) (state_of l.work) ≡ elements_run (view_of l.view) (plain_rule l.rule) (plain_target l.share.target) (unframed (state_of l.fn.work)) 1 (map plain_element l.elements) [] (state_of l.fn.work))
    × IsReady l.view l.work
    × ElementsNamed l.fn.work.store (map plain_element (drop l.element-index l.elements))
    × AreLike l.share l.items.items
