use Rattle.std.proofs.Common.{◌++◌, ap, ◌∙◌}
use Rattle.object_lists.specs.Listed.{at_some}
use Rattle.object_lists.specs.Periods.{spans_list}
use Rattle.object_lists.proofs.Steps.{texts_step}
use Rattle.object_lists.proofs.periods.spans_named.Goals as goal

pub loop-item-preserved : goal.loop-item-preserved
loop-item-preserved c =
    texts_step (spans_list c.args.names.now c.args.own.now) c.args.wanted.now c.loop-item.item-index c.item-item.result c.loop-item.found.items c.push_named.new.out.items _
    c.loop-item-test.true c.item-item.is (c.in_ok-push_named.ensures ∙ ap (λ n. c.loop-item.found.items ++ at_some (spans_list c.args.names.now c.args.own.now) n) c.text_of.ensures) c.loop-item.invariant
