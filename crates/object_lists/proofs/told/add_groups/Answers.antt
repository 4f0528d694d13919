use Rattle.std.proofs.Common.{ap, ◌∙◌}
use Rattle.object_lists.specs.Listed.{at_some}
use Rattle.object_lists.specs.Receivers.{with_new}
use Rattle.object_lists.specs.Users.{members}
use Rattle.object_lists.proofs.NewLaws.{text_step}
use Rattle.object_lists.proofs.told.add_groups.Goals as goal

pub loop-item-preserved : goal.loop-item-preserved
loop-item-preserved c = λ ms are.
    text_step (members ms) c.args.named.now c.loop-item.item-index c.item-item.result c.loop-item.told.keys c.add_group.new.told.keys _
    c.loop-item-test.true c.item-item.is (c.in_ok-add_group.ensures ms are ∙ ap (λ n. with_new c.loop-item.told.keys (at_some (members ms) n)) c.text_of.ensures) (c.loop-item.invariant ms are)
