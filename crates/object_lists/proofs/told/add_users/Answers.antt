use Rattle.std.proofs.Common.{ap, ◌∙◌}
use Rattle.object_lists.specs.Listed.{at_some}
use Rattle.object_lists.specs.Receivers.{user_named, with_new}
use Rattle.object_lists.proofs.NewLaws.{text_step}
use Rattle.object_lists.proofs.told.add_users.Goals as goal

pub loop-item-preserved : goal.loop-item-preserved
loop-item-preserved c =
    text_step (user_named c.args.users.now) c.args.named.now c.loop-item.item-index c.item-item.result c.loop-item.told.keys c.add_user.new.told.keys _
    c.loop-item-test.true c.item-item.is (c.in_ok-add_user.ensures ∙ ap (λ n. with_new c.loop-item.told.keys (at_some (user_named c.args.users.now) n)) c.text_of.ensures) c.loop-item.invariant
