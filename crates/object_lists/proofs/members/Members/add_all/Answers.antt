use Rattle.object_lists.proofs.MemberLaws.{group_step}
use Rattle.object_lists.proofs.members.Members.add_all.Goals as goal

pub loop-group-preserved : goal.loop-group-preserved
loop-group-preserved c = λ ms are.
    group_step c.loop-group.self c.add_named.new.self c.args.user c.args.groups.now c.loop-group.group-index c.group-item.result _ _
    c.loop-group-test.true c.group-item.is c.text_of.ensures c.in_ok-add_named.ensures (c.loop-group.invariant ms are)
