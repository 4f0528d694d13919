use Rattle.item_start.proofs.Bindings.{one_more}
use Rattle.item_start.proofs.binding.bind_tree.Goals as goal

pub returns-clause-named : goal.returns-clause-named
returns-clause-named c =
    one_more c.args.store.now c.value_of.new.store c.args.bound.now.items c.push.new.self.items c.args.name c.in_ok-value.value c.in_ok-value.ensures.later c.requires.named c.in_ok-value.ensures.named c.in_ok-push.ensures.items
