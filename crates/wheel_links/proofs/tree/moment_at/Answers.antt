use Rattle.std.proofs.Common.{◌-◌, None, length, sym, ◌∙◌}
use Rattle.std.proofs.lemmas.List.{get_or_past, get_or_read}
use Rattle.wheel_links.proofs.Trees.{node-inner, node-leaf}
use Rattle.wheel_links.proofs.tree.moment_at.Goals as goal

pub returns-then-node-inner : goal.returns-then-node-inner
returns-then-node-inner c =
    get_or_read c.args.inner.now _ _ c.if-node-inner.true c.index-inner-node.is None ∙ sym (node-inner c.args.inner.now c.args.moments.now c.args.node c.if-node-inner.true)

pub returns-then-id-moments : goal.returns-then-id-moments
returns-then-id-moments c =
    get_or_read c.args.moments.now _ _ c.if-id-moments.true c.index-moments-id.is None ∙ sym (node-leaf c.args.inner.now c.args.moments.now c.args.node c.if-node-inner.false)

pub returns-else-id-moments : goal.returns-else-id-moments
returns-else-id-moments c =
    sym (node-leaf c.args.inner.now c.args.moments.now c.args.node c.if-node-inner.false
    ∙ get_or_past c.args.moments.now (c.args.node - length c.args.inner.now) None c.if-id-moments.false)
