use Rattle.std.proofs.Common.{◌≡◌, ◌*◌, ◌-◌, ◌<◌, ◌≤◌, length, subst, arith}
use Rattle.wheel_links.specs.Due.{IsNextDue}
use Rattle.wheel_links.proofs.Trees.{IsDescent, descent-first, descent-inner, descent-last, descent-next, few_inner}
use Rattle.wheel_links.proofs.tree.leftmost.Goals as goal

pub loop-init : goal.loop-init
loop-init g c = record { descent = descent-first c.args.inner.now c.args.moments.now c.args.least c.requires.least; cost = omega arith }

pub left_or_right-node-requires-clause-few : goal.left_or_right-node-requires-clause-few
left_or_right-node-requires-clause-few g c = few_inner c.args.depth c.args.inner.now c.args.moments.now c.requires.tree

pub left_or_right-node-requires-clause-inner : goal.left_or_right-node-requires-clause-inner
left_or_right-node-requires-clause-inner g c =
    descent-inner c.args.depth c.args.inner.now c.args.moments.now c.loop.counter c.loop.node c.args.least c.requires.tree (omega arith) c.loop.invariant.descent

pub loop-preserved : goal.loop-preserved
loop-preserved g c = record {
  descent = descent-next c.args.depth c.args.inner.now c.args.moments.now c.loop.counter c.loop.node c.left_or_right-node.result c.args.least c.requires.tree (omega arith) c.loop.invariant.descent
      c.left_or_right-node.ensures.left c.left_or_right-node.ensures.right;
  cost = omega arith;
}

at_leaf : (g : _) (c : goal.After-loop g)
    → (length c.args.inner.now ≤ c.loop.node) × (c.loop.node < 2 * length c.args.inner.now) × IsNextDue c.args.moments.now c.args.least (c.loop.node - length c.args.inner.now)
at_leaf g c =
    let done : c.loop.counter ≡ c.args.depth = omega arith in
    descent-last c.args.depth c.args.inner.now c.args.moments.now c.loop.node c.args.least c.requires.tree c.requires.least
    (subst (λ z. IsDescent c.args.inner.now c.args.moments.now z c.loop.node c.args.least) done c.loop.invariant.descent)

pub overflow_sub-result : goal.overflow_sub-result
overflow_sub-result g c = (at_leaf g c).0

pub overflow_cast-result : goal.overflow_cast-result
overflow_cast-result g c =
    let h = at_leaf g c in
    let few = few_inner c.args.depth c.args.inner.now c.args.moments.now c.requires.tree in
    omega (arith, h.0, h.1)

pub returns-clause-first : goal.returns-clause-first
returns-clause-first g c = (at_leaf g c).2
