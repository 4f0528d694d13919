use Rattle.std.proofs.Common.{◌≡◌, ◌*◌, ◌%◌, ◌^◌, sym, ap, subst, ◌∙◌, arith, rules}
use Rattle.std.proofs.lemmas.Nat.{one_shl}
use Rattle.wheel_links.specs.Members.{empty}
use Rattle.wheel_links.specs.Tree.{IsTree}
use Rattle.wheel_links.proofs.Trees.{tree-empty}
use Rattle.wheel_links.proofs.tree.MomentTree.new.Goals as goal

pub invariant_of-result : goal.invariant_of-result
invariant_of-result c =
    let d = c.depth_for-depth.result in
    let moments : c.in_ok-moments.moments.items ≡ empty c.args.capacity = search rules in
    let shifted : c.in_ok-inner.inner.items ≡ empty ((1 * 2 ^ d) % 2 ^ 64) = search rules in
    let inner : c.in_ok-inner.inner.items ≡ empty (2 ^ d) = shifted ∙ ap empty (one_shl d 64 (omega arith)) in
    subst (λ z. IsTree d z c.in_ok-moments.moments.items) (sym inner)
    (subst (IsTree d (empty (2 ^ d))) (sym moments) (tree-empty d c.args.capacity c.depth_for-depth.ensures.few c.depth_for-depth.ensures.leaves))
