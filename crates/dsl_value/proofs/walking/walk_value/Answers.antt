use Rattle.std.proofs.Common.{◌≡◌, ◌+◌, ◌-◌, [], Ok, Err, sym, ap, subst, ◌∙◌, rules}
use Rattle.site_base.specs.View.{view}
use Rattle.dsl_value.specs.Walks.{most, walk, outcome, tree_walked, Gives, Stops}
use Rattle.dsl_value.specs.Looking.{Looked}
use Rattle.dsl_value.proofs.Steps.{at_top}
use Rattle.dsl_value.proofs.walking.walk_value.Goals as goal

pub returns-in_err-tree : goal.returns-in_err-tree
returns-in_err-tree c =
    let stopped : c.from_residual.result ≡ Err c.in_err-tree.field-0.0 = search rules in
    subst (λ r. Gives view r (tree_walked c.args.store.now.cells c.args.value.now)) (sym stopped)
    (subst (Stops c.in_err-tree.field-0.0) (sym (at_top c.args.store.now.cells c.args.value.now))
    (c.in_err-tree.ensures (walk (most + 1 - 1) c.args.store.now.cells) c.args.store.now.cells []))

pub returns-in-Leaf : goal.returns-in-Leaf
returns-in-Leaf c =
    let leaf = subst (λ l. Looked c.args.value.now 0 (Ok l)) c.in-Leaf.is c.in_ok-tree.ensures in
    at_top c.args.store.now.cells c.args.value.now ∙ ap outcome (leaf.0 (walk (most + 1 - 1) c.args.store.now.cells) c.args.store.now.cells [])
