use Rattle.std.proofs.Common.{◌≡◌, ◌<◌, ◌+◌, ◌∷◌, length, map, Some, None, Ok, Err, sym, ap, subst, ◌∙◌, arith, rules}
use Rattle.site_base.specs.View.{view}
use Rattle.dsl_value.specs.Contents.{plain, cell_at}
use Rattle.dsl_value.specs.Walks.{most, outcome, is_open, Stops}
use Rattle.dsl_value.specs.Paths.{below_of, next_value, key_bytes, with_child, inside_walk, going, going_with, Passed}
use Rattle.dsl_value.specs.Looking.{Looked}
use Rattle.dsl_value.specs.Whole.{Names}
use Rattle.dsl_value.specs.Entering.{frame, cell_of}
use Rattle.dsl_value.specs.declared.value.Value.TheVariants as value
use Rattle.dsl_value.specs.declared.looking.Look.TheVariants as looks
use Rattle.dsl_value.proofs.Steps.{element_over, element_none, cell_of_child, next_names}
use Rattle.dsl_value.proofs.Looks.{at_element, leaf_passed, stops_at}
use Rattle.dsl_value.proofs.walking.pass_leaves.Goals as goal

pub returns-in_default-charge_element-clause-gives : goal.returns-in_default-charge_element-clause-gives
returns-in_default-charge_element-clause-gives c =
    let cell : plain c.cell-content.result.now ≡ cell_at c.args.store.now.cells (cell_of (frame c.loop-value.path.top)) = c.loop-value.invariant.1.1.1 in
    let next : next_value (cell_at c.args.store.now.cells (cell_of (frame c.loop-value.path.top))) (frame c.loop-value.path.top) ≡ Some c.in-Some.value.now = sym (ap (λ x. next_value x (frame c.loop-value.path.top)) cell) ∙ c.in-Some.ensures.found in
    let bytes : c.key_bytes_of-bytes.result ≡ key_bytes (cell_at c.args.store.now.cells (cell_of (frame c.loop-value.path.top))) (frame c.loop-value.path.top) = c.key_bytes_of-bytes.ensures ∙ ap (λ x. key_bytes x (frame c.loop-value.path.top)) cell in
    let over : most < c.loop-value.path.cost + (1 + key_bytes (cell_at c.args.store.now.cells (cell_of (frame c.loop-value.path.top))) (frame c.loop-value.path.top)) = subst (λ n. most < c.loop-value.path.cost + (1 + n)) bytes c.in_default-charge_element.ensures.over in
    ap outcome (sym c.loop-value.invariant.1.0 ∙ element_over c.args.store.now.cells (below_of c.loop-value.path) (frame c.loop-value.path.top) c.in-Some.value.now c.loop-value.path.cost next over)

pub returns-in_err-tree-clause-gives : goal.returns-in_err-tree-clause-gives
returns-in_err-tree-clause-gives c =
    let cell : plain c.cell-content.result.now ≡ cell_at c.args.store.now.cells (cell_of (frame c.loop-value.path.top)) = c.loop-value.invariant.1.1.1 in
    let next : next_value (cell_at c.args.store.now.cells (cell_of (frame c.loop-value.path.top))) (frame c.loop-value.path.top) ≡ Some c.in-Some.value.now = sym (ap (λ x. next_value x (frame c.loop-value.path.top)) cell) ∙ c.in-Some.ensures.found in
    let bytes : c.key_bytes_of-bytes.result ≡ key_bytes (cell_at c.args.store.now.cells (cell_of (frame c.loop-value.path.top))) (frame c.loop-value.path.top) = c.key_bytes_of-bytes.ensures ∙ ap (λ x. key_bytes x (frame c.loop-value.path.top)) cell in
    let counted : c.in-Some-charge_element.counted ≡ c.loop-value.path.cost + (1 + key_bytes (cell_at c.args.store.now.cells (cell_of (frame c.loop-value.path.top))) (frame c.loop-value.path.top)) = c.in-Some-charge_element.ensures.within.0 ∙ ap (λ n. c.loop-value.path.cost + (1 + n)) bytes in
    let few : length (below_of c.loop-value.path) < most = omega (arith, c.loop-value.invariant.0.levels, c.loop-value.invariant.0.within) in
    let stopped : c.from_residual.result ≡ Err c.in_err-tree.field-0.0 = search rules in
    subst (λ r. Passed c.args.store.now.cells c.loop-value.path r (going c.args.store.now.cells c.args.path.now)) (sym stopped)
    (subst (λ w. Stops c.in_err-tree.field-0.0 (outcome w)) c.loop-value.invariant.1.0 (stops_at c.args.store.now.cells (below_of c.loop-value.path) (frame c.loop-value.path.top) few c.in-Some.value.now c.loop-value.path.cost c.in-Some-charge_element.counted next counted c.in-Some-charge_element.ensures.within.1 c.in_err-tree.field-0.0 c.in_err-tree.ensures))

pub loop-value-preserved : goal.loop-value-preserved
loop-value-preserved c =
    let cell : plain c.cell-content.result.now ≡ cell_at c.args.store.now.cells (cell_of (frame c.loop-value.path.top)) = c.loop-value.invariant.1.1.1 in
    let next : next_value (cell_at c.args.store.now.cells (cell_of (frame c.loop-value.path.top))) (frame c.loop-value.path.top) ≡ Some c.in-Some.value.now = sym (ap (λ x. next_value x (frame c.loop-value.path.top)) cell) ∙ c.in-Some.ensures.found in
    let bytes : c.key_bytes_of-bytes.result ≡ key_bytes (cell_at c.args.store.now.cells (cell_of (frame c.loop-value.path.top))) (frame c.loop-value.path.top) = c.key_bytes_of-bytes.ensures ∙ ap (λ x. key_bytes x (frame c.loop-value.path.top)) cell in
    let counted : c.in-Some-charge_element.counted ≡ c.loop-value.path.cost + (1 + key_bytes (cell_at c.args.store.now.cells (cell_of (frame c.loop-value.path.top))) (frame c.loop-value.path.top)) = c.in-Some-charge_element.ensures.within.0 ∙ ap (λ n. c.loop-value.path.cost + (1 + n)) bytes in
    let few : length (below_of c.loop-value.path) < most = omega (arith, c.loop-value.invariant.0.levels, c.loop-value.invariant.0.within) in
    let leaf : Looked c.in-Some.value.now c.in-Some-charge_element.counted (Ok (looks.Leaf c.in-Leaf.tree c.in-Leaf.cost)) = subst (λ l. Looked c.in-Some.value.now c.in-Some-charge_element.counted (Ok l)) c.in-Leaf.is c.in_ok-tree.ensures in
    let added : frame c.add_tree.new.top ≡ with_child (cell_at c.args.store.now.cells (cell_of (frame c.loop-value.path.top))) (frame c.loop-value.path.top) (view c.in-Leaf.tree) = c.in_ok-add_tree-in-Leaf.ensures ∙ ap (λ x. with_child x (frame c.loop-value.path.top) (view c.in-Leaf.tree)) cell in
    let same : cell_of (frame c.add_tree.new.top) ≡ cell_of (frame c.loop-value.path.top) = ap cell_of added ∙ cell_of_child (cell_at c.args.store.now.cells (cell_of (frame c.loop-value.path.top))) (frame c.loop-value.path.top) (view c.in-Leaf.tree) in
    let more : c.loop-value.path.cost < c.in-Leaf.cost = omega (arith, counted, leaf.1.0) in (
      record {
        top = subst (λ k. k < length c.args.store.now.cells) (sym same) c.loop-value.invariant.0.top;
        below = c.loop-value.invariant.0.below;
        within = leaf.1.1;
        levels = omega (arith, c.loop-value.invariant.0.levels, more);
        apart = ap (λ k. is_open k (map cell_of (below_of c.loop-value.path))) same ∙ c.loop-value.invariant.0.apart;
      },
      (
        leaf_passed c.args.store.now.cells (below_of c.loop-value.path) (frame c.loop-value.path.top) few c.in-Some.value.now c.loop-value.path.cost c.in-Some-charge_element.counted next counted c.in-Some-charge_element.ensures.within.1 (view c.in-Leaf.tree) c.in-Leaf.cost (frame c.add_tree.new.top) leaf.0 added ∙ c.loop-value.invariant.1.0,
        (omega (arith, c.loop-value.invariant.1.1.0, more), cell ∙ ap (cell_at c.args.store.now.cells) (sym same)),
      ),
    )

pub returns-in-Cell-clause-gives : goal.returns-in-Cell-clause-gives
returns-in-Cell-clause-gives c =
    let cell : plain c.cell-content.result.now ≡ cell_at c.args.store.now.cells (cell_of (frame c.loop-value.path.top)) = c.loop-value.invariant.1.1.1 in
    let next : next_value (cell_at c.args.store.now.cells (cell_of (frame c.loop-value.path.top))) (frame c.loop-value.path.top) ≡ Some c.in-Some.value.now = sym (ap (λ x. next_value x (frame c.loop-value.path.top)) cell) ∙ c.in-Some.ensures.found in
    let bytes : c.key_bytes_of-bytes.result ≡ key_bytes (cell_at c.args.store.now.cells (cell_of (frame c.loop-value.path.top))) (frame c.loop-value.path.top) = c.key_bytes_of-bytes.ensures ∙ ap (λ x. key_bytes x (frame c.loop-value.path.top)) cell in
    let counted : c.in-Some-charge_element.counted ≡ c.loop-value.path.cost + (1 + key_bytes (cell_at c.args.store.now.cells (cell_of (frame c.loop-value.path.top))) (frame c.loop-value.path.top)) = c.in-Some-charge_element.ensures.within.0 ∙ ap (λ n. c.loop-value.path.cost + (1 + n)) bytes in
    let few : length (below_of c.loop-value.path) < most = omega (arith, c.loop-value.invariant.0.levels, c.loop-value.invariant.0.within) in
    let named : c.in-Some.value.now ≡ value.Ref c.in-Cell.cell = subst (λ l. Looked c.in-Some.value.now c.in-Some-charge_element.counted (Ok l)) c.in-Cell.is c.in_ok-tree.ensures in
    let names : Names (length c.args.store.now.cells) (length c.args.store.now.functions) c.in-Some.value.now = next_names _ _ (plain c.cell-content.result.now) (frame c.loop-value.path.top) c.in-Some.value.now c.cell-content.ensures.stands c.in-Some.ensures.found in (
      subst (Names (length c.args.store.now.cells) (length c.args.store.now.functions)) named names,
      ap (λ v. going_with c.args.store.now.cells (frame c.loop-value.path.top ∷ below_of c.loop-value.path) (inside_walk c.args.store.now.cells (below_of c.loop-value.path) (frame c.loop-value.path.top) v c.in-Some-charge_element.counted)) (sym named) ∙ at_element c.args.store.now.cells (below_of c.loop-value.path) (frame c.loop-value.path.top) few c.in-Some.value.now c.loop-value.path.cost c.in-Some-charge_element.counted next counted c.in-Some-charge_element.ensures.within.1 ∙ c.loop-value.invariant.1.0,
    )

pub returns-clause-gives : goal.returns-clause-gives
returns-clause-gives c =
    let cell : plain c.cell-content.result.now ≡ cell_at c.args.store.now.cells (cell_of (frame c.loop-value.path.top)) = c.loop-value.invariant.1.1.1 in
    let next : next_value (cell_at c.args.store.now.cells (cell_of (frame c.loop-value.path.top))) (frame c.loop-value.path.top) ≡ None = sym (ap (λ x. next_value x (frame c.loop-value.path.top)) cell) ∙ c.in_default.ensures.none in
    sym (element_none c.args.store.now.cells (below_of c.loop-value.path) (frame c.loop-value.path.top) c.loop-value.path.cost next) ∙ c.loop-value.invariant.1.0
