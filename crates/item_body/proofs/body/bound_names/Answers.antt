-- What is bound in a fork of the load's store is bound behind its cells.
use Rattle.std.proofs.Common.{[], ap, subst, ◌∙◌}
use Rattle.dsl_value.specs.Contents.{with_cells}
use Rattle.eval_work.specs.Kept.{IsLater}
use Rattle.eval_work.specs.Works.{plain_item}
use Rattle.item_start.specs.Bound.{bound_in}
use Rattle.item_body.proofs.Beginning.{bound_from}
use Rattle.item_body.proofs.body.bound_names.Goals as goal

pub returns-clause-usable : goal.returns-clause-usable
returns-clause-usable c = record {
  named = c.in_ok-bind_trees.ensures.named;
  globals = c.in_ok-bind_trees.ensures.globals;
  later = subst (λ s. IsLater s c.bind_trees.new.store) c.in_ok-store.ensures c.in_ok-bind_trees.ensures.later;
}

pub returns-clause-bound : goal.returns-clause-bound
returns-clause-bound c =
    let ns = (plain_item c.args.item.now).names in
    let fork = c.in_ok-store.store in
    let from = bound_from c.deref.result.now c.args.item.now.names.items c.new-names.result.items fork.cells c.deref.ensures.value c.new-names.ensures.items in
    record {
      store = c.in_ok-bind_trees.ensures.store ∙ (ap (λ b. with_cells fork b.cells) from ∙ ap (λ s. with_cells s (bound_in ns [] s.cells).cells) c.in_ok-store.ensures);
      pairs = c.in_ok-bind_trees.ensures.pairs ∙ (ap (λ b. b.pairs) from ∙ ap (λ s. (bound_in ns [] s.cells).pairs) c.in_ok-store.ensures);
    }
