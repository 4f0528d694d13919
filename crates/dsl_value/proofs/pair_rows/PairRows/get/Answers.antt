use Rattle.std.proofs.Common.{◌≡◌, ◌+◌, Some, None, T, IfSome, IfNone, subst, sym, ap, ◌∙◌}
use Rattle.dsl_value.specs.Pairs.{find, is_sorted}
use Rattle.dsl_value.specs.Rows.{IsBetween}
use Rattle.dsl_value.proofs.Rowed.{changed_sorted, find_in_row}
use Rattle.dsl_value.proofs.pair_rows.PairRows.get.Goals as goal

pub value_of-requires : goal.value_of-requires
value_of-requires c =
    let between = subst (λ rs. IsBetween rs c.args.key.now c.row_for.result (c.row_for.result + 1)) c.deref.ensures.value c.row_for.ensures in
    subst (λ xs. T (is_sorted xs)) (sym c.deref-2.ensures.value) (changed_sorted c.self.inside.rows.items c.args.key.now c.row_for.result c.index.result.now c.index.result.now between c.index.ensures c.self.invariant.2)

pub returns-clause-found : goal.returns-clause-found
returns-clause-found c =
    let between = subst (λ rs. IsBetween rs c.args.key.now c.row_for.result (c.row_for.result + 1)) c.deref.ensures.value c.row_for.ensures in
    let same : find c.args.key.now c.deref-2.result.now ≡ find c.args.key.now c.args.self.now = ap (find c.args.key.now) c.deref-2.ensures.value ∙ ap (λ x. find c.args.key.now x.items) c.index.ensures ∙ sym (find_in_row c.self.inside.rows.items c.args.key.now c.row_for.result c.index.result.now between) ∙ ap (find c.args.key.now) c.self.view_is in
    subst (λ f. IfSome c.value_of.result (λ v. f ≡ Some v.now)) same c.value_of.ensures.found

pub returns-clause-absent : goal.returns-clause-absent
returns-clause-absent c =
    let between = subst (λ rs. IsBetween rs c.args.key.now c.row_for.result (c.row_for.result + 1)) c.deref.ensures.value c.row_for.ensures in
    let same : find c.args.key.now c.deref-2.result.now ≡ find c.args.key.now c.args.self.now = ap (find c.args.key.now) c.deref-2.ensures.value ∙ ap (λ x. find c.args.key.now x.items) c.index.ensures ∙ sym (find_in_row c.self.inside.rows.items c.args.key.now c.row_for.result c.index.result.now between) ∙ ap (find c.args.key.now) c.self.view_is in
    subst (λ f. IfNone c.value_of.result (f ≡ None)) same c.value_of.ensures.absent
