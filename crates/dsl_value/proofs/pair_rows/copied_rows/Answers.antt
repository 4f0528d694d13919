use Rattle.std.proofs.Common.{rules, ◌≡◌, ◌++◌, ◌∷◌, [], length, sym, ap, subst, ◌∙◌, arith}
use Rattle.dsl_value.specs.Rows.{joined, AreFull}
use Rattle.dsl_value.proofs.Rowed.{copied_more, full_more, full_at}
use Rattle.dsl_value.proofs.pair_rows.copied_rows.Goals as goal

pub loop-row-preserved : goal.loop-row-preserved
loop-row-preserved c =
    let copy = c.in_ok-copied_pairs.field-0 in
    let pushed : c.push.new.self.items ≡ c.loop-row.copy.items ++ copy ∷ [] = search rules in
    let same : copy.items ≡ c.row-item.result.items = c.in_ok-copied_pairs.ensures ∙ c.deref.ensures.value in (
      ap joined pushed ∙ copied_more c.loop-row.copy.items c.args.rows.now c.loop-row.row-index copy c.row-item.result c.loop-row-test.true c.row-item.is same c.loop-row.invariant.0,
      λ full.
          let some = full_at c.args.rows.now c.loop-row.row-index c.row-item.result full c.loop-row-test.true in
          let long = ap length (same ∙ ap (λ x. x.items) c.row-item.is) in
          subst AreFull (sym pushed) (full_more c.loop-row.copy.items copy (c.loop-row.invariant.1 full) (omega (arith, some, long))),
    )
