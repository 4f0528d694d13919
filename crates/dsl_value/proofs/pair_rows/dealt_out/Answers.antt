use Rattle.std.proofs.Common.{rules, ◌≡◌, ◌++◌, ◌∷◌, [], length, sym, ap, subst, ◌∙◌, arith}
use Rattle.dsl_value.specs.Rows.{joined, AreFull}
use Rattle.dsl_value.proofs.Rowed.{dealt_more, full_more}
use Rattle.dsl_value.proofs.pair_rows.dealt_out.Goals as goal

pub loop-left-preserved : goal.loop-left-preserved
loop-left-preserved c =
    let copy = c.in_ok-copied_pairs.field-0 in
    let pushed : c.push.new.self.items ≡ c.loop-left.rows.items ++ copy ∷ [] = search rules in
    let long = ap length c.in_ok-copied_pairs.ensures in (
      ap (λ rs. joined rs ++ c.first_part.result.1.now) pushed ∙ dealt_more c.loop-left.rows.items copy c.loop-left.left.now c.first_part.result.0.now c.first_part.result.1.now c.args.row.now c.in_ok-copied_pairs.ensures c.first_part.ensures.whole c.loop-left.invariant.0,
      subst AreFull (sym pushed) (full_more c.loop-left.rows.items copy c.loop-left.invariant.1 (omega (arith, long, c.first_part.ensures.some))),
    )
