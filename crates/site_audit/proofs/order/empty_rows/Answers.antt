use Rattle.std.proofs.Common.{◌++◌, ◌∷◌, [], List, ℕ, ◌∙◌, ap, arith}
use Rattle.run_meaning.specs.Turns.{of_index}
use Rattle.site_audit.proofs.Ordering.{no_row_more}
use Rattle.site_audit.proofs.order.empty_rows.Goals as goal

pub loop-preserved : goal.loop-preserved
loop-preserved c =
    let n = c.loop.invariant.0 in
    let l = c.in_ok-push.ensures.len in (
      omega (arith, n, l),
      λ k. ap (of_index k) c.in_ok-push.ensures.items ∙ (ap (λ (row : List ℕ). of_index k (c.loop.rows.items ++ row ∷ [])) c.new.ensures ∙ no_row_more c.loop.rows.items k c.loop.invariant.1),
    )
