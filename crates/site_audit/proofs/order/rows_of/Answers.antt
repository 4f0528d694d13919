use Rattle.std.proofs.Common.{◌+◌, ◌<◌, ◌++◌, ℕ, List, length, drop, get_or, ◌∙◌, ap, subst, sym}
use Rattle.run_meaning.specs.Turns.{of_index}
use Rattle.site_audit.specs.Order.{followers}
use Rattle.site_audit.specs.declared.order.Pair.{Pair}
use Rattle.site_audit.proofs.Ordering.{get_any, row_step}
use Rattle.site_audit.proofs.order.rows_of.Goals as goal

pub loop-pair-preserved : goal.loop-pair-preserved
loop-pair-preserved c =
    let i = c.loop-pair.pair-index in
    let ps = c.args.pairs.now in
    let rows = c.loop-pair.rows.items in
    let none : Pair = record { before = 0; behind = 0 } in
    let p : Pair = get_or ps i none in
    let lt : i < length ps = c.loop-pair-test.true in
    let within : p.before < length rows = subst (λ n. p.before < n) (sym c.loop-pair.invariant.0) (c.requires i none lt).0 in (
      c.in_ok-add.ensures.many ∙ c.loop-pair.invariant.0,
      λ k. ap (λ (rs : List (List ℕ)). of_index k rs ++ followers (drop (i + 1) ps) k) c.in_ok-add.ensures.row ∙ row_step i k p ps rows (followers ps k) lt (get_any i ps none p lt) within (c.loop-pair.invariant.1 k),
    )
