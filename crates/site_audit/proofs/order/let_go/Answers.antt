use Rattle.std.proofs.Common.{◌+◌, drop, length, get_or, ◌∙◌, ap}
use Rattle.std.proofs.lemmas.List.{length-set}
use Rattle.site_audit.specs.Order.{less_by}
use Rattle.site_audit.proofs.Ordering.{less_step}
use Rattle.site_audit.proofs.order.let_go.Goals as goal

pub loop-k-preserved : goal.loop-k-preserved
loop-k-preserved c =
    let i = c.loop-k.k-index in
    let ks = c.args.behind.now in (
      ap (λ ws. less_by (drop (i + 1) ks) ws) c.in_ok-release.ensures.waits ∙ less_step i ks c.loop-k.waits.items (less_by ks c.args.waits.now.items) c.loop-k-test.true c.loop-k.invariant.0,
      c.in_ok-release.ensures.ready,
      ap length c.in_ok-release.ensures.waits ∙ (length-set c.loop-k.waits.items (get_or ks i 0) _ ∙ c.loop-k.invariant.2),
    )
