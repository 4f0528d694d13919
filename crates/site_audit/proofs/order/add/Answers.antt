use Rattle.std.proofs.Common.{◌++◌, ◌∷◌, [], List, ℕ, set, ap, ◌∙◌}
use Rattle.site_audit.proofs.Ordering.{row_added}
use Rattle.site_audit.proofs.order.add.Goals as goal

pub returns-clause-row : goal.returns-clause-row
returns-clause-row c =
    ap (λ (row : List ℕ). set c.args.rows.now.items c.args.pair.now.before row)
    (c.in_ok-push.ensures.ok ∙ ap (λ (row : List ℕ). row ++ c.args.pair.now.behind ∷ []) (row_added c.args.rows.now.items c.args.pair.now.before c.index_mut.result.now c.requires c.index_mut.ensures.value))
