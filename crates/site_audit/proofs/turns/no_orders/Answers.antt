use Rattle.std.proofs.Common.{ap, replicate, ◌∙◌}
use Rattle.site_audit.proofs.TurnLaws.{all_none, no_open}
use Rattle.site_audit.proofs.turns.no_orders.Goals as goal

pub returns : goal.returns
returns c = c.in_ok-orders.ensures ∙ (ap (λ n. replicate n no_open) c.len.ensures ∙ all_none c.args.site.now.checkables)
