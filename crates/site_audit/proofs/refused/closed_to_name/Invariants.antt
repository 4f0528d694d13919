use Rattle.std.proofs.Common.{◌≡◌, drop, map}
use Rattle.site_model.specs.PlainSite.{check_view}
use Rattle.site_audit.specs.Commands.{closed_to_name}
use Rattle.site_audit.proofs.refused.closed_to_name.Given as goal

-- what the rest gives is what all give
abbrev pub invariant-loop-check : goal.invariant-loop-check
invariant-loop-check l = closed_to_name (map check_view (drop l.check-index l.checks)) ≡ closed_to_name (map check_view l.checks)
