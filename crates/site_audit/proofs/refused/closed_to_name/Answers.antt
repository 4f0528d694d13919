use Rattle.std.proofs.Common.{sym, ◌∙◌}
use Rattle.site_audit.specs.Commands.{is_closed_to_name}
use Rattle.site_audit.proofs.Naming.{test_fails}
use Rattle.site_audit.proofs.refused.closed_to_name.Goals as goal

pub loop-check-preserved : goal.loop-check-preserved
loop-check-preserved c = test_fails is_closed_to_name c.loop-check.check-index c.args.checks.now c.check-item.result _ c.loop-check-test.true c.check-item.is (sym c.if-is_closed_to_name.false ∙ c.is_closed_to_name.ensures) c.loop-check.invariant
