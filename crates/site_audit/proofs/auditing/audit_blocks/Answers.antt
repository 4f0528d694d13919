use Rattle.std.proofs.Common.{map}
use Rattle.site_model.specs.PlainSite.{site_view}
use Rattle.site_audit.specs.ByCallers.{turn_of}
use Rattle.site_audit.proofs.AuditLaws.{verdict_of}
use Rattle.site_audit.proofs.auditing.audit_blocks.Goals as goal

pub returns : goal.returns
returns c =
    verdict_of c.args.style c.args.callers (site_view c.args.site) c.args.first c.in_ok-agreed.agreed c.args.log.now (map turn_of c.in_ok-turns.turns.items) c.verdict_after.result c.in_ok-turns.ensures.turns c.in_ok-agreed.ensures c.verdict_after.ensures
