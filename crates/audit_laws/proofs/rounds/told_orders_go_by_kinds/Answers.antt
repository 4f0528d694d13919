use Rattle.audit_laws.proofs.Retaking.{by_kinds}
use Rattle.audit_laws.proofs.rounds.told_orders_go_by_kinds.Goals as goal

pub returns : goal.returns
returns c = by_kinds
