use Rattle.audit_laws.proofs.Tracking.{tracks_meet, tracks_take}
use Rattle.audit_laws.proofs.orders.tracks_are_taken_in_order.Goals as goal

pub returns-clause-meets : goal.returns-clause-meets
returns-clause-meets c = tracks_meet

pub returns-clause-takes : goal.returns-clause-takes
returns-clause-takes c = tracks_take
