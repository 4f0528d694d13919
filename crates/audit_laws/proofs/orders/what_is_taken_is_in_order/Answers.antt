use Rattle.std.proofs.Common.{◌≡◌, true}
use Rattle.audit_laws.proofs.Ordering.{takes_all, takes_in_order}
use Rattle.audit_laws.proofs.orders.what_is_taken_is_in_order.Goals as goal

pub returns-clause-meets : goal.returns-clause-meets
returns-clause-meets c = λ must waits w. takes_in_order (λ a b. must a b ≡ true) waits w

pub returns-clause-takes : goal.returns-clause-takes
returns-clause-takes c = λ must waits w. takes_all (λ a b. must a b ≡ true) waits w
