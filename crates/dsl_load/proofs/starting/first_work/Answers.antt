use Rattle.std.proofs.Common.{rules}
use Rattle.dsl_load.proofs.starting.first_work.Goals as goal

-- nothing is registered yet, whatever the store
pub returns-clause-fit : goal.returns-clause-fit
returns-clause-fit c = record { this = search rules; locals = search rules; bound = c.in_ok-first_load.ensures.named c.in_ok-first_store.field-0; globals = search rules }
