use Rattle.run_meaning.proofs.Keeping.{few_from_start}
use Rattle.run_meaning.proofs.schedule_laws.no_more_orders_than_may_be.Goals as goal

pub returns : goal.returns
returns c = λ s holds command feed callers given ts ls run asked. (few_from_start s holds command feed callers run.someone given ts ls run asked).few
