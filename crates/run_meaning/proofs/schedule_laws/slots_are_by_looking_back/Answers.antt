use Rattle.run_meaning.proofs.Keeping.{from_start}
use Rattle.run_meaning.proofs.schedule_laws.slots_are_by_looking_back.Goals as goal

pub returns : goal.returns
returns c = λ s holds command feed callers given ts ls run asked. (from_start s holds command feed callers run.someone given ts ls run asked).slot
