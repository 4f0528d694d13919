use Rattle.commit_laws.proofs.Loads.{load_registers}
use Rattle.commit_laws.proofs.laws.a_load_registers_by_types.Goals as goal

pub returns : goal.returns
returns c = load_registers
