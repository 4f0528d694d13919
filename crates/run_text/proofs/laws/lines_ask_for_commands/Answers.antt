use Rattle.run_text.proofs.CommandLaws.{lines_ask, turns_ask}
use Rattle.run_text.proofs.laws.lines_ask_for_commands.Goals as goal

pub returns-clause-lines : goal.returns-clause-lines
returns-clause-lines c = lines_ask

pub returns-clause-turns : goal.returns-clause-turns
returns-clause-turns c = turns_ask
