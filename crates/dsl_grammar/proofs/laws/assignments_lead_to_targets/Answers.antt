use Rattle.dsl_grammar.proofs.TargetLaws.{assignments}
use Rattle.dsl_grammar.proofs.laws.assignments_lead_to_targets.Goals as goal

-- as the table has them
pub returns : goal.returns
returns c = assignments
