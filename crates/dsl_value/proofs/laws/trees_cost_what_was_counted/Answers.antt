use Rattle.dsl_value.proofs.Fitting.{walk_counts}
use Rattle.dsl_value.proofs.laws.trees_cost_what_was_counted.Goals as goal

pub returns : goal.returns
returns c = walk_counts
