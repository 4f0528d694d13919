-- What is opened where an example is computed.
use Rattle.object_types.specs.Names.{type_named}
use Rattle.object_types.specs.Schema.{row_named}
use Rattle.dsl_value.specs.Walks.{walk}
use Rattle.eval_meaning.specs.Frames.{named}
use Rattle.eval_meaning.specs.Evaluation.{evaluated}
use Rattle.commit_meaning.specs.Starts.{tree_at}
use Rattle.commit_meaning.specs.Items.{item_run, item_answer}

unfoldable pub computing : Unit {0}
unfolding type_named row_named walk named evaluated tree_at item_run item_answer
computing = tt
