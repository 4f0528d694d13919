-- What is opened where an example is computed.
use Rattle.object_types.specs.Names.{type_named}
use Rattle.eval_meaning.specs.Frames.{named}
use Rattle.eval_meaning.specs.Evaluation.{evaluated}
use Rattle.commit_meaning.specs.Groups.{member_run, group_members}

unfoldable pub computing : Unit {0}
unfolding type_named named evaluated member_run group_members
computing = tt
