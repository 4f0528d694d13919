-- What is opened where an example is computed.
use Rattle.dsl_value.specs.Equality.{equal_within}
use Rattle.dsl_value.specs.Walks.{walk}
use Rattle.dsl_lib.specs.Names.{function_named, method_named}
use Rattle.object_types.specs.Names.{type_named}
use Rattle.object_types.specs.Schema.{row_named}
use Rattle.eval_meaning.specs.Views.{sight}
use Rattle.eval_meaning.specs.Members.{part_value}
use Rattle.eval_meaning.specs.Operators.{operated}
use Rattle.eval_meaning.specs.Frames.{named}
use Rattle.eval_meaning.specs.Library.{call_plain}
use Rattle.eval_meaning.specs.Objects.{read}
use Rattle.eval_meaning.specs.Targets.{target_of, put_in, assigned}
use Rattle.eval_meaning.specs.Evaluation.{evaluated}
use Rattle.commit_meaning.specs.Starts.{tree_at}
use Rattle.commit_meaning.specs.Items.{item_run, item_answer}
use Rattle.commit_meaning.specs.Rules.{rule_run, instances}
use Rattle.commit_meaning.specs.Groups.{member_run, group_members}
use Rattle.commit_meaning.specs.Waves.{wave_items, wave_world, wave_diags}
use Rattle.commit_meaning.specs.Commits.{commit}

unfoldable pub computing : Unit {0}
unfolding equal_within walk type_named row_named sight part_value operated named function_named method_named call_plain read target_of put_in assigned evaluated tree_at item_run item_answer rule_run instances member_run group_members wave_items wave_world wave_diags commit
computing = tt
