-- What is opened where an example is computed.
use Rattle.std.specs.Fmt.{digits}
use Rattle.eval_meaning.specs.Members.{part_value}
use Rattle.eval_meaning.specs.Operators.{operated}
use Rattle.eval_meaning.specs.Frames.{named}
use Rattle.eval_meaning.specs.Registration.{lawful}
use Rattle.eval_meaning.specs.Evaluation.{evaluated}
use Rattle.eval_meaning.specs.Load.{load_run}

unfoldable pub computing : Unit {0}
unfolding digits part_value operated named lawful evaluated load_run
computing = tt
