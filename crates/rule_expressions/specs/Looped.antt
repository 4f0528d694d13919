-- What a `for` goes over, once its frame is entered.
use Rattle.std.specs.Prelude.{List}
use Rattle.dsl_syntax.specs.Syntax.{Loop, loop}
use Rattle.eval_meaning.specs.Evaluation.{value_of}
use Rattle.eval_meaning.specs.Load.{most_open}
use Rattle.eval_meaning.specs.Members.{or_wrong}
use Rattle.eval_meaning.specs.Parts.{place_of}
use Rattle.eval_meaning.specs.States.{State, Outcome, ◌>>=◌}
use Rattle.eval_meaning.specs.Views.{View}
use Rattle.commit_meaning.specs.Rules.{Element, of_value}

abbrev pub elements_by : View → Loop → State → Outcome (List Element)
elements_by view (loop k o e) s = value_of view most_open e s >>= λ v s1. or_wrong (place_of e) (of_value s1.cells k o v) s1
