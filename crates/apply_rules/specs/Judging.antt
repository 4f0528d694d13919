-- An element of a rule, in the parts in which it is evaluated.
use Rattle.std.specs.Prelude.{ℕ, List, [], ◌++◌, false, if◌then◌else◌}
use Rattle.dsl_syntax.specs.Syntax.{Loop}
use Rattle.dsl_value.specs.declared.value.Value.TheVariants as value
use Rattle.eval_meaning.specs.Frames.{entered}
use Rattle.eval_meaning.specs.Registered.{PlainItem, PlainRule}
use Rattle.eval_meaning.specs.States.{State, Outcome, gives, ◌>>=◌}
use Rattle.eval_meaning.specs.Views.{View}
use Rattle.commit_meaning.specs.Conditions.{no_verdict, judged, is_kept}
use Rattle.commit_meaning.specs.Names.{Target}
use Rattle.commit_meaning.specs.Rules.{named_instance, prefix, elements_run}
use Rattle.commit_meaning.specs.Starts.{Trees}
use Rattle.rule_expressions.specs.Looped.{elements_by}

-- an element with this key, once its frame is entered
abbrev pub judged_element : View → PlainRule → Target → ℕ → List ℕ → Trees → State → Outcome (List PlainItem)
judged_element view r t k key names s =
    judged view r.body no_verdict s >>= λ v s1. (if is_kept r.body v then named_instance r t k (prefix r.name ++ key) names s1 else gives [] s1)

-- a state before any frame
abbrev pub unframed : State → State
unframed s = entered value.Null [] false s

-- the elements of a `for`, one after another, once the frame of its expression is entered
abbrev pub looped_items : View → PlainRule → Loop → Target → State → Outcome (List PlainItem)
looped_items view r x t s = elements_by view x s >>= λ es s1. elements_run view r t (unframed s1) 1 es [] s1
