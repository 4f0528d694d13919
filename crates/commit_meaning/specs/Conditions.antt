-- Conditions: the `assign` and `ignore` of a body.
use Rattle.std.specs.Prelude.{◌||◌, ◌&&◌, Bool, false, not}
use Rattle.dsl_syntax.specs.Syntax.{statement, assign, ignore, Statements, no_statements, more_statements}
use Rattle.eval_meaning.specs.Views.{View}
use Rattle.eval_meaning.specs.States.{State, Outcome, gives, ◌>>=◌}
use Rattle.eval_meaning.specs.Flow.{truth_with}
use Rattle.eval_meaning.specs.Registration.{has_assign}
use Rattle.eval_meaning.specs.Evaluation.{evaluated}
use Rattle.eval_meaning.specs.Load.{most_open}

-- whether some `assign` was true, and whether some `ignore` was
pub record Verdict : Type 0 where
  pub assigned : Bool
  pub ignored : Bool

abbrev pub no_verdict : Verdict
no_verdict = record { assigned = false; ignored = false }

-- All conditions of a body are evaluated, one after another. Of each its expression is, which alone takes steps; other statements are passed
-- over.
abbrev pub judged : View → Statements → Verdict → State → Outcome Verdict
judged view no_statements v s = gives v s
judged view (more_statements (statement l (assign e)) xs) v s = truth_with (evaluated view most_open) e s >>= λ t s1. judged view xs (record v { assigned = v.assigned || t }) s1
judged view (more_statements (statement l (ignore e)) xs) v s = truth_with (evaluated view most_open) e s >>= λ t s1. judged view xs (record v { ignored = v.ignored || t }) s1
judged view (more_statements x xs) v s = judged view xs v s

-- an element of a rule is kept where some `assign` is true, or the rule has none, and no `ignore` is
abbrev pub is_kept : Statements → Verdict → Bool
is_kept b v = (v.assigned || not (has_assign b)) && not v.ignored

-- a group takes an object where some `assign` is true and no `ignore` is
abbrev pub is_taken : Verdict → Bool
is_taken v = v.assigned && not v.ignored
