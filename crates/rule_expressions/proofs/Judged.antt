-- The conditions of a body, one after another.
use Rattle.std.proofs.Common.{◌≡◌, Bool, refl, sym}
use Rattle.std.specs.Prelude.{◌||◌}
use Rattle.dsl_syntax.specs.Syntax.{Expression, Statement, statement, assign, ignore, Statements, no_statements, more_statements}
use Rattle.eval_meaning.specs.States.{State, Outcome, gives, faults, blocked, ◌>>=◌}
use Rattle.eval_meaning.specs.Views.{View}
use Rattle.eval_meaning.specs.Flow.{truth_with}
use Rattle.eval_meaning.specs.Evaluation.{evaluated}
use Rattle.eval_meaning.specs.Load.{most_open}
use Rattle.commit_meaning.specs.Conditions.{Verdict, judged}

-- one evaluation after another, and a third
binds_bind : {A B C : Type 0} (o : Outcome A) (f : A → State → Outcome B) (g : B → State → Outcome C) → ((o >>= f) >>= g) ≡ (o >>= λ a s. (f a s >>= g))
binds_bind (gives a s) f g = refl
binds_bind (faults l k t rs) f g = refl
binds_bind (blocked r rs) f g = refl

-- a statement, and then the others
pub judged_more : (view : View) (x : Statement) (xs : Statements) (v : Verdict) (s : State) → judged view (more_statements x xs) v s ≡ (judged view (more_statements x no_statements) v s >>= λ w t. judged view xs w t)
judged_more view (statement l (assign e)) xs v s =
    let o : Outcome Bool = truth_with (evaluated view most_open) e s in
    sym (binds_bind o (λ t s1. gives (record v { assigned = v.assigned || t }) s1) (λ w t. judged view xs w t))
judged_more view (statement l (ignore e)) xs v s =
    let o : Outcome Bool = truth_with (evaluated view most_open) e s in
    sym (binds_bind o (λ t s1. gives (record v { ignored = v.ignored || t }) s1) (λ w t. judged view xs w t))
judged_more view x xs v s = refl
