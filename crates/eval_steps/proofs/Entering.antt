-- Nodes are entered, and then evaluated.
use Rattle.std.proofs.Common.{◌≡◌, ℕ, zero, suc, Bool, false, sym}
use Rattle.dsl_syntax.specs.Syntax.{Expression, statement, StatementKind}
use Rattle.site_base.specs.declared.place.Place.{Place}
use Rattle.eval_meaning.specs.Views.{View}
use Rattle.eval_meaning.specs.States.{State, ◌>>=◌, step}
use Rattle.eval_meaning.specs.Parts.{place_of}
use Rattle.eval_meaning.specs.Calls.{callee_with}
use Rattle.eval_meaning.specs.Flow.{statement_with, is_passed}
use Rattle.eval_meaning.specs.Evaluation.{evaluated, expression_with, statement_kind_with}
use Rattle.eval_steps.specs.Nodes.{node, opened}
use Rattle.eval_steps.proofs.Chains.{one_after}

pub value_node : (view : View) (d : ℕ) (e : Expression) (s : State) → (evaluated view d).value e s ≡ (node d (place_of e) s >>= λ m s1. expression_with view (evaluated view m) e s1)
unfolding evaluated
value_node view zero e s = sym (one_after (step (place_of e) s) (λ _ s1. opened zero (place_of e) s1) (λ m s1. expression_with view (evaluated view m) e s1))
value_node view (suc d) e s = sym (one_after (step (place_of e) s) (λ _ s1. opened (suc d) (place_of e) s1) (λ m s1. expression_with view (evaluated view m) e s1))

pub callee_node : (view : View) (d : ℕ) (e : Expression) (s : State) → (evaluated view d).callee e s ≡ (node d (place_of e) s >>= λ m s1. callee_with (evaluated view m) (expression_with view (evaluated view m)) e s1)
unfolding evaluated
callee_node view zero e s = sym (one_after (step (place_of e) s) (λ _ s1. opened zero (place_of e) s1) (λ m s1. callee_with (evaluated view m) (expression_with view (evaluated view m)) e s1))
callee_node view (suc d) e s = sym (one_after (step (place_of e) s) (λ _ s1. opened (suc d) (place_of e) s1) (λ m s1. callee_with (evaluated view m) (expression_with view (evaluated view m)) e s1))

flow_node : (view : View) (d : ℕ) (l : Place) (k : StatementKind) (s : State) → (evaluated view d).flow (statement l k) s ≡ (node d l s >>= λ m s1. statement_kind_with view (evaluated view m) l k s1)
unfolding evaluated
flow_node view zero l k s = sym (one_after (step l s) (λ _ s1. opened zero l s1) (λ m s1. statement_kind_with view (evaluated view m) l k s1))
flow_node view (suc d) l k s = sym (one_after (step l s) (λ _ s1. opened (suc d) l s1) (λ m s1. statement_kind_with view (evaluated view m) l k s1))

pub statement_node : (view : View) (d : ℕ) (l : Place) (k : StatementKind) (s : State) (b : Bool) → b ≡ is_passed k → b ≡ false → statement_with (evaluated view d) (statement l k) s ≡ (node d l s >>= λ m s1. statement_kind_with view (evaluated view m) l k s1)
statement_node view d l k s b e h = rw (← e, h) (flow_node view d l k s)
