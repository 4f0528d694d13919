-- A `while` is its first turn, and the `while` after it.
use Rattle.std.proofs.Common.{◌≡◌, ◌≤◌, ◌<◌, ◌-◌, ℕ, zero, suc, [], Bool, true, false, cond, Option, Some, None, refl, sym, ap, ◌∙◌, arith}
use Rattle.std.specs.Prelude.{nat_eq}
use Rattle.std.proofs.lemmas.Bool.Decides.{nat_tests}
use Rattle.site_base.specs.declared.diag_kind.DiagKind.TheVariants.{StepLimit, DepthLimit}
use Rattle.dsl_syntax.specs.Syntax.{Expression, Statements}
use Rattle.dsl_value.specs.declared.value.Value.{Value}
use Rattle.eval_meaning.specs.Views.{View}
use Rattle.eval_meaning.specs.States.{State, Outcome, gives, faults, blocked, ◌>>=◌, done, fault}
use Rattle.eval_meaning.specs.Parts.{place_of}
use Rattle.eval_meaning.specs.Operators.{holds}
use Rattle.eval_meaning.specs.Flow.{block_with, truth_with, turn_with, turns_with, while_with, unrolled, loop_end, around}
use Rattle.eval_meaning.specs.Onward.{GoesOnward}
use Rattle.eval_meaning.specs.Evaluation.{evaluated, value_of, expression_with}
use Rattle.eval_meaning.specs.declared.flow.Flow.{Flow}
use Rattle.eval_meaning.specs.declared.flow.Flow.TheVariants.{On}
use Rattle.eval_meaning.proofs.Onward.{stays, binds, inside_onward, block_onward}

-- a step less is left
abbrev Spends : {A : Type 0} → State → Outcome A → Type 0
Spends s (gives a t) = t.steps < s.steps
Spends s (faults l k d rs) = Unit {0}
Spends s (blocked r rs) = Unit {0}

onward_spends : {A : Type 0} (s t : State) (y : Outcome A) → t.steps < s.steps → GoesOnward t y → Spends s y
onward_spends s t (gives a u) lt h = omega (arith, lt, h.steps)
onward_spends s t (faults l k d rs) lt h = tt
onward_spends s t (blocked r rs) lt h = tt

spends_then : {A B : Type 0} (s : State) (x : Outcome A) (f : A → State → Outcome B) → Spends s x → ((a : A) (t : State) → GoesOnward t (f a t)) → Spends s (x >>= f)
spends_then s (gives a t) f h k = onward_spends s t (f a t) h (k a t)
spends_then s (faults l j d rs) f h k = tt
spends_then s (blocked r rs) f h k = tt

-- two ways to go on that are the same where a step less is left
alike : (s : State) (x : Outcome (Option Flow)) (f g : State → Outcome Flow) → Spends s x → ((t : State) → t.steps < s.steps → f t ≡ g t) → (x >>= λ o t. around o f t) ≡ (x >>= λ o t. around o g t)
alike s (gives None t) f g lt h = h t lt
alike s (gives (Some u) t) f g lt h = refl
alike s (faults l j d rs) f g lt h = refl
alike s (blocked r rs) f g lt h = refl

module _ (view : View) where
  value_spends : (depth : ℕ) (e : Expression) (s : State) → Spends s (value_of view depth e s)
  unfolding evaluated
  value_spends zero e s = by (nat_eq s.steps 0)
    where
      by : (b : Bool) → Spends {A = Value} s (cond b (fault (place_of e) StepLimit s) (done (record s { steps = s.steps - 1 })) >>= λ u t. fault {A = Value} (place_of e) DepthLimit t)
      by true = tt
      by false = tt
  value_spends (suc depth) e s = by (nat_eq s.steps 0) refl
    where
      by : (b : Bool) → nat_eq s.steps 0 ≡ b → Spends {A = Value} s (cond b (fault (place_of e) StepLimit s) (done (record s { steps = s.steps - 1 })) >>= λ u t. expression_with view (evaluated view depth) e t)
      by true h = tt
      by false h = onward_spends s (record s { steps = s.steps - 1 }) (expression_with view (evaluated view depth) e (record s { steps = s.steps - 1 })) (grind (arith, nat_tests)) (inside_onward view depth e (record s { steps = s.steps - 1 }))

  no_value : (depth : ℕ) (e : Expression) (s : State) → s.steps ≡ 0 → value_of view depth e s ≡ faults (place_of e) StepLimit [] s.reads
  unfolding evaluated
  no_value zero e s none = by (nat_eq s.steps 0) refl
    where
      by : (b : Bool) → nat_eq s.steps 0 ≡ b → (cond b (fault (place_of e) StepLimit s) (done (record s { steps = s.steps - 1 })) >>= λ u t. fault {A = Value} (place_of e) DepthLimit t) ≡ faults (place_of e) StepLimit [] s.reads
      by true h = refl
      by false h = absurd (grind (arith, nat_tests))
  no_value (suc depth) e s none = by (nat_eq s.steps 0) refl
    where
      by : (b : Bool) → nat_eq s.steps 0 ≡ b → (cond b (fault (place_of e) StepLimit s) (done (record s { steps = s.steps - 1 })) >>= λ u t. expression_with view (evaluated view depth) e t) ≡ faults (place_of e) StepLimit [] s.reads
      by true h = refl
      by false h = absurd (grind (arith, nat_tests))

  module _ (depth : ℕ) (e : Expression) (b : Statements) where
    after_truth : (t : Bool) (s : State) → GoesOnward s (cond t (block_with (evaluated view depth) b s >>= λ f s1. gives (loop_end f) s1) (gives (Some On) s))
    after_truth true s = binds s (block_with (evaluated view depth) b s) (λ f s1. gives (loop_end f) s1) (block_onward view depth b s) (λ f s1. stays s1)
    after_truth false s = stays s

    turn_spends : (s : State) → Spends s (turn_with (evaluated view depth) e b s)
    turn_spends s =
        spends_then s (truth_with (evaluated view depth) e s) (λ t s1. cond t (block_with (evaluated view depth) b s1 >>= λ f s2. gives (loop_end f) s2) (gives (Some On) s1))
        (spends_then s (value_of view depth e s) (λ v s1. gives (holds s1 v) s1) (value_spends depth e s) (λ v s1. stays s1))
        after_truth

    no_turn : (s : State) → s.steps ≡ 0 → turn_with (evaluated view depth) e b s ≡ faults (place_of e) StepLimit [] s.reads
    no_turn s none = ap (λ x. (x >>= λ v s1. gives (holds s1 v) s1) >>= λ t s1. cond t (block_with (evaluated view depth) b s1 >>= λ f s2. gives (loop_end f) s2) (gives (Some On) s1)) (no_value depth e s none)

    -- as many turns as there are steps are enough
    enough : (n m : ℕ) (s : State) → s.steps ≤ n → s.steps ≤ m → turns_with (evaluated view depth) e b n s ≡ turns_with (evaluated view depth) e b m s
    enough zero zero s h k = refl
    enough zero (suc m) s h k = sym (ap (λ x. x >>= λ o t. around o (turns_with (evaluated view depth) e b m) t) (no_turn s (omega (arith, h))))
    enough (suc n) zero s h k = ap (λ x. x >>= λ o t. around o (turns_with (evaluated view depth) e b n) t) (no_turn s (omega (arith, k)))
    enough (suc n) (suc m) s h k = alike s (turn_with (evaluated view depth) e b s) (turns_with (evaluated view depth) e b n) (turns_with (evaluated view depth) e b m) (turn_spends s) (λ t lt. enough n m t (omega (arith, lt, h)) (omega (arith, lt, k)))

    pub while_is : (s : State) → while_with (evaluated view depth) e b s ≡ unrolled (evaluated view depth) e b s
    while_is s =
        enough s.steps (suc s.steps) s (omega arith) (omega arith)
        ∙ alike s (turn_with (evaluated view depth) e b s) (turns_with (evaluated view depth) e b s.steps) (while_with (evaluated view depth) e b) (turn_spends s) (λ t lt. enough s.steps t.steps t (omega (arith, lt)) (omega arith))
