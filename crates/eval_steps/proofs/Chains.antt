-- Evaluations one after another.
use Rattle.std.proofs.Common.{◌≡◌, Result, Err, refl, sym, subst, ap, ◌∙◌}
use Rattle.eval_meaning.specs.States.{State, Outcome, gives, faults, blocked, ◌>>=◌}
use Rattle.eval_work.specs.Works.{Gives}
use Rattle.eval_work.specs.declared.stop.Stop.{Stop}
use Rattle.eval_work.specs.declared.stop.Stop.TheVariants as stops

pub one_after : {A B C : Type 0} (o : Outcome A) (f : A → State → Outcome B) (g : B → State → Outcome C) → ((o >>= f) >>= g) ≡ (o >>= λ a s. f a s >>= g)
one_after (gives a s) f g = refl
one_after (faults l k t rs) f g = refl
one_after (blocked r rs) f g = refl

pub same_after : {A B : Type 0} (o : Outcome A) (f g : A → State → Outcome B) → ((a : A) (s : State) → f a s ≡ g a s) → (o >>= f) ≡ (o >>= g)
same_after (gives a s) f g h = h a s
same_after (faults l k t rs) f g h = refl
same_after (blocked r rs) f g h = refl

pub same_end : {A : Type 0} (o : Outcome A) → (o >>= λ a s. gives a s) ≡ o
same_end (gives a s) = refl
same_end (faults l k t rs) = refl
same_end (blocked r rs) = refl

-- an evaluation that begins with another
pub goes_on : {X A B : Type 0} (view : X → A) (here : Outcome A) (o : Outcome B) (next : B → State → Outcome A) (b : B) (s : State) (r : Result X Stop) (new : State) → here ≡ (o >>= next) → o ≡ gives b s → Gives {X = X} {Y = A} view r new (next b s) → Gives {X = X} {Y = A} view r new here
goes_on view here o next b s r new turn goes h = subst (λ p. Gives {X = _} {Y = _} view r new p) (sym (turn ∙ ap (λ p. p >>= next) goes)) h

-- where it is given, what stands behind it is all
pub goes_to : {A B : Type 0} (here : Outcome A) (o : Outcome B) (next : B → State → Outcome A) (b : B) (s : State) → here ≡ (o >>= next) → o ≡ gives b s → here ≡ next b s
goes_to here o next b s turn goes = turn ∙ ap (λ p. p >>= next) goes

pub by_same : {X A : Type 0} (view : X → A) (here there : Outcome A) (r : Result X Stop) (new : State) → here ≡ there → Gives {X = X} {Y = A} view r new there → Gives {X = X} {Y = A} view r new here
by_same view here there r new e h = subst (λ p. Gives {X = _} {Y = _} view r new p) (sym e) h

-- a fault is the same one whatever is given else
pub as_stop : {X Y A : Type 0} (view : X → A) (last : Y → A) (x : Stop) (new : State) (o : Outcome A) → Gives {X = X} {Y = A} view (Err x) new o → Gives {X = Y} {Y = A} last (Err x) new o
as_stop view last stops.Memory new o h = tt
as_stop view last (stops.Fault l k t) new o h = h
as_stop view last (stops.Blocked q) new o h = h
