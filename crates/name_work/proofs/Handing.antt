-- Faults and blocks that are handed on.
use Rattle.std.proofs.Common.{◌≡◌, Result, Ok, Err, sym, subst, ap}
use Rattle.std.specs.Prelude.{IsErrAnd}
use Rattle.eval_meaning.specs.States.{State, Outcome, ◌>>=◌}
use Rattle.eval_work.specs.Works.{Gives}
use Rattle.eval_work.specs.declared.stop.Stop.{Stop}
use Rattle.eval_work.specs.declared.stop.Stop.TheVariants as stops

-- where the first ends all, so does what stands behind it
pub err_then : {X Y A B : Type 0} (view : X → B) (last : Y → A) (next : B → State → Outcome A) (o : Outcome B) (new : State) (x : Stop) → Gives {X = X} {Y = B} view (Err x) new o → Gives {X = Y} {Y = A} last (Err x) new (o >>= next)
err_then view last next o new stops.Memory h = tt
err_then view last next o new (stops.Fault l k t) h = ap (λ p. p >>= next) h
err_then view last next o new (stops.Blocked q) h = ap (λ p. p >>= next) h

-- a fault that is handed on is the same one
pub handed_on : {X A : Type 0} (view : X → A) (r : Result X Stop) (x : Stop) (new : State) (o : Outcome A) → IsErrAnd r (λ e. e ≡ x) → Gives {X = X} {Y = A} view (Err x) new o → Gives {X = X} {Y = A} view r new o
handed_on view (Ok a) x new o h g = absurd h
handed_on view (Err e) x new o h g = subst (λ y. Gives {X = _} {Y = _} view (Err y) new o) (sym h) g
