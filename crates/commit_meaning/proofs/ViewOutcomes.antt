-- Outcomes that aren't blocked, through one evaluation after another.
use Rattle.std.proofs.Common.{refl, sym, ap, subst}
use Rattle.eval_meaning.specs.States.{State, Outcome, gives, faults, blocked, ◌>>=◌}
use Rattle.commit_meaning.specs.Staying.{Remains}

pub remains_itself : {A : Type 0} (x : Outcome A) → Remains x x
remains_itself (gives a s) = refl
remains_itself (faults l k t rs) = refl
remains_itself (blocked r rs) = tt

pub remains_bind : {A B : Type 0} (x y : Outcome A) (f g : A → State → Outcome B) → Remains x y → ((a : A) (s : State) → Remains (f a s) (g a s)) → Remains (x >>= f) (y >>= g)
remains_bind (gives a s) y f g h k = subst (λ z. Remains (f a s) (z >>= g)) (sym h) (k a s)
remains_bind (faults l j t rs) y f g h k = ap (λ z. z >>= g) h
remains_bind (blocked r rs) y f g h k = tt

-- what is done first is the same
pub remains_after : {A B : Type 0} (x : Outcome A) (f g : A → State → Outcome B) → ((a : A) (s : State) → Remains (f a s) (g a s)) → Remains (x >>= f) (x >>= g)
remains_after x f g k = remains_bind x x f g (remains_itself x) k
