-- What is told of what is known to be told.
use Rattle.std.proofs.Common.{◌≡◌, Option, Some, subst}
use Rattle.std.specs.Prelude.{IfSome}

-- what holds of what is told holds of what is known to be told
pub told_at : {A : Type 0} (P : A → Type 0) (o : Option A) (x : A) → o ≡ Some x → IfSome o P → P x
told_at {A} P o x e h = let Q : Option A → Type 0 = λ z. IfSome z P in subst Q e h
