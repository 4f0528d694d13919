-- What stands once one part was added after another.
use Rattle.std.proofs.Common.{◌≡◌, ℕ, List, ◌∷◌, ◌++◌, Result, subst, ap, ◌∙◌, append_assoc}
use Rattle.std.specs.Prelude.{OnOk}

pub joined : {E : Type 0} (r : Result (Unit {0}) E) (new mid out a b : List ℕ) → mid ≡ out ++ a → OnOk r (new ≡ mid ++ b) → OnOk r (new ≡ out ++ (a ++ b))
joined r new mid out a b e h = subst (λ x. OnOk r (new ≡ x)) (ap (λ m. m ++ b) e ∙ append_assoc out a b) h

-- with a number before the first
pub joined_after : {E : Type 0} (r : Result (Unit {0}) E) (new mid out : List ℕ) (n : ℕ) (a b : List ℕ) → mid ≡ out ++ n ∷ a → OnOk r (new ≡ mid ++ b) → OnOk r (new ≡ out ++ n ∷ (a ++ b))
joined_after r new mid out n a b e h = joined r new mid out (n ∷ a) b e h

-- if the first has two parts itself
pub regrouped : {E : Type 0} (r : Result (Unit {0}) E) (new out : List ℕ) (n : ℕ) (a b c : List ℕ) → OnOk r (new ≡ out ++ n ∷ ((a ++ b) ++ c)) → OnOk r (new ≡ out ++ n ∷ (a ++ (b ++ c)))
regrouped r new out n a b c h = subst (λ x. OnOk r (new ≡ out ++ n ∷ x)) (append_assoc a b c) h
