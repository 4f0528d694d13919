-- What stands after one part was added behind another.
use Rattle.std.proofs.Common.{◌≡◌, ℕ, List, ◌++◌, Result, subst, ap, ◌∙◌, append_assoc}
use Rattle.std.specs.Prelude.{OnOk}

pub joined : {E : Type 0} (r : Result (Unit {0}) E) (new mid out a b : List ℕ) → mid ≡ out ++ a → OnOk r (new ≡ mid ++ b) → OnOk r (new ≡ out ++ (a ++ b))
joined r new mid out a b e h = subst (λ x. OnOk r (new ≡ x)) (ap (λ m. m ++ b) e ∙ append_assoc out a b) h

-- where the first part ends in what stands in front of the second
pub regrouped : {E : Type 0} (r : Result (Unit {0}) E) (new out word t a b : List ℕ) → OnOk r (new ≡ out ++ ((word ++ (t ++ a)) ++ b)) → OnOk r (new ≡ out ++ (word ++ (t ++ (a ++ b))))
regrouped r new out word t a b h = subst (λ x. OnOk r (new ≡ out ++ x)) (append_assoc word (t ++ a) b ∙ ap (λ z. word ++ z) (append_assoc t a b)) h
