-- Texts that are written part after part.
use Rattle.std.proofs.Common.{◌≡◌, ℕ, zero, suc, ◌+◌, List, [], ◌∷◌, ◌++◌, map, sym, ap, ◌∙◌, arith, append_assoc}
use Rattle.std.proofs.lemmas.Grind.{flat_map-append}
use Rattle.std.proofs.lemmas.List.{append-nil, map-append}
use Rattle.std.specs.List.{flat_map}
use Rattle.run_meaning.specs.Turns.{from_on}

pub three_behind : (old a b c first second third : List ℕ) → first ≡ old ++ a → second ≡ first ++ b → third ≡ second ++ c → third ≡ old ++ (a ++ (b ++ c))
three_behind old a b c first second third f s t =
    t ∙ ap (λ x. x ++ c) (s ∙ ap (λ x. x ++ b) f) ∙ append_assoc (old ++ a) b c ∙ append_assoc old a (b ++ c)

pub from_longer : (k n : ℕ) → from_on k (suc n) ≡ from_on k n ++ (k + n) ∷ []
from_longer k zero = let z : k ≡ k + 0 = omega arith in ap (λ m. m ∷ []) z
from_longer k (suc n) = let z : suc k + n ≡ k + suc n = omega arith in ap (λ ms. k ∷ ms) (from_longer (suc k) n ∙ ap (λ m. from_on (suc k) n ++ m ∷ []) z)

-- numbers from 0 on, and one more
pub one_more : (n : ℕ) → from_on 0 (n + 1) ≡ from_on 0 n ++ n ∷ []
one_more n = let a : n + 1 ≡ suc n = omega arith in let z : 0 + n ≡ n = omega arith in ap (from_on 0) a ∙ from_longer 0 n ∙ ap (λ m. from_on 0 n ++ m ∷ []) z

-- what is written for each of them
pub written_on : (f : ℕ → List ℕ) (head text more : List ℕ) (n : ℕ) → text ≡ head ++ flat_map f (from_on 0 n) → more ≡ text ++ f n → more ≡ head ++ flat_map f (from_on 0 (n + 1))
written_on f head text more n so_far is =
    is ∙ ap (λ t. t ++ f n) so_far ∙ append_assoc head (flat_map f (from_on 0 n)) (f n)
    ∙ ap (λ t. head ++ (flat_map f (from_on 0 n) ++ t)) (sym (append-nil (f n)))
    ∙ ap (λ t. head ++ t) (sym (flat_map-append f (from_on 0 n) (n ∷ [])) ∙ ap (flat_map f) (sym (one_more n)))

pub listed_on : (f : ℕ → List ℕ) (xs more : List (List ℕ)) (n : ℕ) → xs ≡ map f (from_on 0 n) → more ≡ xs ++ f n ∷ [] → more ≡ map f (from_on 0 (n + 1))
listed_on f xs more n so_far is =
    is ∙ ap (λ ys. ys ++ f n ∷ []) so_far ∙ sym (map-append f (from_on 0 n) (n ∷ [])) ∙ ap (map f) (sym (one_more n))
