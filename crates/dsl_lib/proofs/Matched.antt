-- Texts that are held against a pattern.
use Rattle.std.proofs.Common.{◌≡◌, ℕ, ◌&&◌, Bool, true, false, List, [], ◌∷◌, ◌++◌, Option, Some, None, refl, sym, ap, ◌∙◌}
use Rattle.std.specs.List.{list_all}
use Rattle.dsl_lib.specs.Matching.{option_of}

abbrev or_else : {B : Type 0} → B → Option B → B
or_else d None = d
or_else d (Some b) = b

pub option_some : {A B : Type 0} (f : A → B) (r : Option A) (b : B) → option_of f r ≡ Some b → (a : A) × (r ≡ Some a) × (b ≡ f a)
option_some f None b e = cc
option_some f (Some a) b e = (a, refl, sym (ap (or_else b) e))

and_assoc : (a b c : Bool) → ((a && b) && c) ≡ (a && (b && c))
and_assoc true b c = refl
and_assoc false b c = refl

and_true : (b : Bool) → (b && true) ≡ b
and_true true = refl
and_true false = refl

list_all_push : (p : List ℕ → Bool) (ts : List (List ℕ)) (t : List ℕ) → list_all p (ts ++ t ∷ []) ≡ (list_all p ts && p t)
list_all_push p [] t = and_true (p t)
list_all_push p (x ∷ xs) t = ap (λ b. p x && b) (list_all_push p xs t) ∙ sym (and_assoc (p x) (list_all p xs) (p t))

-- one more text
pub all_more : (p : List ℕ → Bool) (some all one next : Bool) (ts : List (List ℕ)) (t : List ℕ) → all ≡ (some && list_all p ts) → one ≡ p t → next ≡ (all && one) → next ≡ (some && list_all p (ts ++ t ∷ []))
all_more p some all one next ts t h e n = n ∙ ap (λ x. x && one) h ∙ ap (λ x. (some && list_all p ts) && x) e ∙ and_assoc some (list_all p ts) (p t) ∙ ap (λ x. some && x) (sym (list_all_push p ts t))
