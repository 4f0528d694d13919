-- Lists whose things have the same keys, one after another.
use Rattle.std.proofs.Common.{◌≡◌, ℕ, zero, suc, ◌+◌, List, [], ◌∷◌, map, take, Some, slice_get, refl, sym, ap, ◌∙◌, add-one}
use Rattle.std.proofs.lemmas.Option.{none-some, same_Some}
use Rattle.task_keys.proofs.Telling.{ap2}

-- what follows from the same keys for each follows for all
pub same_all : {A B C : Type 0} (f : A → B) (g : A → C) → ((x y : A) → f x ≡ f y → g x ≡ g y) → (xs ys : List A) → map f xs ≡ map f ys → map g xs ≡ map g ys
same_all f g h [] [] e = refl
same_all f g h [] (y ∷ ys) e = absurd (cc)
same_all f g h (x ∷ xs) [] e = absurd (cc)
same_all {A} {B} {C} f g h (x ∷ xs) (y ∷ ys) e =
    let first : f x ≡ f y = cc in
    let rest : map f xs ≡ map f ys = cc in
    ap2 (λ z zs. z ∷ zs) (h x y first) (same_all f g h xs ys rest)

-- one more has the same key
more_same : {A B : Type 0} (f : A → B) (xs ys : List A) (i : ℕ) (x y : A) → slice_get xs i ≡ Some x → slice_get ys i ≡ Some y → f x ≡ f y → map f (take i xs) ≡ map f (take i ys) → map f (take (suc i) xs) ≡ map f (take (suc i) ys)
more_same f [] ys i x y here there e before = absurd (none-some x here)
more_same f (a ∷ xs) [] i x y here there e before = absurd (none-some y there)
more_same f (a ∷ xs) (b ∷ ys) zero x y here there e before = ap (λ z. f z ∷ []) (same_Some a x here) ∙ ap (λ z. z ∷ []) e ∙ ap (λ z. f z ∷ []) (sym (same_Some b y there))
more_same f (a ∷ xs) (b ∷ ys) (suc i) x y here there e before =
    let first : f a ≡ f b = cc in
    let rest : map f (take i xs) ≡ map f (take i ys) = cc in
    ap2 (λ z zs. z ∷ zs) first (more_same f xs ys i x y here there e rest)

pub one_more : {A B : Type 0} (f : A → B) (xs ys : List A) (i : ℕ) (x y : A) → slice_get xs i ≡ Some x → slice_get ys i ≡ Some y → f x ≡ f y → map f (take i xs) ≡ map f (take i ys) → map f (take (i + 1) xs) ≡ map f (take (i + 1) ys)
one_more f xs ys i x y here there e before = rw add-one (more_same f xs ys i x y here there e before)

-- if all have the same keys, so have those at one place
pub same_at : {A B : Type 0} (f : A → B) (xs ys : List A) (i : ℕ) (x y : A) → slice_get xs i ≡ Some x → slice_get ys i ≡ Some y → map f xs ≡ map f ys → f x ≡ f y
same_at f [] ys i x y here there e = absurd (none-some x here)
same_at f (a ∷ xs) [] i x y here there e = absurd (none-some y there)
same_at f (a ∷ xs) (b ∷ ys) zero x y here there e =
    let first : f a ≡ f b = cc in
    ap f (sym (same_Some a x here)) ∙ first ∙ ap f (same_Some b y there)
same_at f (a ∷ xs) (b ∷ ys) (suc i) x y here there e =
    let rest : map f xs ≡ map f ys = cc in
    same_at f xs ys i x y here there rest
