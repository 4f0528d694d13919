-- One step of a loop over a list.
use Rattle.std.proofs.Common.{◌≡◌, ◌<◌, ◌≤◌, ◌+◌, ℕ, zero, suc, max, List, [], ◌∷◌, ◌++◌, length, drop, map, slice_get, get_or, nat_eq, cond, Bool, true, false, ◌&&◌, Some, None, refl, sym, ap, ◌∙◌, subst, arith}
use Rattle.std.proofs.lemmas.Option.{slice_get-get_or}
use mathlib.Core.Path.{fun_ext}
use Rattle.std.specs.List.{list_all}
use Rattle.site_model.specs.declared.sight.Sight.{Sight}
use Rattle.round_check.specs.Walking.{raised}

-- what stands at an index
pub at_is : {A : Type 0} (i : ℕ) (xs : List A) (x : A) → i < length xs → x ≡ get_or xs i x → slice_get xs i ≡ Some x
at_is i xs x l is = slice_get-get_or xs i x l ∙ ap Some (sym is)

pub drop_one : {A : Type 0} (i : ℕ) (xs : List A) (x : A) → slice_get xs i ≡ Some x → drop i xs ≡ x ∷ drop (i + 1) xs
drop_one i [] x at = absurd cc
drop_one zero (y ∷ xs) x at = let e : y ≡ x = cc in ap (λ z. z ∷ xs) e
drop_one {A = A} (suc i) (y ∷ xs) x at =
    let e : suc (i + 1) ≡ suc i + 1 = omega arith in
    drop_one i xs x at ∙ ap (λ n. x ∷ drop {A = A} n (y ∷ xs)) e

pub drop_past : {A : Type 0} (i : ℕ) (xs : List A) → length xs ≤ i → drop i xs ≡ []
drop_past zero [] l = refl
drop_past (suc i) [] l = refl
drop_past zero (x ∷ xs) l = absurd (omega (arith, l))
drop_past (suc i) (x ∷ xs) l = drop_past i xs (omega (arith, l))

pub all_next : {A : Type 0} (test : A → Bool) (i : ℕ) (xs : List A) (x : A) (r : Bool) → slice_get xs i ≡ Some x → test x ≡ true → list_all test (drop i xs) ≡ r → list_all test (drop (i + 1) xs) ≡ r
all_next test i xs x r at so h = sym (ap (list_all test) (drop_one i xs x at) ∙ ap (λ b. b && list_all test (drop (i + 1) xs)) so) ∙ h

pub all_fails : {A : Type 0} (test : A → Bool) (i : ℕ) (xs : List A) (x : A) (r : Bool) → slice_get xs i ≡ Some x → test x ≡ false → list_all test (drop i xs) ≡ r → false ≡ r
all_fails test i xs x r at so h = sym (ap (list_all test) (drop_one i xs x at) ∙ ap (λ b. b && list_all test (drop (i + 1) xs)) so) ∙ h

pub all_end : {A : Type 0} (test : A → Bool) (i : ℕ) (xs : List A) (r : Bool) → length xs ≤ i → list_all test (drop i xs) ≡ r → true ≡ r
all_end test i xs r l h = sym (ap (list_all test) (drop_past i xs l)) ∙ h

pub raise_next : (i : ℕ) (xs : List Sight) (x : Sight) (old new : ℕ → ℕ) (q n : ℕ) → slice_get xs i ≡ Some x → ((p : ℕ) → new p ≡ cond (nat_eq x.checkable p) (max (old p) x.count) (old p))
    → raised (drop i xs) old q ≡ n → raised (drop (i + 1) xs) new q ≡ n
raise_next i xs x old new q n at made h =
    ap (λ f. raised (drop (i + 1) xs) f q) (fun_ext made) ∙ sym (ap (λ ys. raised ys old q) (drop_one i xs x at)) ∙ h

pub raise_end : (i : ℕ) (xs : List Sight) (f : ℕ → ℕ) (q n : ℕ) → length xs ≤ i → raised (drop i xs) f q ≡ n → f q ≡ n
raise_end i xs f q n l h = sym (ap (λ ys. raised ys f q) (drop_past i xs l)) ∙ h
