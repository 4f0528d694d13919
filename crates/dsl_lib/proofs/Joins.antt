-- Texts that are joined.
use Rattle.std.proofs.Common.{◌≡◌, ℕ, ◌-◌, ◌≤◌, List, [], ◌∷◌, ◌++◌, length, take, drop, get_or, Some, refl, sym, ap, ◌∙◌, arith, append_assoc}
use Rattle.std.specs.List.{flat_map}
use Rattle.std.proofs.lemmas.List.{flat_map_more}
use Rattle.dsl_value.specs.declared.value.Value.{Value}
use Rattle.dsl_lib.specs.Scalars.{scalar_text}
use Rattle.dsl_lib.specs.Arrays.{and_also, all_in, joined}

-- one more, with a separator before it
pub separated : (o o1 o2 base separator t : List ℕ) (made : List (List ℕ)) → o ≡ base ++ flat_map (λ x. separator ++ x) made → o1 ≡ o ++ separator → o2 ≡ o1 ++ t → o2 ≡ base ++ flat_map (λ x. separator ++ x) (made ++ t ∷ [])
separated o o1 o2 base separator t made h e1 e2 =
    e2 ∙ ap (λ x. x ++ t) (e1 ∙ ap (λ x. x ++ separator) h) ∙ append_assoc (base ++ flat_map (λ x. separator ++ x) made) separator t ∙ flat_map_more (λ x. separator ++ x) base made t

take_all : (xs : List Value) → take (length xs) xs ≡ xs
take_all [] = refl
take_all (x ∷ xs) = ap (λ l. x ∷ l) (take_all xs)

rest_of : (x : Value) (xs : List Value) → take (length (x ∷ xs) - 1) xs ≡ xs
rest_of x xs = let e : length (x ∷ xs) - 1 ≡ length xs = omega arith in ap (λ n. take n xs) e ∙ take_all xs

pub first_and_rest : (items : List Value) (first : Value) (t : List ℕ) (ts : List (List ℕ)) → 1 ≤ length items → first ≡ get_or items 0 first → scalar_text first ≡ Some t → all_in scalar_text (take (length items - 1) (drop 1 items)) ≡ Some ts → all_in scalar_text items ≡ Some (t ∷ ts)
first_and_rest [] first t ts l e r h = absurd (omega (arith, l))
first_and_rest (x ∷ xs) first t ts l e r h = ap (λ v. and_also (scalar_text v) (all_in scalar_text xs)) (sym e) ∙ ap (λ y. and_also y (all_in scalar_text xs)) r ∙ ap (and_also (Some t)) (ap (all_in scalar_text) (sym (rest_of x xs)) ∙ h)

pub joined_first : (o o1 o2 separator t : List ℕ) (ts : List (List ℕ)) → o ≡ [] → o1 ≡ o ++ t → o2 ≡ o1 ++ flat_map (λ x. separator ++ x) ts → o2 ≡ joined separator (t ∷ ts)
joined_first o o1 o2 separator t ts e e1 e2 = e2 ∙ ap (λ x. x ++ flat_map (λ y. separator ++ y) ts) (e1 ∙ ap (λ x. x ++ t) e)
