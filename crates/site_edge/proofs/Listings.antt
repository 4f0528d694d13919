-- What a filter, a sort and a removal of repeats leave of the names of files.
use Rattle.std.proofs.Common.{◌≡◌, ℕ, zero, suc, List, [], ◌∷◌, map, filter, Contains, Bool, true, false, cond, ◌⊎◌, inl, inr, refl, sym, ap, ◌∙◌, subst, nat_eq, arith}
use Rattle.std.specs.List.{dedup}
use Rattle.std.specs.List.Sorted.{IsPermutation, IsSorted}
use Rattle.std.specs.Cmp.Lexicographic.{slice_cmp, pointwise, nat_list_cmp_total, nat_list_eq_equiv, texts_ties, same_text}
use Rattle.std.specs.Ordering.{nat_cmp}
use Rattle.std.proofs.lemmas.List.Elements.{Contains-append_right, Contains-append_cases}
use Rattle.std.proofs.lemmas.List.Kept.{IsStrictlySortedBy-dedup, Contains-dedup, Contains-from_dedup}
use Rattle.std.proofs.lemmas.List.Sorted.{Contains-permutation, IsPermutation-sym}
use Rattle.site_edge.specs.Told.{IsListingOf, is_below, name_of}

Contains-here : {X : Type 0} (x : X) (xs : List X) → Contains (x ∷ xs) x
Contains-here x xs = (0, omega arith, refl)

Contains-there : {X : Type 0} (x y : X) (xs : List X) → Contains xs y → Contains (x ∷ xs) y
Contains-there x y xs h = Contains-append_right (x ∷ []) xs y h

-- the only element of a list of one
Contains-one : {X : Type 0} (x y : X) → Contains (x ∷ []) y → x ≡ y
Contains-one x y (zero, lt, e) = e
Contains-one x y (suc k, lt, e) = absurd (omega (arith, lt))

Contains-cases : {X : Type 0} (x y : X) (xs : List X) → Contains (x ∷ xs) y → (x ≡ y) ⊎ Contains xs y
Contains-cases x y xs h = elim (Contains-append_cases (x ∷ []) xs y h) [ inl a ↦ inl (Contains-one x y a) | inr b ↦ inr b ]

-- the element that passes is kept
keeps_by : {X : Type 0} (p : X → Bool) (x y : X) (ys : List X) (b : Bool) → p x ≡ b → p y ≡ true → (x ≡ y) ⊎ Contains ys y → Contains (cond b (x ∷ ys) ys) y
keeps_by p x y ys true e h (inl a) = subst (λ z. Contains (z ∷ ys) y) (sym a) (Contains-here y ys)
keeps_by p x y ys true e h (inr b) = Contains-there x y ys b
keeps_by p x y ys false e h (inl a) = let f : true ≡ false = sym h ∙ ap p (sym a) ∙ e in cc
keeps_by p x y ys false e h (inr b) = b

⊎-right : {A B C : Type 0} → (B → C) → A ⊎ B → A ⊎ C
⊎-right f (inl a) = inl a
⊎-right f (inr b) = inr (f b)

Contains-filter : {X : Type 0} (p : X → Bool) (xs : List X) (y : X) → Contains xs y → p y ≡ true → Contains (filter p xs) y
Contains-filter p [] y h e = absurd (omega (arith, h.1))
Contains-filter p (x ∷ xs) y h e =
    keeps_by p x y (filter p xs) (p x) refl e (⊎-right (λ c. Contains-filter p xs y c e) (Contains-cases x y xs h))

from_by : {X : Type 0} (p : X → Bool) (x y : X) (xs ys : List X) (b : Bool) → p x ≡ b → (Contains ys y → Contains xs y × (p y ≡ true)) → Contains (cond b (x ∷ ys) ys) y → Contains (x ∷ xs) y × (p y ≡ true)
from_by p x y xs ys true e more h =
    elim (Contains-cases x y ys h) [
      | inl a ↦ (subst (λ z. Contains (z ∷ xs) y) (sym a) (Contains-here y xs), ap p (sym a) ∙ e)
      | inr b ↦ (Contains-there x y xs (more b).0, (more b).1)
    ]
from_by p x y xs ys false e more h = (Contains-there x y xs (more h).0, (more h).1)

Contains-from_filter : {X : Type 0} (p : X → Bool) (xs : List X) (y : X) → Contains (filter p xs) y → Contains xs y × (p y ≡ true)
Contains-from_filter p [] y h = absurd (omega (arith, h.1))
Contains-from_filter p (x ∷ xs) y h = from_by p x y xs (filter p xs) (p x) refl (Contains-from_filter p xs y) h

-- the names below a folder, sorted and without repeats
pub listing_of : (dir : List ℕ) (files : List (List ℕ × List ℕ)) (found sorted : List (List ℕ)) → found ≡ filter (is_below dir) (map name_of files)
    → IsPermutation found sorted → IsSorted (slice_cmp nat_cmp) sorted → IsListingOf dir files (dedup (pointwise nat_eq) sorted)
listing_of dir files found sorted is moved rises =
    let below : List ℕ → Bool = is_below dir in
    let all : List (List ℕ) = map name_of files in
    record {
      ordered = IsStrictlySortedBy-dedup nat_list_cmp_total texts_ties sorted rises;
      members = λ n. (
        λ h. Contains-from_filter below all n (subst (λ xs. Contains xs n) is (Contains-permutation sorted found n (IsPermutation-sym found sorted moved) (Contains-from_dedup (pointwise nat_eq) sorted n h))),
        λ h. Contains-dedup nat_list_eq_equiv (λ x y e. same_text x y (sym e)) sorted n (Contains-permutation found sorted n moved (subst (λ xs. Contains xs n) (sym is) (Contains-filter below all n h.0 h.1))),
      );
    }
