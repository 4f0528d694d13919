-- What all of some values are, if each is one.
use Rattle.std.proofs.Common.{◌≡◌, ℕ, suc, ◌+◌, ◌<◌, List, [], ◌∷◌, ◌++◌, length, drop, get_or, Option, Some, None, refl, sym, ap, ◌∙◌, arith, append_assoc, append-nil, drop-cons}
use Rattle.dsl_value.specs.declared.value.Value.{Value}
use Rattle.dsl_lib.specs.Arrays.{and_also, all_in}

-- with those of a front before them
abbrev pub with_front : {A : Type 0} → List A → Option (List A) → Option (List A)
with_front xs None = None
with_front xs (Some ys) = Some (xs ++ ys)

module _ {A : Type 0} (read : Value → Option A) where
  pub front_none : (r : Option (List A)) → with_front [] r ≡ r
  front_none None = refl
  front_none (Some ys) = refl

  front_more : (made : List A) (x : A) (rest : Option (List A)) → with_front (made ++ x ∷ []) rest ≡ with_front made (and_also (Some x) rest)
  front_more made x None = refl
  front_more made x (Some ys) = ap Some (append_assoc made (x ∷ []) ys)

  at_value : (items : List Value) (i : ℕ) (item : Value) → i < length items → item ≡ get_or items i item → all_in read (drop i items) ≡ and_also (read item) (all_in read (drop (i + 1) items))
  at_value items i item h e =
      let more : suc i ≡ i + 1 = omega arith in
      ap (all_in read) (drop-cons items i item h) ∙ ap (λ v. and_also (read v) (all_in read (drop (suc i) items))) (sym e) ∙ ap (λ n. and_also (read item) (all_in read (drop n items))) more

  -- one more is read
  pub front_step : (items : List Value) (i : ℕ) (item : Value) (made : List A) (x : A) (all : Option (List A)) → i < length items → item ≡ get_or items i item → read item ≡ Some x → with_front made (all_in read (drop i items)) ≡ all
      → with_front (made ++ x ∷ []) (all_in read (drop (i + 1) items)) ≡ all
  front_step items i item made x all h e r inv =
      front_more made x (all_in read (drop (i + 1) items)) ∙ ap (λ y. with_front made (and_also y (all_in read (drop (i + 1) items)))) (sym r) ∙ ap (with_front made) (sym (at_value items i item h e)) ∙ inv

  -- one isn't of that kind
  pub front_wrong : (items : List Value) (i : ℕ) (item : Value) (made : List A) (all : Option (List A)) → i < length items → item ≡ get_or items i item → read item ≡ None → with_front made (all_in read (drop i items)) ≡ all → all ≡ None
  front_wrong items i item made all h e r inv = sym inv ∙ ap (with_front made) (at_value items i item h e ∙ ap (λ y. and_also y (all_in read (drop (i + 1) items))) r)

  drop_all : (items : List Value) → drop (length items) items ≡ []
  drop_all [] = refl
  drop_all (x ∷ xs) = drop_all xs

  -- all are read
  pub front_all : (items : List Value) (i : ℕ) (made : List A) (all : Option (List A)) → i ≡ length items → with_front made (all_in read (drop i items)) ≡ all → all ≡ Some made
  front_all items i made all e inv = sym inv ∙ ap (λ n. with_front made (all_in read (drop n items))) e ∙ ap (λ l. with_front made (all_in read l)) (drop_all items) ∙ ap Some (append-nil made)
