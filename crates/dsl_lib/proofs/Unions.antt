-- Distinct elements.
use Rattle.std.proofs.Common.{◌≡◌, ℕ, zero, suc, ◌+◌, ◌<◌, ◌≤◌, List, [], ◌∷◌, ◌++◌, length, drop, get_or, Option, Some, None, refl, sym, ap, ◌∙◌, arith}
use Rattle.std.specs.List.{flat_map}
use Rattle.std.proofs.lemmas.List.{flat_map_more}
use Rattle.dsl_value.specs.Contents.{PlainCell}
use Rattle.dsl_value.specs.declared.value.Value.{Value}
use Rattle.dsl_lib.specs.Arrays.{all_in, and_also}
use Rattle.dsl_lib.specs.Sets.{with_distinct, distinct}

pub distinct_append : (cells : List PlainCell) (taken xs ys : List Value) → distinct cells taken (xs ++ ys) ≡ distinct cells (distinct cells taken xs) ys
distinct_append cells taken [] ys = refl
distinct_append cells taken (x ∷ xs) ys = distinct_append cells (with_distinct cells taken x) xs ys

-- those of one more array are taken
pub taken_more : (cells : List PlainCell) (start taken next xs : List Value) (made : List (List Value)) → taken ≡ distinct cells start (flat_map (λ ys. ys) made) → next ≡ distinct cells taken xs → next ≡ distinct cells start (flat_map (λ ys. ys) (made ++ xs ∷ []))
taken_more cells start taken next xs made h e =
    e ∙ ap (λ t. distinct cells t xs) h ∙ sym (distinct_append cells start (flat_map (λ ys. ys) made) xs) ∙ ap (distinct cells start) (flat_map_more (λ ys. ys) [] made xs)

abbrev value_in : {A : Type 0} → A → Option A → A
value_in d None = d
value_in d (Some a) = a

-- what all are is None where one isn't
none_by : {A : Type 0} (r : Option A) (rest : Option (List A)) → rest ≡ None → and_also r rest ≡ None
none_by None rest e = refl
none_by (Some x) rest e = ap (and_also (Some x)) e

module _ {A : Type 0} (read : Value → Option A) where
  pub none_in : (items : List Value) (i : ℕ) (item : Value) → i < length items → item ≡ get_or items i item → read item ≡ None → all_in read items ≡ None
  none_in [] i item h e r = absurd (omega (arith, h))
  none_in (v ∷ vs) zero item h e r = ap (λ o. and_also o (all_in read vs)) (sym (ap read e) ∙ r)
  none_in (v ∷ vs) (suc i) item h e r = none_by (read v) (all_in read vs) (none_in vs i item (omega (arith, h)) e r)

  cons_in : (v : Value) (vs : List Value) (xs : List A) → all_in read (v ∷ vs) ≡ Some xs → (y : A) × (ys : List A) × (read v ≡ Some y) × (all_in read vs ≡ Some ys) × (xs ≡ y ∷ ys)
  cons_in v vs xs e = by (read v) (all_in read vs) refl refl e
    where
      by : (r : Option A) (rest : Option (List A)) → read v ≡ r → all_in read vs ≡ rest → and_also r rest ≡ Some xs → (y : A) × (ys : List A) × (read v ≡ Some y) × (all_in read vs ≡ Some ys) × (xs ≡ y ∷ ys)
      by None rest er es h = cc
      by (Some y) None er es h = cc
      by (Some y) (Some ys) er es h = (y, ys, er, es, sym (ap (value_in xs) h))

  -- what is read at a place stands there
  pub drop_in : (items : List Value) (i : ℕ) (item : Value) (x : A) (xs : List A) → i < length items → item ≡ get_or items i item → read item ≡ Some x → all_in read items ≡ Some xs → drop i xs ≡ x ∷ drop (i + 1) xs
  drop_in [] i item x xs h e r all = absurd (omega (arith, h))
  drop_in (v ∷ vs) zero item x xs h e r all =
      let found = cons_in v vs xs all in
      found.4 ∙ ap (λ y. y ∷ found.1) (ap (value_in found.0) (sym found.2 ∙ sym (ap read e) ∙ r)) ∙ sym (ap (λ l. x ∷ drop 1 l) found.4)
  drop_in (v ∷ vs) (suc i) item x xs h e r all =
      let found = cons_in v vs xs all in
      let more : suc i + 1 ≡ suc (i + 1) = omega arith in
      ap (drop (suc i)) found.4 ∙ drop_in vs i item x found.1 (omega (arith, h)) e r found.3 ∙ sym (ap (λ n. x ∷ drop n xs) more ∙ ap (λ l. x ∷ drop (suc (i + 1)) l) found.4)

  pub length_in : (items : List Value) (xs : List A) → all_in read items ≡ Some xs → length xs ≡ length items
  length_in [] xs e = ap length (sym (ap (value_in xs) e))
  length_in (v ∷ vs) xs e = let found = cons_in v vs xs e in ap length found.4 ∙ ap suc (length_in vs found.1 found.3)

pub drop_end : {A : Type 0} (xs : List A) (i : ℕ) → length xs ≤ i → drop i xs ≡ []
drop_end [] zero h = refl
drop_end [] (suc i) h = refl
drop_end (x ∷ xs) zero h = absurd (omega (arith, h))
drop_end (x ∷ xs) (suc i) h = drop_end xs i (omega (arith, h))
