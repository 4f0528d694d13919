-- Values that name cells and functions of a store.
use Rattle.std.proofs.Common.{◌≡◌, ℕ, zero, suc, ℤ, ◌+ℤ◌, Bool, true, false, cond, List, ◌++◌, [], ◌∷◌, map, Option, Some, None, refl, sym, ap, subst, ◌∙◌}
use Rattle.std.specs.List.{AllByRecursion}
use Rattle.dsl_value.specs.Contents.{PlainCell, array, dict, cell_at, is_dict}
use Rattle.dsl_value.specs.Pairs.{Pairs, find}
use Rattle.dsl_value.specs.Whole.{Names, NamesAll}
use Rattle.dsl_value.specs.declared.value.Value.{Value}
use Rattle.dsl_value.specs.declared.value.Value.TheVariants as value
use Rattle.std.specs.Ordering.{int_cmp, is_eq}
use Rattle.dsl_value.specs.Pairs.{key_cmp}
use Rattle.dsl_lib.specs.Arguments.{three, text_in, number_in, dict_in, if_dict}
use Rattle.dsl_lib.specs.Arrays.{all_in, sorted, sorted_values, numbers_sorted, texts_sorted}
use Rattle.dsl_lib.specs.Sets.{numbers_from}
use Rattle.dsl_lib.specs.Dicts.{key_of, value_of}

pub keys_stand : (c f : ℕ) (ps : Pairs) → AllByRecursion (Names c f) (map key_of ps)
keys_stand c f [] = tt
keys_stand c f (p ∷ ps) = (tt, keys_stand c f ps)

pub values_stand : (c f : ℕ) (ps : Pairs) → NamesAll c f ps → AllByRecursion (Names c f) (map value_of ps)
values_stand c f [] h = tt
values_stand c f (p ∷ ps) h = (h.0, values_stand c f ps h.1)

abbrev third : Value → Option (Value × Value × Value) → Value
third d None = d
third d (Some a) = a.2

-- the third of three arguments
pub third_stands : (P : Value → Type 0) (args : List Value) (a b v : Value) → three args ≡ Some (a, b, v) → AllByRecursion P args → P v
third_stands P [] a b v e h = cc
third_stands P (x ∷ []) a b v e h = cc
third_stands P (x ∷ y ∷ []) a b v e h = cc
third_stands P (x ∷ y ∷ z ∷ []) a b v e h = subst P (ap (third v) e) h.1.1.0
third_stands P (x ∷ y ∷ z ∷ w ∷ more) a b v e h = cc

pub texts_stand : (c f : ℕ) (ts : List (List ℕ)) → AllByRecursion (Names c f) (map value.Str ts)
texts_stand c f [] = tt
texts_stand c f (t ∷ ts) = (tt, texts_stand c f ts)

numbers_stand : (c f : ℕ) (ns : List ℤ) → AllByRecursion (Names c f) (map value.Number ns)
numbers_stand c f [] = tt
numbers_stand c f (n ∷ ns) = (tt, numbers_stand c f ns)

abbrev one_value : Value → Option Value → Value
one_value d None = d
one_value d (Some v) = v

abbrev list_in : Option (List Value) → List Value
list_in None = []
list_in (Some vs) = vs

pub sorted_stand : (c f : ℕ) (vs row : List Value) → sorted_values vs ≡ Some row → AllByRecursion (Names c f) row
sorted_stand c f vs row h = by (all_in text_in vs) (all_in number_in vs) h
  where
    by : (ts : Option (List (List ℕ))) (ns : Option (List ℤ)) → texts_sorted ts (numbers_sorted ns) ≡ Some row → AllByRecursion (Names c f) row
    by (Some ts) ns e = subst (AllByRecursion (Names c f)) (ap list_in e) (texts_stand c f (sorted key_cmp ts))
    by None (Some ns) e = subst (AllByRecursion (Names c f)) (ap list_in e) (numbers_stand c f (sorted int_cmp ns))
    by None None e = cc

pub stand_push : (P : Value → Type 0) (xs : List Value) (x : Value) → AllByRecursion P xs → P x → AllByRecursion P (xs ++ x ∷ [])
stand_push P [] x h p = (p, tt)
stand_push P (y ∷ ys) x h p = (h.0, stand_push P ys x h.1 p)

pub steps_stand : (c f n : ℕ) (first step : ℤ) → AllByRecursion (Names c f) (numbers_from n first step)
steps_stand c f zero first step = tt
steps_stand c f (suc n) first step = (tt, steps_stand c f n (first +ℤ step) step)

-- a key's value
pub find_stands : (c f : ℕ) (ps : Pairs) (k : List ℕ) (v : Value) → NamesAll c f ps → find k ps ≡ Some v → Names c f v
find_stands c f [] k v h e = cc
find_stands c f (p ∷ ps) k v h e = by (is_eq (key_cmp k p.0)) e (λ w. find_stands c f ps k v h.1 w)
  where
    by : (b : Bool) → cond b (Some p.1) (find k ps) ≡ Some v → (find k ps ≡ Some v → Names c f v) → Names c f v
    by true w later = subst (Names c f) (ap (one_value p.1) w) h.0
    by false w later = later w

abbrev or_zero : Option ℕ → ℕ
or_zero None = 0
or_zero (Some k) = k

-- a dictionary that is named
pub dict_is : (cells : List PlainCell) (v : Value) (k : ℕ) → dict_in cells v ≡ Some k → is_dict (cell_at cells k) ≡ true
dict_is cells value.Null k e = cc
dict_is cells (value.Bool b) k e = cc
dict_is cells (value.Number n) k e = cc
dict_is cells (value.Str t) k e = cc
dict_is cells (value.Func f) k e = cc
dict_is cells (value.Ref j) k e = by (cell_at cells j) refl e
  where
    by : (c : PlainCell) → cell_at cells j ≡ c → if_dict c j ≡ Some k → is_dict (cell_at cells k) ≡ true
    by (array vs) f h = cc
    by (dict ps) f h = ap (λ i. is_dict (cell_at cells i)) (sym (ap or_zero h)) ∙ ap is_dict f
