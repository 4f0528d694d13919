-- Names with their values, of which more are put in.
use Rattle.std.proofs.Common.{◌≡◌, ℕ, List, [], ◌∷◌, Option, Some, None, Result, Ok, Err, subst, sym, Bor}
use Rattle.std.specs.Ordering.{match_ordering}
use Rattle.std.specs.declared.cmp.Ordering.TheVariants.{Less, Equal, Greater}
use Rattle.std.specs.Prelude.{IfSome, OnOk}
use Rattle.std.specs.List.{AllByRecursion}
use Rattle.dsl_value.specs.Pairs.{Pairs, find, put, dict_of, key_cmp}
use Rattle.dsl_value.specs.Whole.{Names, NamesAll}
use Rattle.dsl_value.specs.declared.value.Value.{Value}
use Rattle.dsl_value.proofs.Found.{find_stands}
use Rattle.eval_meaning.specs.Functions.{bound}

names_put : (cells functions : ℕ) (k : List ℕ) (v : Value) (ps : Pairs) → Names cells functions v → NamesAll cells functions ps → NamesAll cells functions (put k v ps)
names_put cells functions k v [] n a = (n, tt)
names_put cells functions k v (p ∷ ps) n a =
    elim (key_cmp k p.0) as (λ o. NamesAll cells functions (match_ordering o ((k, v) ∷ p ∷ ps) ((p.0, v) ∷ ps) (p ∷ put k v ps))) [
      | Less ↦ (n, a)
      | Equal ↦ (n, a.1)
      | Greater ↦ (a.0, names_put cells functions k v ps n a.1)
    ]

-- the value of a name
pub found_named : (cells functions : ℕ) (n : List ℕ) (ps : Pairs) (o : Option (Bor Value)) → NamesAll cells functions ps → IfSome o (λ v. find n ps ≡ Some v.now) → IfSome o (λ v. Names cells functions v.now)
found_named cells functions n ps None a h = tt
found_named cells functions n ps (Some v) a h = find_stands cells functions ps n v.now a h

-- a name more
pub put_named : (cells functions : ℕ) (n : List ℕ) (v : Value) (ps qs : Pairs) → qs ≡ put n v ps → NamesAll cells functions ps → Names cells functions v → NamesAll cells functions qs
put_named cells functions n v ps qs e a h = subst (NamesAll cells functions) (sym e) (names_put cells functions n v ps h a)

pub put_if_named : {X E : Type 0} (cells functions : ℕ) (n : List ℕ) (v : Value) (ps qs : Pairs) (r : Result X E) → OnOk r (qs ≡ put n v ps) → NamesAll cells functions ps → Names cells functions v → OnOk r (NamesAll cells functions qs)
put_if_named cells functions n v ps qs (Ok x) e a h = put_named cells functions n v ps qs e a h
put_if_named cells functions n v ps qs (Err x) e a h = tt

-- names of which each is put in
pub all_put : (cells functions : ℕ) (ps qs : Pairs) → NamesAll cells functions qs → NamesAll cells functions ps → NamesAll cells functions (dict_of ps qs)
all_put cells functions [] qs a h = a
all_put cells functions (p ∷ ps) qs a h = all_put cells functions ps (put p.0 p.1 qs) (names_put cells functions p.0 p.1 qs h.0 a) h.1

pub all_named : (cells functions : ℕ) (ps qs rs : Pairs) → rs ≡ dict_of ps qs → NamesAll cells functions qs → NamesAll cells functions ps → NamesAll cells functions rs
all_named cells functions ps qs rs e a h = subst (NamesAll cells functions) (sym e) (all_put cells functions ps qs a h)

pub bound_named : (cells functions : ℕ) (ns : List (List ℕ)) (vs : List Value) → AllByRecursion (Names cells functions) vs → NamesAll cells functions (bound ns vs)
bound_named cells functions [] vs h = tt
bound_named cells functions (n ∷ ns) [] h = tt
bound_named cells functions (n ∷ ns) (v ∷ vs) h = (h.0, bound_named cells functions ns vs h.1)
