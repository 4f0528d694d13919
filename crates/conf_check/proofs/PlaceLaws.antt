-- Places of names among names.
use Rattle.std.proofs.Common.{◌≡◌, ℕ, suc, ◌+◌, ◌<◌, ◌||◌, not, Bool, true, false, cond, List, [], ◌∷◌, ◌++◌, length, nat_lt, Option, Some, None, refl, sym, ap, ◌∙◌, arith}
use Rattle.std.specs.List.{list_any, position_or_len}
use Rattle.std.specs.Option.{option_map}
use Rattle.std.specs.Str.{bytes_eq}
use Rattle.std.proofs.lemmas.Bool.Decides.{nat_tests}
use Rattle.std.proofs.lemmas.Slice.Eq.{bytes_eq-Decides}
use Rattle.site_model.specs.Names.{place_of}

-- the place of a name that stands first, and else one behind its place in the rest
pub place_first : (n x : List ℕ) (names : List (List ℕ)) → place_of n (x ∷ names) ≡ cond (bytes_eq n x) (Some 0) (option_map suc (place_of n names))
place_first n x names = by (bytes_eq n x)
  where
    next : (k : ℕ) (b : Bool) → cond b (Some (1 + k)) None ≡ option_map suc (cond b (Some k) None)
    next k true = let e : 1 + k ≡ suc k = omega arith in ap Some e
    next k false = refl

    by : (b : Bool) → cond (nat_lt (cond (not b) (1 + position_or_len (bytes_eq n) names) 0) (length (x ∷ names))) (Some (cond (not b) (1 + position_or_len (bytes_eq n) names) 0)) None
        ≡ cond b (Some 0) (option_map suc (place_of n names))
    by true =
        let inside : nat_lt 0 (length (x ∷ names)) ≡ true = grind (arith, nat_tests) in
        ap (λ b. cond b (Some 0) None) inside
    by false =
        let k = position_or_len (bytes_eq n) names in
        let inside : nat_lt (1 + k) (length (x ∷ names)) ≡ nat_lt k (length names) = grind (arith, nat_tests) in
        ap (λ b. cond b (Some (1 + k)) None) inside ∙ next k (nat_lt k (length names))

-- a name that is new has the last place
pub place_new : (n : List ℕ) (names : List (List ℕ)) (k : ℕ) → list_any (bytes_eq n) names ≡ false → place_of n (names ++ n ∷ []) ≡ Some k → k ≡ length names
place_new n [] k new e = by (bytes_eq n n) ((bytes_eq-Decides n n).1 refl) (sym (place_first n n []) ∙ e)
  where
    by : (b : Bool) → b ≡ true → cond b (Some 0) (option_map suc (place_of n [])) ≡ Some k → k ≡ 0
    by true is e = cc
    by false is e = absurd (cc)
place_new n (x ∷ names) k new e = by (λ fresh j is. place_new n names j fresh is) (bytes_eq n x) new (sym (place_first n x (names ++ n ∷ [])) ∙ e)
  where
    deep : ((j : ℕ) → place_of n (names ++ n ∷ []) ≡ Some j → j ≡ length names) → (p : Option ℕ) → place_of n (names ++ n ∷ []) ≡ p → option_map suc p ≡ Some k → k ≡ length (x ∷ names)
    deep rest None is e = absurd (cc)
    deep rest (Some j) is e = let next : suc j ≡ k = cc in let last = rest j is in omega arith

    by : (list_any (bytes_eq n) names ≡ false → (j : ℕ) → place_of n (names ++ n ∷ []) ≡ Some j → j ≡ length names)
        → (b : Bool) → (b || list_any (bytes_eq n) names) ≡ false → cond b (Some 0) (option_map suc (place_of n (names ++ n ∷ []))) ≡ Some k → k ≡ length (x ∷ names)
    by rest true old e = absurd (cc)
    by rest false new e = deep (rest new) (place_of n (names ++ n ∷ [])) refl e

-- the place of a name is inside
pub place_below : (n : List ℕ) (names : List (List ℕ)) (k : ℕ) → place_of n names ≡ Some k → k < length names
place_below n [] k e = absurd (cc)
place_below n (x ∷ names) k e = by (λ j is. place_below n names j is) (bytes_eq n x) (sym (place_first n x names) ∙ e)
  where
    deep : ((j : ℕ) → place_of n names ≡ Some j → j < length names) → (p : Option ℕ) → place_of n names ≡ p → option_map suc p ≡ Some k → k < length (x ∷ names)
    deep rest None is e = absurd (cc)
    deep rest (Some j) is e = let next : suc j ≡ k = cc in let low = rest j is in omega arith

    by : ((j : ℕ) → place_of n names ≡ Some j → j < length names) → (b : Bool) → cond b (Some 0) (option_map suc (place_of n names)) ≡ Some k → k < length (x ∷ names)
    by rest true e = let first : 0 ≡ k = cc in omega arith
    by rest false e = deep rest (place_of n names) refl e
