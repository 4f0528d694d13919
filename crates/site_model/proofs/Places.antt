-- Places of names among strings.
use Rattle.std.proofs.Common.{◌≡◌, ◌≢◌, ℕ, ◌+◌, ◌<◌, ◌≤◌, Bool, not, cond, List, [], ◌∷◌, length, map, position, Some, None, refl, ap, ap₂, ◌∙◌, ◌++◌, nat_lt, true, false, String, Global, string_bytes, sym, arith, get_or, AllPairs}
use Rattle.std.specs.Cmp.Lexicographic.{nat_list_eq_equiv}
use Rattle.std.specs.List.{IsDistinct, list_any, prefix_len, position_or_len}
use Rattle.std.proofs.lemmas.Bool.{ltb-true}
use Rattle.std.proofs.lemmas.Bool.Decides.{nat_tests, not_from_Decides}
use Rattle.std.proofs.lemmas.Grind.{common_steps}
use Rattle.std.proofs.lemmas.List.{length-map, map-append}
use Rattle.std.proofs.lemmas.List.Sums.{fails_before_first, passes_at_first}
use Rattle.std.proofs.lemmas.Map.Made.{AllPairs-from_IsDistinct}
use Rattle.std.proofs.lemmas.Option.{slice_get-get_or}
use Rattle.std.proofs.lemmas.Slice.Eq.{bytes_eq-Decides}
use Rattle.std.specs.Str.{bytes_eq}
use Rattle.std.specs.String.{string_eq, string_eq_equiv}
use Rattle.site_model.specs.Names.{IsPlaceOf, place_of, with_name}

prefix_len-map : {X Y : Type 0} (f : X → Y) (p : Y → Bool) (xs : List X) → prefix_len p (map f xs) ≡ prefix_len (λ x. p (f x)) xs
prefix_len-map f p [] = refl
prefix_len-map f p (x ∷ xs) = ap (λ n. cond (p (f x)) (1 + n) 0) (prefix_len-map f p xs)

pub position-map : {X Y : Type 0} (f : X → Y) (p : Y → Bool) (xs : List X) → position p (map f xs) ≡ position (λ x. p (f x)) xs
position-map f p xs = ap₂ (λ n m. cond (nat_lt n m) (Some n) None) (prefix_len-map f (λ y. not (p y)) xs) (length-map xs f)

list_any-map : {X Y : Type 0} (f : X → Y) (p : Y → Bool) (xs : List X) → list_any p (map f xs) ≡ list_any (λ x. p (f x)) xs
list_any-map f p [] = refl
list_any-map f p (x ∷ xs) = rw (list_any-map f p xs)

cond-map : {X Y : Type 0} (f : X → Y) (b : Bool) (xs : List X) (x : X) → map f (cond b xs (xs ++ x ∷ [])) ≡ cond b (map f xs) (map f xs ++ f x ∷ [])
cond-map f true xs x = refl
cond-map f false xs x = map-append f xs (x ∷ [])

-- the names after one is added
pub keys_with : (name : String Global) (keys : List (String Global)) → map string_bytes (cond (list_any (string_eq name) keys) keys (keys ++ name ∷ [])) ≡ with_name (string_bytes name) (map string_bytes keys)
keys_with name keys =
    let ns = map string_bytes keys in
    cond-map string_bytes (list_any (string_eq name) keys) keys name
    ∙ ap (λ b. cond b ns (ns ++ string_bytes name ∷ [])) (sym (list_any-map string_bytes (bytes_eq (string_bytes name)) keys))

placed : {X : Type 0} (p : X → Bool) (keys : List X) (x : X) → p x ≡ true → position p (cond (list_any p keys) keys (keys ++ x ∷ [])) ≡ Some (position_or_len p keys)
placed p [] x e = rw e refl
placed p (k ∷ keys) x e = grind (arith, common_steps, placed p keys x e)

-- its place is then where it was, or the last
pub placed_name : (name : String Global) (keys : List (String Global)) → position (string_eq name) (cond (list_any (string_eq name) keys) keys (keys ++ name ∷ [])) ≡ Some (position_or_len (string_eq name) keys)
placed_name name keys = placed (string_eq name) keys name (string_eq_equiv.refl name)

-- the same of names: where one stands once it is there
pub place_kept : (name : List ℕ) (ns : List (List ℕ)) → place_of name (with_name name ns) ≡ Some (position_or_len (bytes_eq name) ns)
place_kept name ns = placed (bytes_eq name) ns name (nat_list_eq_equiv.refl name)

at_place : (name : List ℕ) (ns : List (List ℕ)) (b : Bool) → nat_lt (position_or_len (bytes_eq name) ns) (length ns) ≡ b → IsPlaceOf name ns (cond b (Some (position_or_len (bytes_eq name) ns)) None)
at_place name ns true e =
    let at = position_or_len (bytes_eq name) ns in
    let inside : at < length ns = ltb-true at (length ns) e in
    let hit : bytes_eq name (get_or ns at name) ≡ true = passes_at_first (bytes_eq name) ns name inside in
    slice_get-get_or ns at name inside ∙ ap Some (sym ((bytes_eq-Decides name (get_or ns at name)).0 hit))
at_place name ns false e = λ h.
    let at = position_or_len (bytes_eq name) ns in
    let past : length ns ≤ at = grind (arith, nat_tests) in
    let before : h.0 < at = omega (arith, h.1) in
    let miss : bytes_eq name (get_or ns h.0 name) ≡ false = fails_before_first (bytes_eq name) ns h.0 name before in
    not_from_Decides (bytes_eq name (get_or ns h.0 name)) (bytes_eq-Decides name (get_or ns h.0 name)) miss (sym h.2)

-- the name stands at its place, and without a place nowhere
pub place_is : (name : List ℕ) (ns : List (List ℕ)) → IsPlaceOf name ns (place_of name ns)
place_is name ns = at_place name ns (nat_lt (position_or_len (bytes_eq name) ns) (length ns)) refl

-- names of which no two are equal are distinct
pub distinct_names : (ns : List (List ℕ)) → IsDistinct bytes_eq ns → AllPairs (λ x y. x ≢ y) ns
distinct_names ns h = AllPairs-from_IsDistinct {eq = bytes_eq} bytes_eq-Decides ns h
