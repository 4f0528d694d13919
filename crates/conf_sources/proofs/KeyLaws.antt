-- Files among the keys that they are kept under.
use Rattle.std.proofs.Common.{◌≡◌, ℕ, suc, ◌+◌, Bool, not, true, false, cond, ◌&&◌, ◌||◌, nat_lt, List, [], ◌∷◌, ◌++◌, length, map, position, Some, None, String, Global, refl, sym, ap, ap₂, ◌∙◌, arith}
use Rattle.std.specs.List.{list_any, prefix_len, position_or_len}
use Rattle.std.specs.Bool.{beq}
use Rattle.std.specs.String.{string_eq}
use Rattle.std.proofs.lemmas.List.{length-map, map-append}
use Rattle.std.proofs.lemmas.Bool.Decides.{nat_tests}
use Rattle.conf_sources.specs.Sources.{same_source, source_at}
use Rattle.conf_sources.specs.SourceKeys.{source_by, source_of}

abbrev pub Key : Type 0
Key = Bool × String Global

abbrev pub key_eq : Key → Key → Bool
key_eq k y = beq k.0 y.0 && string_eq k.1 y.1

same_by : (b c : Bool) (s t : String Global) → (beq b c && string_eq s t) ≡ same_source (source_by b s) (source_by c t)
same_by true true s t = refl
same_by true false s t = refl
same_by false true s t = refl
same_by false false s t = refl

same_key : (k y : Key) → key_eq k y ≡ same_source (source_of k) (source_of y)
same_key k y = same_by k.0 y.0 k.1 y.1

prefix_len-map : {X Y : Type 0} (f : X → Y) (p : Y → Bool) (xs : List X) → prefix_len p (map f xs) ≡ prefix_len (λ x. p (f x)) xs
prefix_len-map f p [] = refl
prefix_len-map f p (x ∷ xs) = ap (λ n. cond (p (f x)) (1 + n) 0) (prefix_len-map f p xs)

position-map : {X Y : Type 0} (f : X → Y) (p : Y → Bool) (xs : List X) → position p (map f xs) ≡ position (λ x. p (f x)) xs
position-map f p xs = ap₂ (λ n m. cond (nat_lt n m) (Some n) None) (prefix_len-map f (λ y. not (p y)) xs) (length-map xs f)

-- the place of a key is that of its file
pub key_place : (k : Key) (keys : List Key) → position (key_eq k) keys ≡ source_at (source_of k) (map source_of keys)
key_place k keys = (λ i. position (λ y. same_key k y i) keys) ∙ sym (position-map source_of (same_source (source_of k)) keys)

below_by : (n l : ℕ) → nat_lt (1 + n) (suc l) ≡ nat_lt n l
below_by n l = grind (arith, nat_tests)

any_by : (c b : Bool) (n l : ℕ) → b ≡ nat_lt n l → (c || b) ≡ nat_lt (cond (not c) (1 + n) 0) (suc l)
any_by true b n l e = let h : nat_lt 0 (suc l) ≡ true = grind (arith, nat_tests) in sym h
any_by false b n l e = e ∙ sym (below_by n l)

any_is : {X : Type 0} (p : X → Bool) (xs : List X) → list_any p xs ≡ nat_lt (position_or_len p xs) (length xs)
any_is p [] = refl
any_is p (x ∷ xs) = any_by (p x) (list_any p xs) (position_or_len p xs) (length xs) (any_is p xs)

absent_by : (b : Bool) (n : ℕ) → cond b (Some n) None ≡ None → b ≡ false
absent_by true n e = cc
absent_by false n e = refl

-- what has no place is among none
pub absent : {X : Type 0} (p : X → Bool) (xs : List X) → position p xs ≡ None → list_any p xs ≡ false
absent p xs e = any_is p xs ∙ absent_by (nat_lt (position_or_len p xs) (length xs)) (position_or_len p xs) e

-- a key whose file isn't there is added at the end
pub key_added : (k : Key) (keys next : List Key) → source_at (source_of k) (map source_of keys) ≡ None → next ≡ cond (list_any (key_eq k) keys) keys (keys ++ k ∷ []) → map source_of next ≡ map source_of keys ++ source_of k ∷ []
key_added k keys next none e =
    ap (map source_of) (e ∙ ap (λ b. cond b keys (keys ++ k ∷ [])) (absent (key_eq k) keys (key_place k keys ∙ none))) ∙ map-append source_of keys (k ∷ [])
