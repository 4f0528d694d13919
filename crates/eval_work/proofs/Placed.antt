-- What one more place changes.
use Rattle.std.proofs.Common.{◌≡◌, ℕ, Bool, true, false, cond, List, [], ◌∷◌, ◌++◌, Option, Some, None, refl, sym, ap, ◌∙◌, String, Global, string_bytes}
use Rattle.std.specs.Prelude.{◌&&◌, Vec, Result, Ok, Err, OnOk, OnErr}
use Rattle.std.specs.Map.{lookup, set_value}
use Rattle.std.specs.Str.{bytes_eq}
use Rattle.std.specs.String.{string_eq}
use Rattle.std.proofs.lemmas.Bool.Decides.{not_from_Decides}
use Rattle.std.proofs.lemmas.Slice.Eq.{bytes_eq-Decides}
use Rattle.indexmap.specs.IndexMap.{insert_entry}
use Rattle.eval_work.specs.Placing.{first_of, place_in, place_listed, placed, placed_in}

abbrev pub Entries : Type 0 → Type 0
Entries X = List (String Global × X)

-- what stands under a name
abbrev pub under : {X : Type 0} → List ℕ → Entries X → Option X
under n es = lookup (λ k. bytes_eq n (string_bytes k)) es

-- ---- lists of entries

merged : {X : Type 0} (b : Bool) (v x l : X) → cond b v l ≡ cond b v (cond b x l)
merged true v x l = refl
merged false v x l = refl

swapped : {X : Type 0} (b c : Bool) (x v l : X) → (b ≡ true → c ≡ true → ⊥) → cond b x (cond c v l) ≡ cond c v (cond b x l)
swapped true true x v l h = absurd (h refl refl)
swapped true false x v l h = refl
swapped false true x v l h = refl
swapped false false x v l h = refl

same : (a b : List ℕ) → bytes_eq a b ≡ true → a ≡ b
same a b h = (bytes_eq-Decides a b).0 h

apart : (k e n : List ℕ) → bytes_eq k e ≡ false → bytes_eq n e ≡ true → bytes_eq n k ≡ true → ⊥
apart k e n h p q = not_from_Decides (bytes_eq k e) (bytes_eq-Decides k e) h (sym (same n k q) ∙ same n e p)

pub inserted : {X : Type 0} (n : List ℕ) (key : String Global) (v : X) (es : Entries X) → under n (insert_entry string_eq es key v) ≡ cond (bytes_eq n (string_bytes key)) (Some v) (under n es)
inserted n key v [] = refl
inserted {X} n key v (e ∷ es) = by (inserted n key v es) (string_eq key e.0) refl
  where
    by : under n (insert_entry string_eq es key v) ≡ cond (bytes_eq n (string_bytes key)) (Some v) (under n es) → (b : Bool) → string_eq key e.0 ≡ b → under n (cond b ((e.0, v) ∷ es) (e ∷ insert_entry string_eq es key v)) ≡ cond (bytes_eq n (string_bytes key)) (Some v) (under n (e ∷ es))
    by rest true h =
        ap (λ m. cond (bytes_eq n m) (Some v) (under n es)) (sym (same (string_bytes key) (string_bytes e.0) h))
        ∙ merged (bytes_eq n (string_bytes key)) (Some v) (Some e.1) (under n es)
        ∙ ap (λ m. cond (bytes_eq n (string_bytes key)) (Some v) (cond (bytes_eq n m) (Some e.1) (under n es))) (same (string_bytes key) (string_bytes e.0) h)
    by rest false h =
        ap (λ o. cond (bytes_eq n (string_bytes e.0)) (Some e.1) o) rest
        ∙ swapped (bytes_eq n (string_bytes e.0)) (bytes_eq n (string_bytes key)) (Some e.1) (Some v) (under n es) (apart (string_bytes key) (string_bytes e.0) n h)

-- what is written where something stands
pub written : {X : Type 0} (n name : List ℕ) (w was : X) (es : Entries X) → under name es ≡ Some was → under n (set_value (λ k. bytes_eq name (string_bytes k)) es w) ≡ cond (bytes_eq n name) (Some w) (under n es)
written n name w was [] h = absurd cc
written {X} n name w was (e ∷ es) there = by (written n name w was es) (bytes_eq name (string_bytes e.0)) refl there
  where
    by : (under name es ≡ Some was → under n (set_value (λ k. bytes_eq name (string_bytes k)) es w) ≡ cond (bytes_eq n name) (Some w) (under n es)) → (b : Bool) → bytes_eq name (string_bytes e.0) ≡ b → cond b (Some e.1) (under name es) ≡ Some was
        → under n (cond b ((e.0, w) ∷ es) (e ∷ set_value (λ k. bytes_eq name (string_bytes k)) es w)) ≡ cond (bytes_eq n name) (Some w) (under n (e ∷ es))
    by rest true h t =
        ap (λ m. cond (bytes_eq n m) (Some w) (under n es)) (sym (same name (string_bytes e.0) h))
        ∙ merged (bytes_eq n name) (Some w) (Some e.1) (under n es)
        ∙ ap (λ m. cond (bytes_eq n name) (Some w) (cond (bytes_eq n m) (Some e.1) (under n es))) (same name (string_bytes e.0) h)
    by rest false h t =
        ap (λ o. cond (bytes_eq n (string_bytes e.0)) (Some e.1) o) (rest t)
        ∙ swapped (bytes_eq n (string_bytes e.0)) (bytes_eq n name) (Some e.1) (Some w) (under n es) (apart name (string_bytes e.0) n h)

-- ---- places

both : {X : Type 0} (b : Bool) (x y : X) → cond b x y ≡ cond (b && true) x y
both true x y = refl
both false x y = refl

neither : {X : Type 0} (b : Bool) (x y : X) → y ≡ cond (b && false) x y
neither true x y = refl
neither false x y = refl

-- a name has another list, in which one type may have a place that it hadn't
pub one_place_more : (k n kind name : List ℕ) (place : ℕ) (old new : Entries (Vec (List ℕ × ℕ) Global)) (list : Vec (List ℕ × ℕ) Global)
    → place_listed k (Some list) ≡ placed_in k kind place (place_listed k (under name old))
    → under n new ≡ cond (bytes_eq n name) (Some list) (under n old)
    → place_listed k (under n new) ≡ placed k n kind name place (place_listed k (under n old))
one_place_more k n kind name place old new list grown changed = ap (place_listed k) changed ∙ by (bytes_eq n name) refl
  where
    found : Option ℕ
    found = place_listed k (under n old)

    by : (b : Bool) → bytes_eq n name ≡ b → place_listed k (cond b (Some list) (under n old)) ≡ cond (bytes_eq k kind && b) (first_of found place) found
    by true h = grown ∙ ap (λ m. placed_in k kind place (place_listed k (under m old))) (sym (same n name h)) ∙ both (bytes_eq k kind) (first_of found place) found
    by false h = neither (bytes_eq k kind) (first_of found place) found

-- a name has another list, in which each type has the place that it had
pub no_place_more : (k n name : List ℕ) (old new : Entries (Vec (List ℕ × ℕ) Global)) (list : Vec (List ℕ × ℕ) Global)
    → place_listed k (Some list) ≡ place_listed k (under name old)
    → under n new ≡ cond (bytes_eq n name) (Some list) (under n old)
    → place_listed k (under n new) ≡ place_listed k (under n old)
no_place_more k n name old new list kept changed = ap (place_listed k) changed ∙ by (bytes_eq n name) refl
  where
    by : (b : Bool) → bytes_eq n name ≡ b → place_listed k (cond b (Some list) (under n old)) ≡ place_listed k (under n old)
    by true h = kept ∙ ap (λ m. place_listed k (under m old)) (sym (same n name h))
    by false h = refl

-- a place that is added at the end of a list
pub added_last : (k kind : List ℕ) (place : ℕ) (es : List (List ℕ × ℕ)) → place_in k (es ++ (kind, place) ∷ []) ≡ placed_in k kind place (place_in k es)
added_last k kind place [] = refl
added_last k kind place (e ∷ es) = by (added_last k kind place es) (bytes_eq k e.0)
  where
    older : (b : Bool) → Some e.1 ≡ cond b (Some e.1) (Some e.1)
    older true = refl
    older false = refl

    by : place_in k (es ++ (kind, place) ∷ []) ≡ placed_in k kind place (place_in k es) → (b : Bool)
        → cond b (Some e.1) (place_in k (es ++ (kind, place) ∷ [])) ≡ placed_in k kind place (cond b (Some e.1) (place_in k es))
    by rest true = older (bytes_eq k kind)
    by rest false = rest

-- ---- what holds of a result

pub then_ok : {A E P Q : Type 0} (r : Result A E) → (P → Q) → OnOk r P → OnOk r Q
then_ok (Ok a) f h = f h
then_ok (Err e) f h = tt

pub then_err : {A E P Q : Type 0} (r : Result A E) → (P → Q) → OnErr r P → OnErr r Q
then_err (Ok a) f h = tt
then_err (Err e) f h = f h
