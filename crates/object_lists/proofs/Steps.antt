-- One step of a loop over a list: what stands so far, followed by what the rest gives, is all.
use Rattle.std.proofs.Common.{◌≡◌, ℕ, ◌+◌, ◌<◌, ◌≤◌, List, ◌∷◌, ◌++◌, length, map, drop, get_or, Option, Some, None, refl, sym, ap, ◌∙◌, append_assoc, append-nil}
use Rattle.std.specs.List.{cons_option, flat_map}
use Rattle.std.proofs.lemmas.List.{drop_all, drop_more}
use Rattle.site_base.specs.Data.{Data}
use Rattle.site_base.specs.View.{items_view, view}
use Rattle.site_base.specs.declared.tree.Tree.{Tree}
use Rattle.object_values.specs.Values.{string_of, texts_of}
use Rattle.object_lists.specs.Listed.{at_some}

-- what is left is the element at a place and the rest
pub next : {A : Type 0} (xs : List A) (i : ℕ) (x : A) → i < length xs → x ≡ get_or xs i x → drop i xs ≡ x ∷ drop (i + 1) xs
next xs i x inside same = drop_more xs i x inside ∙ ap (λ p. p ∷ drop (i + 1) xs) (sym same)

pub flat_step : {A B C : Type 0} (f : B → List C) (v : A → B) (xs : List A) (i : ℕ) (x : A) (was now all : List C) → i < length xs → x ≡ get_or xs i x
    → now ≡ was ++ f (v x) → was ++ flat_map f (map v (drop i xs)) ≡ all → now ++ flat_map f (map v (drop (i + 1) xs)) ≡ all
flat_step f v xs i x was now all inside same grown so_far =
    ap (λ ys. ys ++ flat_map f (map v (drop (i + 1) xs))) grown
    ∙ append_assoc was (f (v x)) (flat_map f (map v (drop (i + 1) xs)))
    ∙ sym (ap (λ ys. was ++ flat_map f (map v ys)) (next xs i x inside same))
    ∙ so_far

pub some_first : {C : Type 0} (f : List ℕ → List C) (n : Option (List ℕ)) (ns : List (List ℕ)) → flat_map f (cons_option n ns) ≡ at_some f n ++ flat_map f ns
some_first f None ns = refl
some_first f (Some n) ns = refl

-- the strings of what is left of an array
pub texts_next : (ts : List Tree) (i : ℕ) (t : Tree) → i < length ts → t ≡ get_or ts i t → texts_of (items_view (drop i ts)) ≡ cons_option (string_of (view t)) (texts_of (items_view (drop (i + 1) ts)))
texts_next ts i t inside same = ap (λ xs. texts_of (items_view xs)) (next ts i t inside same)

pub texts_step : {C : Type 0} (f : List ℕ → List C) (ts : List Tree) (i : ℕ) (t : Tree) (was now all : List C) → i < length ts → t ≡ get_or ts i t
    → now ≡ was ++ at_some f (string_of (view t)) → was ++ flat_map f (texts_of (items_view (drop i ts))) ≡ all → now ++ flat_map f (texts_of (items_view (drop (i + 1) ts))) ≡ all
texts_step f ts i t was now all inside same grown so_far =
    let rest = texts_of (items_view (drop (i + 1) ts)) in
    ap (λ ys. ys ++ flat_map f rest) grown
    ∙ append_assoc was (at_some f (string_of (view t))) (flat_map f rest)
    ∙ sym (ap (λ ys. was ++ ys) (ap (flat_map f) (texts_next ts i t inside same) ∙ some_first f (string_of (view t)) rest))
    ∙ so_far

-- at the end nothing is left
pub flat_end : {A B C : Type 0} (f : B → List C) (v : A → B) (xs : List A) (i : ℕ) (now all : List C) → length xs ≤ i → now ++ flat_map f (map v (drop i xs)) ≡ all → now ≡ all
flat_end f v xs i now all over so_far = sym (append-nil now) ∙ sym (ap (λ ys. now ++ flat_map f (map v ys)) (drop_all i xs over)) ∙ so_far
