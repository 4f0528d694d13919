-- Numbers that are added where they are new.
use Rattle.std.proofs.Common.{◌≡◌, ◌≢◌, ℕ, zero, suc, ◌+◌, ◌<◌, ◌||◌, Bool, true, false, cond, List, [], ◌∷◌, ◌++◌, length, drop, get_or, nat_eq, All, AllPairs, Option, refl, sym, ap, ◌∙◌, arith, eqb-true, eq-eqb}
use Rattle.std.specs.List.{flat_map, list_any}
use Rattle.std.proofs.lemmas.List.Elements.{All-push}
use Rattle.std.proofs.lemmas.List.Quantifiers.{all_pairs_push}
use Rattle.site_model.specs.Sound.{AreDistinct}
use Rattle.site_base.specs.View.{items_view, view}
use Rattle.site_base.specs.declared.tree.Tree.{Tree}
use Rattle.object_values.specs.Values.{string_of, texts_of}
use Rattle.object_lists.specs.Listed.{at_some}
use Rattle.object_lists.specs.Receivers.{with_new}
use Rattle.object_lists.proofs.Steps.{next, some_first, texts_next}

pub new_append : (ks xs ys : List ℕ) → with_new ks (xs ++ ys) ≡ with_new (with_new ks xs) ys
new_append ks [] ys = refl
new_append ks (x ∷ xs) ys = new_append (cond (list_any (nat_eq x) ks) ks (ks ++ x ∷ [])) xs ys

-- a step over numbers
pub number_step : (ns : List ℕ) (i n : ℕ) (was now all : List ℕ) → i < length ns → n ≡ get_or ns i n → now ≡ with_new was (n ∷ [])
    → with_new was (drop i ns) ≡ all → with_new now (drop (i + 1) ns) ≡ all
number_step ns i n was now all inside same grown so_far =
    ap (λ ks. with_new ks (drop (i + 1) ns)) grown ∙ sym (new_append was (n ∷ []) (drop (i + 1) ns)) ∙ sym (ap (with_new was) (next ns i n inside same)) ∙ so_far

-- a step over the strings of an array
pub text_step : (f : List ℕ → List ℕ) (ts : List Tree) (i : ℕ) (t : Tree) (was now all : List ℕ) → i < length ts → t ≡ get_or ts i t → now ≡ with_new was (at_some f (string_of (view t)))
    → with_new was (flat_map f (texts_of (items_view (drop i ts)))) ≡ all → with_new now (flat_map f (texts_of (items_view (drop (i + 1) ts)))) ≡ all
text_step f ts i t was now all inside same grown so_far =
    let rest = flat_map f (texts_of (items_view (drop (i + 1) ts))) in
    ap (λ ks. with_new ks rest) grown
    ∙ sym (new_append was (at_some f (string_of (view t))) rest)
    ∙ sym (ap (with_new was) (ap (flat_map f) (texts_next ts i t inside same) ∙ some_first f (string_of (view t)) (texts_of (items_view (drop (i + 1) ts)))))
    ∙ so_far

-- What is added so is each once, and of the given.

no_items : {A : Type 0} (P : A → Type 0) → All P []
no_items P k d h = absurd (omega arith)

eq_self : (x : ℕ) → nat_eq x x ≡ true
eq_self x = eq-eqb x x refl

lacks : (n : ℕ) (ks : List ℕ) → list_any (nat_eq n) ks ≡ false → (k d : ℕ) → k < length ks → get_or ks k d ≢ n
lacks n [] h k d inside = absurd (omega arith)
lacks n (m ∷ ks) h k d inside = by (λ none j low. lacks n ks none j d low) (nat_eq n m) refl h
  where
    deep : (list_any (nat_eq n) ks ≡ false → (j : ℕ) → j < length ks → get_or ks j d ≢ n) → list_any (nat_eq n) ks ≡ false → (j : ℕ) → j < length (m ∷ ks) → nat_eq n m ≡ false → get_or (m ∷ ks) j d ≢ n
    deep rest none zero low other e = let same : nat_eq n m ≡ true = ap (λ x. nat_eq x m) (sym e) ∙ eq_self m in absurd (cc)
    deep rest none (suc j) low other e = rest none j (omega arith) e

    by : (list_any (nat_eq n) ks ≡ false → (j : ℕ) → j < length ks → get_or ks j d ≢ n) → (b : Bool) → nat_eq n m ≡ b → (b || list_any (nat_eq n) ks) ≡ false → get_or (m ∷ ks) k d ≢ n
    by rest true is none = absurd (cc)
    by rest false is none = deep rest none k inside is

abbrev grow : List ℕ → ℕ → List ℕ
grow ks n = cond (list_any (nat_eq n) ks) ks (ks ++ n ∷ [])

grow_all : (P : ℕ → Type 0) (ks : List ℕ) (n : ℕ) → All P ks → P n → All P (grow ks n)
grow_all P ks n all here = by (list_any (nat_eq n) ks)
  where
    by : (b : Bool) → All P (cond b ks (ks ++ n ∷ []))
    by true = all
    by false = All-push P ks n all here

grow_once : (ks : List ℕ) (n : ℕ) → AreDistinct ks → AreDistinct (grow ks n)
grow_once ks n once = by (list_any (nat_eq n) ks) refl
  where
    by : (b : Bool) → list_any (nat_eq n) ks ≡ b → AreDistinct (cond b ks (ks ++ n ∷ []))
    by true e = once
    by false e = all_pairs_push (λ x y. x ≢ y) ks n once (λ k d low. lacks n ks e k d low)

pub new_all : (P : ℕ → Type 0) (ks ns : List ℕ) → All P ks → All P ns → All P (with_new ks ns)
new_all P ks [] all more = all
new_all P ks (n ∷ ns) all more = new_all P (grow ks n) ns (grow_all P ks n all (more 0 n (omega arith))) (λ k d low. more (suc k) d (omega arith))

stay_once : (ks ns : List ℕ) → AreDistinct ks → AreDistinct (with_new ks ns)
stay_once ks [] once = once
stay_once ks (n ∷ ns) once = stay_once (grow ks n) ns (grow_once ks n once)

no_pairs : AreDistinct {X = ℕ} []
no_pairs i j d low high = absurd (omega arith)

pub new_once : (ns : List ℕ) → AreDistinct (with_new [] ns)
new_once ns = stay_once [] ns no_pairs
