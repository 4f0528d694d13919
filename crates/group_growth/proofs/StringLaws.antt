-- The strings of a list, as they are found by hash, and how a list grows by names.
use Rattle.std.proofs.Common.{◌≡◌, ℕ, suc, ◌<◌, ◌≤◌, List, [], ◌∷◌, ◌++◌, length, Bool, true, false, cond, not, String, Global, string_bytes, refl, sym, ap, ◌∙◌, arith}
use Rattle.std.specs.Prelude.{◌||◌}
use Rattle.std.specs.List.{list_any}
use Rattle.std.specs.Str.{bytes_eq}
use Rattle.std.specs.String.{string_eq}
use Rattle.std.proofs.lemmas.List.Folds.{list_any-append}
use Rattle.site_base.specs.Data as tree
use Rattle.site_base.specs.Data.{Items, no_items}
use Rattle.site_base.specs.View.{items_view}
use Rattle.site_base.specs.declared.tree.Tree.{Tree}
use Rattle.site_model.specs.Names as names
use Rattle.commit_meaning.specs.Groups.{has_string, is_string, with_last}
use Rattle.group_growth.specs.Adding.{any_missing, with_name, with_names}
use Rattle.group_growth.specs.Strings.{HasStrings, texts_in}
use Rattle.group_growth.proofs.GroupLaws.{none_missing}
use Rattle.group_growth.proofs.Keys.{own, same}

-- ---- tests

or_true : (b : Bool) → (b || true) ≡ true
or_true true = refl
or_true false = refl

or_false : (b : Bool) → (b || false) ≡ b
or_false true = refl
or_false false = refl

either_way : (a b : List ℕ) → bytes_eq a b ≡ bytes_eq b a
either_way a b = by (bytes_eq a b) (bytes_eq b a) refl refl
  where
    by : (p q : Bool) → bytes_eq a b ≡ p → bytes_eq b a ≡ q → p ≡ q
    by true true e f = refl
    by true false e f = let bad : true ≡ false = sym (ap (bytes_eq b) (same a b e) ∙ own b) ∙ f in absurd cc
    by false true e f = let bad : true ≡ false = sym (ap (bytes_eq a) (same b a f) ∙ own a) ∙ e in absurd cc
    by false false e f = refl

-- ---- strings and their bytes

any_bytes : (p : List ℕ → Bool) (ks : List (String Global)) → list_any (λ k. p (string_bytes k)) ks ≡ list_any p (texts_in ks)
any_bytes p [] = refl
any_bytes p (k ∷ ks) = ap (λ b. p (string_bytes k) || b) (any_bytes p ks)

pub any_text : (n : List ℕ) (key : String Global) (ks : List (String Global)) → string_bytes key ≡ n → list_any (string_eq key) ks ≡ list_any (bytes_eq n) (texts_in ks)
any_text n key ks e = any_bytes (bytes_eq (string_bytes key)) ks ∙ ap (λ t. list_any (bytes_eq t) (texts_in ks)) e

-- ---- strings with one more

-- a text that is there already
there : (n t : List ℕ) (ts : List (List ℕ)) → list_any (bytes_eq t) ts ≡ true → (b : Bool) → bytes_eq t n ≡ b → list_any (bytes_eq n) ts ≡ (list_any (bytes_eq n) ts || b)
there n t ts h true e =
    let found : list_any (bytes_eq n) ts ≡ true = ap (λ x. list_any (bytes_eq x) ts) (sym (same t n e)) ∙ h in
    found ∙ sym (or_true (list_any (bytes_eq n) ts))
there n t ts h false e = sym (or_false (list_any (bytes_eq n) ts))

pub one_string : (n t : List ℕ) (ts : List (List ℕ)) → list_any (bytes_eq n) (names.with_name t ts) ≡ (list_any (bytes_eq n) ts || bytes_eq t n)
one_string n t ts = by (list_any (bytes_eq t) ts) refl
  where
    by : (b : Bool) → list_any (bytes_eq t) ts ≡ b → list_any (bytes_eq n) (cond b ts (ts ++ t ∷ [])) ≡ (list_any (bytes_eq n) ts || bytes_eq t n)
    by true e = there n t ts e (bytes_eq t n) refl
    by false e = list_any-append (bytes_eq n) ts (t ∷ []) ∙ ap (λ b. list_any (bytes_eq n) ts || b) (or_false (bytes_eq n t) ∙ either_way n t)

-- a list with one more
pub last_string : (n m : List ℕ) (ds : Items) → has_string n (with_last m ds) ≡ (has_string n ds || bytes_eq m n)
last_string n m no_items = alone (bytes_eq m n)
  where
    alone : (b : Bool) → cond b true false ≡ b
    alone true = refl
    alone false = refl
last_string n m (tree.item d ds) = by (is_string n d) (last_string n m ds)
  where
    by : (b : Bool) → has_string n (with_last m ds) ≡ (has_string n ds || bytes_eq m n) → cond b true (has_string n (with_last m ds)) ≡ (cond b true (has_string n ds) || bytes_eq m n)
    by true h = refl
    by false h = h

-- ---- a name that is added where it is new

module _ (name : List ℕ) (ts : List (List ℕ)) (ds es : Items) (b : Bool) (known : HasStrings ts ds) (new : b ≡ not (list_any (bytes_eq name) ts)) (grown : es ≡ cond b (with_last name ds) ds) where
  turned : (x : Bool) → cond (not x) (with_last name ds) ds ≡ cond x ds (with_last name ds)
  turned true = refl
  turned false = refl

  pub name_added : es ≡ with_name name ds
  name_added =
      grown
      ∙ (ap (λ c. cond c (with_last name ds) ds) new
      ∙ (turned (list_any (bytes_eq name) ts)
      ∙ ap (λ x. cond x ds (with_last name ds)) (known name)))

  pub still_known : (us : List (List ℕ)) → ((n : List ℕ) → list_any (bytes_eq n) us ≡ (list_any (bytes_eq n) ts || bytes_eq name n)) → HasStrings us es
  still_known us more = λ n. by n (list_any (bytes_eq name) ts) refl
    where
      by : (n : List ℕ) (x : Bool) → list_any (bytes_eq name) ts ≡ x → list_any (bytes_eq n) us ≡ has_string n es
      by n true e =
          let old : es ≡ ds = grown ∙ ap (λ c. cond c (with_last name ds) ds) (new ∙ ap not e) in
          more n ∙ (sym (there n name ts e (bytes_eq name n) refl) ∙ (known n ∙ ap (has_string n) (sym old)))
      by n false e =
          let last : es ≡ with_last name ds = grown ∙ ap (λ c. cond c (with_last name ds) ds) (new ∙ ap not e) in
          more n ∙ (ap (λ x. x || bytes_eq name n) (known n) ∙ (sym (last_string n name ds) ∙ ap (has_string n) (sym last)))

-- ---- how many there are

abbrev count : Items → ℕ
count no_items = 0
count (tree.item d ds) = suc (count ds)

counted : (xs : List Tree) → count (items_view xs) ≡ length xs
counted [] = refl
counted (x ∷ xs) = ap suc (counted xs)

one_more : (n : List ℕ) (ds : Items) → count (with_last n ds) ≡ suc (count ds)
one_more n no_items = refl
one_more n (tree.item d ds) = ap suc (one_more n ds)

not_fewer : (ns : List (List ℕ)) (ds : Items) → count ds ≤ count (with_names ns ds)
not_fewer [] ds = omega arith
not_fewer (n ∷ ns) ds = by (has_string n ds) (not_fewer ns ds) (not_fewer ns (with_last n ds))
  where
    by : (b : Bool) → count ds ≤ count (with_names ns ds) → count (with_last n ds) ≤ count (with_names ns (with_last n ds)) → count ds ≤ count (with_names ns (cond b ds (with_last n ds)))
    by true h k = h
    by false h k = omega (arith, one_more n ds, k)

more_then : (ns : List (List ℕ)) (ds : Items) → any_missing ns ds ≡ true → count ds < count (with_names ns ds)
more_then [] ds e = absurd cc
more_then (n ∷ ns) ds e = by (has_string n ds) (more_then ns ds) e
  where
    by : (b : Bool) → (any_missing ns ds ≡ true → count ds < count (with_names ns ds)) → cond b (any_missing ns ds) true ≡ true → count ds < count (with_names ns (cond b ds (with_last n ds)))
    by true rest h = rest h
    by false rest h = omega (arith, one_more n ds, not_fewer ns (with_last n ds))

-- a list that has grown by names lacked some of them
module _ (ns : List (List ℕ)) (was now : List Tree) (grown : items_view now ≡ with_names ns (items_view was)) where
  pub some_missing : length was < length now → any_missing ns (items_view was) ≡ true
  some_missing more = by (any_missing ns (items_view was)) refl
    where
      by : (b : Bool) → any_missing ns (items_view was) ≡ b → b ≡ true
      by true e = refl
      by false e = absurd (omega (arith, counted was, counted now, ap count (grown ∙ none_missing ns (items_view was) e), more))

  pub nothing_missing : length now ≤ length was → any_missing ns (items_view was) ≡ false
  nothing_missing few = by (any_missing ns (items_view was)) refl
    where
      by : (b : Bool) → any_missing ns (items_view was) ≡ b → b ≡ false
      by true e = absurd (omega (arith, counted was, counted now, ap count grown, more_then ns (items_view was) e, few))
      by false e = refl
