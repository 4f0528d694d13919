-- What the keys of numbers, texts and trees tell.
use Rattle.std.proofs.Common.{◌≡◌, ℕ, ℤ, zero, suc, pos, negsuc, ◌/◌, ◌%◌, ◌<◌, Bool, true, false, cond, nat_lt, List, [], ◌∷◌, ◌++◌, length, Option, Some, None, refl, sym, ap, ◌∙◌, append_assoc, arith}
use Rattle.std.proofs.lemmas.Bool.Decides.{nat_tests}
use Rattle.site_base.specs.Data.{Data, null, boolean, number, string, list, dict, Items, no_items, item, Pairs, no_pairs, pair}
use Rattle.task_keys.specs.Keys.{low_bytes, number_key, whole_key, boolean_key, text_key, texts_key, maybe_text_key}
use Rattle.task_keys.specs.TreeKeys.{data_key, items_key, pairs_key}
use Rattle.task_keys.proofs.Telling.{Tells, first_of, rest_of, ap2, kind, alone, byte, apart, other, both, before, by, one, two, three}

-- ---- numbers

whole_again : (m n : ℕ) → m % 256 ≡ n % 256 → m / 256 ≡ n / 256 → m ≡ n
whole_again m n e h = omega arith

pub same_low : (c m n : ℕ) → Tells (low_bytes c m) (low_bytes c n) (m ≡ n)
same_low zero m n = byte m n
same_low (suc c) m n = by (both (byte (m % 256) (n % 256)) (same_low c (m / 256) (n / 256))) (λ p. whole_again m n p.0 p.1)

same_by : (a b : Bool) (m n : ℕ) → (a ≡ true → m < 255) → (b ≡ true → n < 255) → Tells (cond a (m ∷ []) (255 ∷ low_bytes 7 m)) (cond b (n ∷ []) (255 ∷ low_bytes 7 n)) (m ≡ n)
same_by true true m n f g = byte m n
same_by true false m n f g = apart m 255 (λ e. let few : m < 255 = f refl in omega arith)
same_by false true m n f g = apart 255 n (λ e. let few : n < 255 = g refl in omega arith)
same_by false false m n f g = kind 255 (same_low 7 m n)

below : (n : ℕ) → nat_lt n 255 ≡ true → n < 255
below n e = grind (arith, nat_tests)

pub same_number : (m n : ℕ) → Tells (number_key m) (number_key n) (m ≡ n)
same_number m n = same_by (nat_lt m 255) (nat_lt n 255) m n (below m) (below n)

pub same_whole : (m n : ℤ) → Tells (whole_key m) (whole_key n) (m ≡ n)
same_whole (pos m) (pos n) = kind 0 (one pos (same_number m n))
same_whole (negsuc m) (negsuc n) = kind 1 (one negsuc (same_number m n))
same_whole (pos m) (negsuc n) = other refl
same_whole (negsuc m) (pos n) = other refl

pub same_boolean : (a b : Bool) → Tells (boolean_key a) (boolean_key b) (a ≡ b)
same_boolean true true = alone 1 refl
same_boolean false false = alone 0 refl
same_boolean true false = other refl
same_boolean false true = other refl

-- ---- texts

-- two lists of one length, each with something after it
same_front : (t u r q : List ℕ) → length t ≡ length u → t ++ r ≡ u ++ q → (t ≡ u) × (r ≡ q)
same_front [] [] r q n e = (refl, e)
same_front [] (y ∷ u) r q n e = absurd (omega (arith, n))
same_front (x ∷ t) [] r q n e = absurd (omega (arith, n))
same_front (x ∷ t) (y ∷ u) r q n e =
    let rest = same_front t u r q (omega (arith, n)) (ap rest_of e) in
    (ap2 before (ap first_of e) rest.0, rest.1)

pub same_text : (t u : List ℕ) → Tells (text_key t) (text_key u) (t ≡ u)
same_text t u =
    let h : Tells (number_key (length t)) (number_key (length u)) (length t ≡ length u) = same_number (length t) (length u) in
    let on : (r q : List ℕ) → text_key t ++ r ≡ text_key u ++ q → number_key (length t) ++ (t ++ r) ≡ number_key (length u) ++ (u ++ q) = λ r q e. sym (append_assoc (number_key (length t)) t r) ∙ e ∙ append_assoc (number_key (length u)) u q in
    let front : (r q : List ℕ) → text_key t ++ r ≡ text_key u ++ q → (t ≡ u) × (r ≡ q) = λ r q e. same_front t u r q (h.fact (t ++ r) (u ++ q) (on r q e)) (h.rest (t ++ r) (u ++ q) (on r q e)) in
    record { fact = λ r q e. (front r q e).0; rest = λ r q e. (front r q e).1 }

pub same_texts : (ts us : List (List ℕ)) → Tells (texts_key ts) (texts_key us) (ts ≡ us)
same_texts [] [] = alone 0 refl
same_texts (t ∷ ts) (u ∷ us) = kind 1 (two before (same_text t u) (same_texts ts us))
same_texts [] (u ∷ us) = other refl
same_texts (t ∷ ts) [] = other refl

abbrev some : List ℕ → Option (List ℕ)
some t = Some t

pub same_maybe_text : (o p : Option (List ℕ)) → Tells (maybe_text_key o) (maybe_text_key p) (o ≡ p)
same_maybe_text None None = alone 0 refl
same_maybe_text (Some t) (Some u) = kind 1 (one some (same_text t u))
same_maybe_text None (Some u) = other refl
same_maybe_text (Some t) None = other refl

-- ---- trees

mutual
  pub same_data : (d e : Data) → Tells (data_key d) (data_key e) (d ≡ e)
  same_data null null = alone 0 refl
  same_data (boolean a) (boolean b) = kind 1 (one boolean (same_boolean a b))
  same_data (number m) (number n) = kind 2 (one number (same_whole m n))
  same_data (string t) (string u) = kind 3 (one string (same_text t u))
  same_data (list ds) (list es) = kind 4 (one list (same_items ds es))
  same_data (dict ps) (dict qs) = kind 5 (one dict (same_pairs ps qs))
  same_data d e = other refl

  pub same_items : (ds es : Items) → Tells (items_key ds) (items_key es) (ds ≡ es)
  same_items no_items no_items = alone 0 refl
  same_items (item d ds) (item e es) = kind 1 (two item (same_data d e) (same_items ds es))
  same_items ds es = other refl

  pub same_pairs : (ps qs : Pairs) → Tells (pairs_key ps) (pairs_key qs) (ps ≡ qs)
  same_pairs no_pairs no_pairs = alone 0 refl
  same_pairs (pair k d ps) (pair l e qs) = kind 1 (three pair (same_text k l) (same_data d e) (same_pairs ps qs))
  same_pairs ps qs = other refl
