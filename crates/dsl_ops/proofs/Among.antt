-- Values among which an equal one is looked for, one more of them.
use Rattle.std.proofs.Common.{◌≡◌, ℕ, zero, suc, ◌-◌, ◌<◌, ◌≤◌, take, ℤ, pos, Bool, true, false, cond, not, ◌||◌, ◌&&◌, ◌==◌, List, [], ◌∷◌, ◌++◌, length, refl, sym, ap, subst, ◌∙◌, arith}
use Rattle.std.specs.List.{AllByRecursion, filter, list_any}
use Rattle.std.specs.BTreeMap.{is_at}
use Rattle.std.specs.BTreeSet.{BTreeSet, contains, Updates}
use Rattle.std.specs.Ordering.{int_cmp, int_eq, nat_cmp, is_eq}
use Rattle.std.specs.Str.{bytes_eq}
use Rattle.std.proofs.lemmas.Bool.Decides.{nat_tests}
use Rattle.std.proofs.lemmas.List.Folds.{list_any-append}
use Rattle.std.proofs.lemmas.Map.Text.{is_eq-slice_cmp}
use Rattle.dsl_value.specs.Contents.{PlainCell}
use Rattle.dsl_value.specs.Equality.{refs_equal, equal_within}
use Rattle.dsl_value.specs.Pairs.{key_cmp}
use Rattle.dsl_value.specs.Whole.{Names}
use Rattle.dsl_value.specs.declared.value.Value.{Value}
use Rattle.dsl_value.specs.declared.value.Value.TheVariants as value
use Rattle.dsl_value.proofs.Levels.{a_level}
use Rattle.dsl_ops.specs.Seen.{among, found_in, IsSeen, Adds}
use Rattle.dsl_ops.specs.Table.{same_in, without}
use Rattle.dsl_ops.specs.declared.seen.Seen.{Seen}

or_false : (a : Bool) → a ≡ (a || false)
or_false true = refl
or_false false = refl

or_true : (a : Bool) → true ≡ (a || true)
or_true true = refl
or_true false = refl

and_true : (a : Bool) → (a && true) ≡ a
and_true true = refl
and_true false = refl

-- what a set has once something is put in
one_in : (e a d : Bool) → (cond e true a || d) ≡ ((a || d) || e)
one_in true a d = or_true (a || d)
one_in false a d = or_false (a || d)

alone_in : (e a : Bool) → cond e true a ≡ (a || e)
alone_in true a = or_true a
alone_in false a = or_false a

first_in : (e a b d : Bool) → ((cond e true a || b) || d) ≡ (((a || b) || d) || e)
first_in true a b d = or_true ((a || b) || d)
first_in false a b d = or_false ((a || b) || d)

second_in : (e a b d : Bool) → ((a || cond e true b) || d) ≡ (((a || b) || d) || e)
second_in true true b d = refl
second_in true false b d = or_true (b || d)
second_in false a b d = or_false ((a || b) || d)

-- null is put in
null_in : (a b : Bool) → (a || true) ≡ ((a || b) || true)
null_in true b = refl
null_in false true = refl
null_in false false = refl

beside_null : (a e b : Bool) → (a || (e && true)) ≡ ((a || (e && b)) || e)
beside_null true e b = refl
beside_null false true true = refl
beside_null false true false = refl
beside_null false false b = refl

stand_more : (P : Value → Type 0) (xs : List Value) (x : Value) → AllByRecursion P xs → P x → AllByRecursion P (xs ++ x ∷ [])
stand_more P [] x h p = (p, tt)
stand_more P (y ∷ ys) x h p = (h.0, stand_more P ys x h.1 p)

module _ (content : List PlainCell) where
  -- one more at the end
  pub among_more : (vs : List Value) (x v : Value) → among content (vs ++ x ∷ []) v ≡ (among content vs v || equal_within 100 content x v)
  among_more vs x v = list_any-append (λ y. equal_within 100 content y v) vs (x ∷ []) ∙ ap (λ b. among content vs v || b) (sym (or_false (equal_within 100 content x v)))

  -- beside a scalar, one level is looked into
  level : (x v : Value) → equal_within 100 content x v ≡ refs_equal (equal_within (100 - 1) content) content x v
  level x v = a_level 100 content x v (omega arith)

  module _ (old new : Seen) (empty : old.empty ≡ []) where
    -- found as before, or equal to what was added
    abbrev Finds : Value → Value → Type 0
    Finds x v = found_in content new v ≡ (found_in content old v || refs_equal (equal_within (100 - 1) content) content x v)

    null_found : Adds old value.Null new → (v : Value) → Finds value.Null v
    null_found h value.Null = (λ i. (contains int_cmp (h.numbers i) (pos 0) || contains key_cmp (h.texts i) (h.empty i)) || h.null i) ∙ null_in _ old.has_null
    null_found h (value.Bool true) = h.truths.0 ∙ or_false _
    null_found h (value.Bool false) = h.truths.1 ∙ or_false _
    null_found h (value.Number n) = (λ i. contains int_cmp (h.numbers i) n || (int_eq n (pos 0) && h.null i)) ∙ beside_null _ (int_eq n (pos 0)) old.has_null
    null_found h (value.Str t) = (λ i. contains key_cmp (h.texts i) t || ((length t == 0) && h.null i)) ∙ beside_null _ (length t == 0) old.has_null
    null_found h (value.Func k) = (λ i. contains nat_cmp (h.functions i) k) ∙ or_false _
    null_found h (value.Ref k) = (λ i. among content (h.cells i) (value.Ref k)) ∙ or_false _

    true_found : Adds old (value.Bool true) new → (v : Value) → Finds (value.Bool true) v
    true_found h value.Null = (λ i. (contains int_cmp (h.numbers i) (pos 0) || contains key_cmp (h.texts i) (h.empty i)) || h.null i) ∙ or_false _
    true_found h (value.Bool true) = h.truths.0 ∙ or_true _
    true_found h (value.Bool false) = h.truths.1 ∙ or_false _
    true_found h (value.Number n) = (λ i. contains int_cmp (h.numbers i) n || (int_eq n (pos 0) && h.null i)) ∙ or_false _
    true_found h (value.Str t) = (λ i. contains key_cmp (h.texts i) t || ((length t == 0) && h.null i)) ∙ or_false _
    true_found h (value.Func k) = (λ i. contains nat_cmp (h.functions i) k) ∙ or_false _
    true_found h (value.Ref k) = (λ i. among content (h.cells i) (value.Ref k)) ∙ or_false _

    false_found : Adds old (value.Bool false) new → (v : Value) → Finds (value.Bool false) v
    false_found h value.Null = (λ i. (contains int_cmp (h.numbers i) (pos 0) || contains key_cmp (h.texts i) (h.empty i)) || h.null i) ∙ or_false _
    false_found h (value.Bool true) = h.truths.0 ∙ or_false _
    false_found h (value.Bool false) = h.truths.1 ∙ or_true _
    false_found h (value.Number n) = (λ i. contains int_cmp (h.numbers i) n || (int_eq n (pos 0) && h.null i)) ∙ or_false _
    false_found h (value.Str t) = (λ i. contains key_cmp (h.texts i) t || ((length t == 0) && h.null i)) ∙ or_false _
    false_found h (value.Func k) = (λ i. contains nat_cmp (h.functions i) k) ∙ or_false _
    false_found h (value.Ref k) = (λ i. among content (h.cells i) (value.Ref k)) ∙ or_false _

    number_found : (n : ℤ) → Adds old (value.Number n) new → (v : Value) → Finds (value.Number n) v
    number_found n h value.Null =
        (λ i. (h.numbers.0 (pos 0) i || contains key_cmp (h.texts i) (h.empty i)) || h.null i)
        ∙ first_in (int_eq n (pos 0)) (contains int_cmp old.numbers (pos 0)) (contains key_cmp old.texts old.empty) old.has_null
    number_found n h (value.Bool true) = h.truths.0 ∙ or_false _
    number_found n h (value.Bool false) = h.truths.1 ∙ or_false _
    number_found n h (value.Number m) =
        (λ i. h.numbers.0 m i || (int_eq m (pos 0) && h.null i)) ∙ one_in (int_eq n m) (contains int_cmp old.numbers m) (int_eq m (pos 0) && old.has_null)
    number_found n h (value.Str t) = (λ i. contains key_cmp (h.texts i) t || ((length t == 0) && h.null i)) ∙ or_false _
    number_found n h (value.Func k) = (λ i. contains nat_cmp (h.functions i) k) ∙ or_false _
    number_found n h (value.Ref k) = (λ i. among content (h.cells i) (value.Ref k)) ∙ or_false _

    is_empty : (t : List ℕ) → is_eq (key_cmp t old.empty) ≡ (length t == 0)
    is_empty t = ap (λ u. is_eq (key_cmp t u)) empty ∙ none t
      where
        none : (u : List ℕ) → is_eq (key_cmp u []) ≡ (length u == 0)
        none [] = refl
        none (b ∷ bs) = let no : (length (b ∷ bs) == 0) ≡ false = grind (arith, nat_tests) in sym no

    text_found : (t : List ℕ) → Adds old (value.Str t) new → (v : Value) → Finds (value.Str t) v
    text_found t h value.Null =
        (λ i. (contains int_cmp (h.numbers i) (pos 0) || contains key_cmp new.texts (h.empty i)) || h.null i)
        ∙ ap (λ b. (contains int_cmp old.numbers (pos 0) || b) || old.has_null) (h.texts.0 old.empty ∙ ap (λ e. cond e true (contains key_cmp old.texts old.empty)) (is_empty t))
        ∙ second_in (length t == 0) (contains int_cmp old.numbers (pos 0)) (contains key_cmp old.texts old.empty) old.has_null
    text_found t h (value.Bool true) = h.truths.0 ∙ or_false _
    text_found t h (value.Bool false) = h.truths.1 ∙ or_false _
    text_found t h (value.Number n) = (λ i. contains int_cmp (h.numbers i) n || (int_eq n (pos 0) && h.null i)) ∙ or_false _
    text_found t h (value.Str u) =
        (λ i. h.texts.0 u i || ((length u == 0) && h.null i))
        ∙ ap (λ e. cond e true (contains key_cmp old.texts u) || ((length u == 0) && old.has_null)) (is_eq-slice_cmp t u)
        ∙ one_in (bytes_eq t u) (contains key_cmp old.texts u) ((length u == 0) && old.has_null)
    text_found t h (value.Func k) = (λ i. contains nat_cmp (h.functions i) k) ∙ or_false _
    text_found t h (value.Ref k) = (λ i. among content (h.cells i) (value.Ref k)) ∙ or_false _

    same_number : (k j : ℕ) → is_eq (nat_cmp k j) ≡ (k == j)
    same_number k j = grind (arith, nat_tests)

    func_found : (k : ℕ) → Adds old (value.Func k) new → (v : Value) → Finds (value.Func k) v
    func_found k h value.Null = (λ i. (contains int_cmp (h.numbers i) (pos 0) || contains key_cmp (h.texts i) (h.empty i)) || h.null i) ∙ or_false _
    func_found k h (value.Bool true) = h.truths.0 ∙ or_false _
    func_found k h (value.Bool false) = h.truths.1 ∙ or_false _
    func_found k h (value.Number n) = (λ i. contains int_cmp (h.numbers i) n || (int_eq n (pos 0) && h.null i)) ∙ or_false _
    func_found k h (value.Str t) = (λ i. contains key_cmp (h.texts i) t || ((length t == 0) && h.null i)) ∙ or_false _
    func_found k h (value.Func j) =
        h.functions.0 j ∙ ap (λ e. cond e true (contains nat_cmp old.functions j)) (same_number k j) ∙ alone_in (k == j) (contains nat_cmp old.functions j)
    func_found k h (value.Ref j) = (λ i. among content (h.cells i) (value.Ref j)) ∙ or_false _

    cell_found : (k : ℕ) → Adds old (value.Ref k) new → (v : Value) → Finds (value.Ref k) v
    cell_found k h value.Null = (λ i. (contains int_cmp (h.numbers i) (pos 0) || contains key_cmp (h.texts i) (h.empty i)) || h.null i) ∙ or_false _
    cell_found k h (value.Bool true) = h.truths.0 ∙ or_false _
    cell_found k h (value.Bool false) = h.truths.1 ∙ or_false _
    cell_found k h (value.Number n) = (λ i. contains int_cmp (h.numbers i) n || (int_eq n (pos 0) && h.null i)) ∙ or_false _
    cell_found k h (value.Str t) = (λ i. contains key_cmp (h.texts i) t || ((length t == 0) && h.null i)) ∙ or_false _
    cell_found k h (value.Func j) = (λ i. contains nat_cmp (h.functions i) j) ∙ or_false _
    cell_found k h (value.Ref j) =
        ap (λ vs. among content vs (value.Ref j)) h.cells ∙ among_more old.cells (value.Ref k) (value.Ref j)
        ∙ ap (λ b. among content old.cells (value.Ref j) || b) (level (value.Ref k) (value.Ref j))

    found_as : (x : Value) → Adds old x new → (v : Value) → Finds x v
    found_as value.Null h v = null_found h v
    found_as (value.Bool true) h v = true_found h v
    found_as (value.Bool false) h v = false_found h v
    found_as (value.Number n) h v = number_found n h v
    found_as (value.Str t) h v = text_found t h v
    found_as (value.Func k) h v = func_found k h v
    found_as (value.Ref k) h v = cell_found k h v

    still_empty : (x : Value) → Adds old x new → new.empty ≡ []
    still_empty value.Null h = h.empty ∙ empty
    still_empty (value.Bool true) h = h.empty ∙ empty
    still_empty (value.Bool false) h = h.empty ∙ empty
    still_empty (value.Number n) h = h.empty ∙ empty
    still_empty (value.Str t) h = h.empty ∙ empty
    still_empty (value.Ref k) h = h.empty ∙ empty
    still_empty (value.Func k) h = h.empty ∙ empty

    cells_stand : (P : Value → Type 0) (x : Value) → Adds old x new → P x → AllByRecursion P old.cells → AllByRecursion P new.cells
    cells_stand P value.Null h p all = subst (AllByRecursion P) (sym h.cells) all
    cells_stand P (value.Bool true) h p all = subst (AllByRecursion P) (sym h.cells) all
    cells_stand P (value.Bool false) h p all = subst (AllByRecursion P) (sym h.cells) all
    cells_stand P (value.Number n) h p all = subst (AllByRecursion P) (sym h.cells) all
    cells_stand P (value.Str t) h p all = subst (AllByRecursion P) (sym h.cells) all
    cells_stand P (value.Func k) h p all = subst (AllByRecursion P) (sym h.cells) all
    cells_stand P (value.Ref k) h p all = subst (AllByRecursion P) (sym h.cells) (stand_more P old.cells (value.Ref k) all p)

-- one more value is seen
pub adds_seen : (cells functions : ℕ) (content : List PlainCell) (values : List Value) (old new : Seen) (x : Value) → IsSeen cells functions content values old → Names cells functions x → Adds old x new → IsSeen cells functions content (values ++ x ∷ []) new
adds_seen cells functions content values old new x seen named adds = record {
  found = λ v.
      found_as content old new seen.empty x adds v
      ∙ (λ i. seen.found v i || sym (level content x v) i)
      ∙ sym (among_more content values x v);
  cells = cells_stand content old new seen.empty (Names cells functions) x adds named seen.cells;
  empty = still_empty content old new seen.empty x adds;
}

pub none_seen : (cells functions : ℕ) (content : List PlainCell) (s : Seen) → s.has_null ≡ false → s.has_true ≡ false → s.has_false ≡ false → s.numbers.keys ≡ [] → s.texts.keys ≡ [] → s.functions.keys ≡ [] → s.cells ≡ [] → s.empty ≡ []
    → IsSeen cells functions content [] s
none_seen cells functions content s null truth falsehood numbers texts funcs refs empty = record {
  found = found;
  cells = subst (AllByRecursion (Names cells functions)) (sym refs) tt;
  empty = empty;
}
  where
    no_number : (n : ℤ) → contains int_cmp s.numbers n ≡ false
    no_number n = ap (list_any (is_at (int_cmp n))) numbers

    no_text : (t : List ℕ) → contains key_cmp s.texts t ≡ false
    no_text t = ap (list_any (is_at (key_cmp t))) texts

    no_func : (k : ℕ) → contains nat_cmp s.functions k ≡ false
    no_func k = ap (list_any (is_at (nat_cmp k))) funcs

    and_false : (a : Bool) → (a && false) ≡ false
    and_false true = refl
    and_false false = refl

    found : (v : Value) → found_in content s v ≡ among content [] v
    found value.Null = (λ i. (no_number (pos 0) i || no_text s.empty i) || null i)
    found (value.Bool true) = truth
    found (value.Bool false) = falsehood
    found (value.Number n) = (λ i. no_number n i || (int_eq n (pos 0) && null i)) ∙ and_false (int_eq n (pos 0))
    found (value.Str t) = (λ i. no_text t i || ((length t == 0) && null i)) ∙ and_false (length t == 0)
    found (value.Func k) = no_func k
    found (value.Ref k) = ap (λ vs. among content vs (value.Ref k)) refs

pub seen_found : (count functions : ℕ) (content : List PlainCell) (values : List Value) (s : Seen) (v : Value) → IsSeen count functions content values s → found_in content s v ≡ among content values v
seen_found count functions content values s v h = h.found v

pub seen_cells : (count functions : ℕ) (content : List PlainCell) (values : List Value) (s : Seen) → IsSeen count functions content values s → AllByRecursion (Names count functions) s.cells
seen_cells count functions content values s h = h.cells

pub take_past : (xs : List Value) (i : ℕ) → length xs ≤ i → take i xs ≡ xs
take_past [] zero h = refl
take_past [] (suc i) h = refl
take_past (x ∷ xs) zero h = absurd (omega (arith, h))
take_past (x ∷ xs) (suc i) h = ap (λ ys. x ∷ ys) (take_past xs i (omega (arith, h)))

-- those that weren't seen
filter_same : (f g : Value → Bool) → ((v : Value) → f v ≡ g v) → (vs : List Value) → filter f vs ≡ filter g vs
filter_same f g same [] = refl
filter_same f g same (v ∷ vs) = (λ i. cond (same v i) (v ∷ filter_same f g same vs i) (filter_same f g same vs i))

pub without_seen : (count functions : ℕ) (content : List PlainCell) (right : List Value) (s : Seen) → IsSeen count functions content right s → (left : List Value)
    → filter (λ v. not (found_in content s v)) left ≡ without (same_in content) right left
without_seen count functions content right s h left = filter_same (λ v. not (found_in content s v)) (λ v. not (among content right v)) (λ v. ap not (h.found v)) left
