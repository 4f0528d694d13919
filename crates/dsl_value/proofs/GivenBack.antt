-- A tree that is loaded is given back.
use Rattle.std.proofs.Common.{◌≡◌, ℕ, ◌+◌, ◌-◌, ◌<◌, ◌≤◌, ◌==◌, ◌||◌, Bool, false, cond, T, List, [], ◌∷◌, ◌++◌, length, Ok, refl, sym, ap, subst, ◌∙◌, arith, length-append}
use Rattle.std.specs.List.{AllByRecursion}
use Rattle.std.specs.Ordering.{is_lt}
use Rattle.std.specs.FinMap.Entries as entries
use Rattle.std.proofs.Math.Seq.{get_or-append_seam}
use Rattle.std.proofs.lemmas.List.{get_or_append_left, get_or-append-add}
use Rattle.std.proofs.lemmas.Bool.Decides.{nat_tests}
use Rattle.site_base.specs.Data.{Data, null, boolean, number, string, list, dict, Items, no_items, item, Pairs as TreePairs, no_pairs, pair}
use Rattle.site_base.specs.Lawful.{Leads, AreRising, IsLawful, AreLawful, HaveLawful}
use Rattle.site_base.specs.View.{items_of, pairs_of}
use Rattle.dsl_value.specs.Contents.{PlainCell, array, dict as pairs_cell, cell_at}
use Rattle.dsl_value.specs.Pairs.{key_cmp, dict_of, is_sorted}
use Rattle.dsl_value.specs.Loads.{load, load_items, load_pairs, cost, items_cost, pairs_cost, Fits, grown, given}
use Rattle.dsl_value.specs.Walks.{most, walked, stopped, ◌>>=◌, charged, values_walked, pairs_walked, cell_walked, is_open, walk, outcome, tree_walked}
use Rattle.dsl_value.specs.declared.value.Value.{Value}
use Rattle.dsl_value.specs.declared.value.Value.TheVariants as value
use Rattle.dsl_value.specs.declared.tree_fault.TreeFault.TheVariants.{Cyclic}
use Rattle.dsl_value.proofs.Kept.{all_more}
use Rattle.dsl_value.proofs.Named.{one_longer, load_stands}
use Rattle.dsl_value.specs.Whole.{Stands}
use Rattle.dsl_value.proofs.Rising.{both, dict_of_sorted}
use Rattle.dsl_value.proofs.Steps.{a_level, charged_within}

-- elements and pairs of a plain tree, as lists
abbrev datas : Items → List Data
datas no_items = []
datas (item d ds) = d ∷ datas ds

abbrev pair_datas : TreePairs → List (List ℕ × Data)
pair_datas no_pairs = []
pair_datas (pair k d ps) = (k, d) ∷ pair_datas ps

items_again : (ds : Items) → items_of (datas ds) ≡ ds
items_again no_items = refl
items_again (item d ds) = ap (item d) (items_again ds)

pairs_again : (ps : TreePairs) → pairs_of (pair_datas ps) ≡ ps
pairs_again no_pairs = refl
pairs_again (pair k d ps) = ap (pair k d) (pairs_again ps)

-- the keys of a lawful tree's dictionary rise in the cell too
before_all : (key : List ℕ) (ps : TreePairs) (n : ℕ) → Leads key ps → T (entries.below_all key_cmp key (load_pairs ps n).value)
before_all key no_pairs n h = tt
before_all key (pair k d ps) n h = both (is_lt (key_cmp key k)) _ (subst (λ o. T (is_lt o)) (sym h.0) tt) (before_all key ps (n + length (load d n).cells) h.1)

keys_rise : (ps : TreePairs) (n : ℕ) → AreRising ps → T (is_sorted (load_pairs ps n).value)
keys_rise no_pairs n h = tt
keys_rise (pair k d ps) n h =
    both (entries.below_all key_cmp k (load_pairs ps (n + length (load d n).cells)).value) _
    (before_all k ps (n + length (load d n).cells) h.0)
    (keys_rise ps (n + length (load d n).cells) h.1)

apart : (o k : ℕ) → k < o → (o == k) ≡ false
apart o k lt = grind (arith, nat_tests)

-- no cell that lies behind is one of those that the walk is inside of
not_open : (k : ℕ) (open_cells : List ℕ) → AllByRecursion (λ o. k < o) open_cells → is_open k open_cells ≡ false
not_open k [] a = refl
not_open k (o ∷ os) a = ap (λ b. b || is_open k os) (apart o k a.0) ∙ not_open k os a.1

goes_on : {A : Type 0} (b : Bool) (x y : A) → b ≡ false → cond b x y ≡ y
goes_on b x y h = rw h

module _ (cs : List PlainCell) where
  -- the cells contain what was made behind so many others
  abbrev pub Holds : ℕ → List PlainCell → Type 0
  Holds n ks = (j : ℕ) → j < length ks → cell_at cs (n + j) ≡ cell_at ks j

  holds_left : (n : ℕ) (xs ys : List PlainCell) → Holds n (xs ++ ys) → Holds n xs
  holds_left n xs ys h j lt =
      let e = length-append xs ys in
      h j (omega (arith, lt, e)) ∙ get_or_append_left xs ys (array []) j lt

  holds_right : (n : ℕ) (xs ys : List PlainCell) → Holds n (xs ++ ys) → Holds (n + length xs) ys
  holds_right n xs ys h j lt =
      let e = length-append xs ys in
      ap (cell_at cs) {y = n + (length xs + j)} (omega arith) ∙ h (length xs + j) (omega (arith, lt, e)) ∙ get_or-append-add xs ys j (array [])

  holds_last : (n : ℕ) (xs : List PlainCell) (x : PlainCell) → Holds n (xs ++ x ∷ []) → cell_at cs (n + length xs) ≡ x
  holds_last n xs x h =
      let e = one_longer xs x in
      h (length xs) (omega (arith, e)) ∙ get_or-append_seam xs x [] (array [])

  -- the walk into a cell that lies behind those of what it contains
  into_cell : (levels n c : ℕ) (open_cells : List ℕ) (xs : List PlainCell) (x : PlainCell) → 0 < levels → c + 1 ≤ most → Holds n (xs ++ x ∷ [])
      → AllByRecursion (λ o. n + length (xs ++ x ∷ []) ≤ o) open_cells
      → walk levels cs open_cells (value.Ref (n + length xs)) c ≡ cell_walked (walk (levels - 1) cs ((n + length xs) ∷ open_cells)) x (c + 1)
  into_cell levels n c open_cells xs x some le h a =
      let e = one_longer xs x in
      let inner = walk (levels - 1) cs ((n + length xs) ∷ open_cells) in
      a_level levels cs open_cells (value.Ref (n + length xs)) c some
      ∙ goes_on (is_open (n + length xs) open_cells) (stopped (Cyclic (n + length xs))) (charged (c + 1) (λ c1. cell_walked inner (cell_at cs (n + length xs)) c1))
      (not_open (n + length xs) open_cells (all_more (λ o. n + length (xs ++ x ∷ []) ≤ o) (λ o. n + length xs < o) (λ o p. omega (arith, p, e)) open_cells a))
      ∙ charged_within (c + 1) (λ c1. cell_walked inner (cell_at cs (n + length xs)) c1) le
      ∙ ap (λ k. cell_walked inner k (c + 1)) (holds_last n xs x h)

  -- what is open is behind the cells inside
  open_inside : (n : ℕ) (xs : List PlainCell) (x : PlainCell) (open_cells : List ℕ) → AllByRecursion (λ o. n + length (xs ++ x ∷ []) ≤ o) open_cells → AllByRecursion (λ o. n + length xs ≤ o) ((n + length xs) ∷ open_cells)
  open_inside n xs x open_cells a =
      let e = one_longer xs x in
      (omega arith, all_more (λ o. n + length (xs ++ x ∷ []) ≤ o) (λ o. n + length xs ≤ o) (λ o p. omega (arith, p, e)) open_cells a)

  open_left : (n : ℕ) (xs ys : List PlainCell) (open_cells : List ℕ) → AllByRecursion (λ o. n + length (xs ++ ys) ≤ o) open_cells → AllByRecursion (λ o. n + length xs ≤ o) open_cells
  open_left n xs ys open_cells a =
      let e = length-append xs ys in
      all_more (λ o. n + length (xs ++ ys) ≤ o) (λ o. n + length xs ≤ o) (λ o p. omega (arith, p, e)) open_cells a

  open_right : (n : ℕ) (xs ys : List PlainCell) (open_cells : List ℕ) → AllByRecursion (λ o. n + length (xs ++ ys) ≤ o) open_cells → AllByRecursion (λ o. (n + length xs) + length ys ≤ o) open_cells
  open_right n xs ys open_cells a =
      let e = length-append xs ys in
      all_more (λ o. n + length (xs ++ ys) ≤ o) (λ o. (n + length xs) + length ys ≤ o) (λ o p. omega (arith, p, e)) open_cells a

  mutual
    back : (d : Data) (levels n c : ℕ) (open_cells : List ℕ) → IsLawful d → cost d < levels → c + cost d ≤ most → Holds n (load d n).cells → AllByRecursion (λ o. n + length (load d n).cells ≤ o) open_cells
        → walk levels cs open_cells (load d n).value c ≡ walked d (c + cost d)
    back null levels n c open_cells lawful deep le h a = a_level levels cs open_cells value.Null c (omega (arith, deep)) ∙ ap (walked null) (omega arith)
    back (boolean b) levels n c open_cells lawful deep le h a = a_level levels cs open_cells (value.Bool b) c (omega (arith, deep)) ∙ ap (walked (boolean b)) (omega arith)
    back (number z) levels n c open_cells lawful deep le h a = a_level levels cs open_cells (value.Number z) c (omega (arith, deep)) ∙ ap (walked (number z)) (omega arith)
    back (string t) levels n c open_cells lawful deep le h a =
        a_level levels cs open_cells (value.Str t) c (omega (arith, deep)) ∙ charged_within (c + length t) (λ c1. walked (string t) c1) le
    back (list ds) levels n c open_cells lawful deep le h a =
        let made = load_items ds n in
        into_cell levels n c open_cells made.cells (array made.value) (omega (arith, deep)) (omega (arith, le)) h a
        ∙ ap (λ w. w >>= λ es c1. walked (list (items_of es)) c1)
        (items_back ds (levels - 1) n (c + 1) ((n + length made.cells) ∷ open_cells) lawful (omega (arith, deep)) (omega (arith, le)) (holds_left n made.cells (array made.value ∷ []) h) (open_inside n made.cells (array made.value) open_cells a))
        ∙ ap (λ es. walked (list es) ((c + 1) + items_cost ds)) (items_again ds) ∙ ap (walked (list ds)) (omega arith)
    back (dict ps) levels n c open_cells lawful deep le h a =
        let made = load_pairs ps n in
        let cell = pairs_cell (dict_of made.value []) in
        into_cell levels n c open_cells made.cells cell (omega (arith, deep)) (omega (arith, le)) h a
        ∙ ap (λ qs. pairs_walked (walk (levels - 1) cs ((n + length made.cells) ∷ open_cells)) qs (c + 1) >>= λ es c1. walked (dict (pairs_of es)) c1) (dict_of_sorted made.value (keys_rise ps n lawful.0))
        ∙ ap (λ w. w >>= λ es c1. walked (dict (pairs_of es)) c1)
        (pairs_back ps (levels - 1) n (c + 1) ((n + length made.cells) ∷ open_cells) lawful.1 (omega (arith, deep)) (omega (arith, le)) (holds_left n made.cells (cell ∷ []) h) (open_inside n made.cells cell open_cells a))
        ∙ ap (λ es. walked (dict es) ((c + 1) + pairs_cost ps)) (pairs_again ps) ∙ ap (walked (dict ps)) (omega arith)

    items_back : (ds : Items) (levels n c : ℕ) (open_cells : List ℕ) → AreLawful ds → items_cost ds < levels → c + items_cost ds ≤ most → Holds n (load_items ds n).cells → AllByRecursion (λ o. n + length (load_items ds n).cells ≤ o) open_cells
        → values_walked (walk levels cs open_cells) (load_items ds n).value c ≡ walked (datas ds) (c + items_cost ds)
    items_back no_items levels n c open_cells lawful deep le h a = ap (walked []) (omega arith)
    items_back (item d ds) levels n c open_cells lawful deep le h a =
        let made = load d n in
        let rest = load_items ds (n + length made.cells) in
        ap (λ w. w >>= λ e c2. (values_walked (walk levels cs open_cells) rest.value c2 >>= λ es c3. walked (e ∷ es) c3))
        (charged_within (c + 1) (λ c1. walk levels cs open_cells made.value c1) (omega (arith, le))
        ∙ back d levels n (c + 1) open_cells lawful.0 (omega (arith, deep)) (omega (arith, le)) (holds_left n made.cells rest.cells h) (open_left n made.cells rest.cells open_cells a))
        ∙ ap (λ w. w >>= λ es c3. walked (d ∷ es) c3)
        (items_back ds levels (n + length made.cells) ((c + 1) + cost d) open_cells lawful.1 (omega (arith, deep)) (omega (arith, le)) (holds_right n made.cells rest.cells h) (open_right n made.cells rest.cells open_cells a))
        ∙ ap (walked (d ∷ datas ds)) (omega arith)

    pairs_back : (ps : TreePairs) (levels n c : ℕ) (open_cells : List ℕ) → HaveLawful ps → pairs_cost ps < levels → c + pairs_cost ps ≤ most → Holds n (load_pairs ps n).cells → AllByRecursion (λ o. n + length (load_pairs ps n).cells ≤ o) open_cells
        → pairs_walked (walk levels cs open_cells) (load_pairs ps n).value c ≡ walked (pair_datas ps) (c + pairs_cost ps)
    pairs_back no_pairs levels n c open_cells lawful deep le h a = ap (walked []) (omega arith)
    pairs_back (pair k d ps) levels n c open_cells lawful deep le h a =
        let made = load d n in
        let rest = load_pairs ps (n + length made.cells) in
        ap (λ w. w >>= λ e c2. (pairs_walked (walk levels cs open_cells) rest.value c2 >>= λ es c3. walked ((k, e) ∷ es) c3))
        (charged_within (c + (1 + length k)) (λ c1. walk levels cs open_cells made.value c1) (omega (arith, le))
        ∙ back d levels n (c + (1 + length k)) open_cells lawful.0 (omega (arith, deep)) (omega (arith, le)) (holds_left n made.cells rest.cells h) (open_left n made.cells rest.cells open_cells a))
        ∙ ap (λ w. w >>= λ es c3. walked ((k, d) ∷ es) c3)
        (pairs_back ps levels (n + length made.cells) ((c + (1 + length k)) + cost d) open_cells lawful.1 (omega (arith, deep)) (omega (arith, le)) (holds_right n made.cells rest.cells h) (open_right n made.cells rest.cells open_cells a))
        ∙ ap (walked ((k, d) ∷ pair_datas ps)) (omega arith)

-- behind the cells of a store
behind : (cells ks : List PlainCell) → Holds (cells ++ ks) (length cells) ks
behind cells ks j lt = get_or-append-add cells ks j (array [])

-- a tree that is loaded behind some cells is given back
pub given_back : (cells : List PlainCell) (d : Data) → Fits d → tree_walked (cells ++ (load d (length cells)).cells) (load d (length cells)).value ≡ Ok d
given_back cells d fits = ap outcome (back (cells ++ (load d (length cells)).cells) d (most + 1) (length cells) 0 [] fits.lawful (omega (arith, fits.within)) (omega (arith, fits.within)) (behind cells (load d (length cells)).cells) tt)

-- what is made from nothing
pub same_cells : (d : Data) (n before : ℕ) (start cs : List PlainCell) → before ≡ n → start ≡ [] → cs ≡ grown before start (load d) → cs ≡ (load d n).cells
same_cells d n before start cs e f g = g ∙ ap (λ s. grown before s (load d)) f ∙ ap (λ k. (load d k).cells) {x = before + length {A = PlainCell} []} (omega (arith, e))

pub same_value : (d : Data) (n before : ℕ) (start : List PlainCell) (v : Value) → before ≡ n → start ≡ [] → v ≡ given before start (load d) → v ≡ (load d n).value
same_value d n before start v e f g = g ∙ ap (λ s. given before s (load d)) f ∙ ap (λ k. (load d k).value) {x = before + length {A = PlainCell} []} (omega (arith, e))

-- the cells that are made for a tree stand behind those of a store
pub loaded_stand : (d : Data) (n functions : ℕ) (cs : List PlainCell) → cs ≡ (load d n).cells → AllByRecursion (Stands (n + length cs) functions) cs
loaded_stand d n functions cs e = subst (λ ks. AllByRecursion (Stands (n + length ks) functions) ks) (sym e) (load_stands functions (n + length (load d n).cells) d n (omega arith)).0

-- and the store gives the tree back
pub store_gives_back : (cells new : List PlainCell) (d : Data) (cs : List PlainCell) (v : Value) → new ≡ cells ++ cs → cs ≡ (load d (length cells)).cells → v ≡ (load d (length cells)).value → Fits d → tree_walked new v ≡ Ok d
store_gives_back cells new d cs v e f g fits = (λ i. tree_walked ((e ∙ ap (λ ks. cells ++ ks) f) i) (g i)) ∙ given_back cells d fits
