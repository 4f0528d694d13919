-- Changes after which a store has only grown.
use Rattle.std.proofs.Common.{◌≡◌, ℕ, zero, suc, ◌+◌, ◌<◌, ◌≤◌, List, [], ◌∷◌, ◌++◌, length, set, refl, sym, ap, subst, ◌∙◌, arith, length-append}
use Rattle.std.proofs.lemmas.List.{get_or_append_left, get_or-set_other, length-set, append_assoc}
use Rattle.site_base.specs.Data.{Data, null, boolean, number, string, list, dict as pairs_of, Items, no_items, item, Pairs as TreePairs, no_pairs, pair}
use Rattle.dsl_value.specs.Changes.{changed}
use Rattle.dsl_value.specs.declared.change.Change.{Change}
use Rattle.dsl_value.specs.declared.change.Change.TheVariants as change
use Rattle.dsl_value.specs.Contents.{PlainCell, array, dict, PlainFunction, Contained, Contents, cell_at, with_cell, with_cells, function_at, is_array, pushed, with_value, with_pair, without_pair}
use Rattle.dsl_value.specs.Pairs.{dict_of}
use Rattle.dsl_value.specs.Loads.{load, load_items, load_pairs, cost, items_cost, pairs_cost}
use Rattle.dsl_value.specs.Grows.{Grows}
use Rattle.dsl_value.specs.Whole.{Names}
use Rattle.dsl_value.specs.declared.value.Value.{Value}
use Rattle.dsl_value.proofs.Kept.{shown}
use Rattle.dsl_value.proofs.Named.{one_longer, load_stands}

pub grows_same : (most : ℕ) (s t : Contents) → t ≡ s → Grows most s t
grows_same most s t e = subst (Grows most s) (sym e) (record {
  base = refl;
  frozen = λ k lt inside. refl;
  functions = λ k lt. refl;
  no_function_lost = omega arith;
  no_cell_lost = omega arith;
  kinds = λ k lt. refl;
  few_added = omega arith;
})

pub grows_on : (m n : ℕ) (s t u : Contents) → Grows m s t → Grows n t u → Grows (m + n) s u
grows_on m n s t u a b = record {
  base = b.base ∙ a.base;
  frozen = λ k lt inside. b.frozen k (subst (λ n. k < n) (sym a.base) lt) (omega (arith, inside, a.no_cell_lost)) ∙ a.frozen k lt inside;
  functions = λ k lt. b.functions k (omega (arith, lt, a.no_function_lost)) ∙ a.functions k lt;
  no_function_lost = omega (arith, a.no_function_lost, b.no_function_lost);
  no_cell_lost = omega (arith, a.no_cell_lost, b.no_cell_lost);
  kinds = λ k lt. b.kinds k (omega (arith, lt, a.no_cell_lost)) ∙ a.kinds k lt;
  few_added = omega (arith, a.few_added, b.few_added);
}

at_left : (fs : List PlainFunction) (gs : List PlainFunction) (k : ℕ) → k < length fs → function_at (fs ++ gs) k ≡ function_at fs k
at_left [] gs k lt = absurd (omega (arith, lt))
at_left (f ∷ fs) gs zero lt = refl
at_left (f ∷ fs) gs (suc k) lt = at_left fs gs k (omega (arith, lt))

-- cells are added
pub grows_cells : (most : ℕ) (s t : Contents) (ks : List PlainCell) → length ks ≤ most → t ≡ with_cells s (s.cells ++ ks) → Grows most s t
grows_cells most s t ks few e =
    let long = length-append s.cells ks in
    subst (Grows most s) (sym e) (record {
      base = refl;
      frozen = λ k lt inside. get_or_append_left s.cells ks (array []) k inside;
      functions = λ k lt. refl;
      no_function_lost = omega arith;
      no_cell_lost = omega (arith, long);
      kinds = λ k lt. ap is_array (get_or_append_left s.cells ks (array []) k lt);
      few_added = omega (arith, long, few);
    })

pub grows_cell : (s t : Contents) (c : PlainCell) → t ≡ with_cells s (s.cells ++ c ∷ []) → Grows 1 s t
grows_cell s t c e = grows_cells 1 s t (c ∷ []) (omega arith) e

-- a function is added
pub grows_function : (s t : Contents) (f : PlainFunction) → t ≡ record { cells = s.cells; base = s.base; functions = s.functions ++ f ∷ [] } → Grows 0 s t
grows_function s t f e =
    let long = length-append s.functions (f ∷ []) in
    subst (Grows 0 s) (sym e) (record {
      base = refl;
      frozen = λ k lt inside. refl;
      functions = λ k lt. at_left s.functions (f ∷ []) k lt;
      no_function_lost = omega (arith, long);
      no_cell_lost = omega arith;
      kinds = λ k lt. refl;
      few_added = omega arith;
    })

-- a cell from the base on gets another content of the same kind
kind_at : (cells : List PlainCell) (i : ℕ) (c : PlainCell) → is_array c ≡ is_array (cell_at cells i) → (k : ℕ) → is_array (cell_at (set cells i c) k) ≡ is_array (cell_at cells k)
kind_at [] i c same k = refl
kind_at (d ∷ cells) zero c same zero = same
kind_at (d ∷ cells) zero c same (suc k) = refl
kind_at (d ∷ cells) (suc i) c same zero = refl
kind_at (d ∷ cells) (suc i) c same (suc k) = kind_at cells i c same k

below : (cells : List PlainCell) (i : ℕ) (c : PlainCell) (k : ℕ) → k < i → cell_at (set cells i c) k ≡ cell_at cells k
below cells i c k lt = get_or-set_other cells i k c (array []) (λ e. absurd (omega (arith, lt, e)))

pub grows_set : (s t : Contents) (i : ℕ) (c : PlainCell) → s.base ≤ i → is_array c ≡ is_array (cell_at s.cells i) → t ≡ with_cells s (with_cell s.cells i c) → Grows 0 s t
grows_set s t i c le same e =
    let long = length-set s.cells i c in
    subst (Grows 0 s) (sym e) (record {
      base = refl;
      frozen = λ k lt inside. below s.cells i c k (omega (arith, lt, le));
      functions = λ k lt. refl;
      no_function_lost = omega arith;
      no_cell_lost = omega (arith, long);
      kinds = λ k lt. kind_at s.cells i c same k;
      few_added = omega (arith, long);
    })

value_kind : (c : PlainCell) (k : ℕ) (v : Value) → is_array (with_value c k v) ≡ is_array c
value_kind (array vs) k v = refl
value_kind (dict ps) k v = refl

pushed_kind : (c : PlainCell) (v : Value) → is_array (pushed c v) ≡ is_array c
pushed_kind (array vs) v = refl
pushed_kind (dict ps) v = refl

pair_kind : (c : PlainCell) (k : List ℕ) (v : Value) → is_array (with_pair c k v) ≡ is_array c
pair_kind (array vs) k v = refl
pair_kind (dict ps) k v = refl

removed_kind : (c : PlainCell) (k : List ℕ) → is_array (without_pair c k) ≡ is_array c
removed_kind (array vs) k = refl
removed_kind (dict ps) k = refl

changed_kind : (c : PlainCell) (x : Change) → is_array (changed x c) ≡ is_array c
changed_kind c (change.Put i v) = value_kind c i v
changed_kind c (change.Push v) = pushed_kind c v
changed_kind c (change.Set k v) = pair_kind c k v
changed_kind c (change.Remove k) = removed_kind c k.now

pub grows_changed : (s t : Contents) (i : ℕ) (x : Change) → s.base ≤ i → t ≡ with_cells s (with_cell s.cells i (changed x (cell_at s.cells i))) → Grows 0 s t
grows_changed s t i x le = grows_set s t i (changed x (cell_at s.cells i)) le (changed_kind (cell_at s.cells i) x)

-- a tree has no more cells than units
mutual
  pub cells_within : (d : Data) (n : ℕ) → length (load d n).cells ≤ cost d
  cells_within null n = omega arith
  cells_within (boolean b) n = omega arith
  cells_within (number z) n = omega arith
  cells_within (string t) n = omega arith
  cells_within (list ds) n = let inside = items_within ds n in let long = one_longer (load_items ds n).cells (array (load_items ds n).value) in omega (arith, inside, long)
  cells_within (pairs_of ps) n = let inside = pairs_within ps n in let long = one_longer (load_pairs ps n).cells (dict (dict_of (load_pairs ps n).value [])) in omega (arith, inside, long)

  items_within : (ds : Items) (n : ℕ) → length (load_items ds n).cells ≤ items_cost ds
  items_within no_items n = omega arith
  items_within (item d ds) n =
      let m = n + length (load d n).cells in
      let one = cells_within d n in
      let others = items_within ds m in
      let long = length-append (load d n).cells (load_items ds m).cells in
      omega (arith, one, others, long)

  pairs_within : (ps : TreePairs) (n : ℕ) → length (load_pairs ps n).cells ≤ pairs_cost ps
  pairs_within no_pairs n = omega arith
  pairs_within (pair k d ps) n =
      let m = n + length (load d n).cells in
      let one = cells_within d n in
      let others = pairs_within ps m in
      let long = length-append (load d n).cells (load_pairs ps m).cells in
      omega (arith, one, others, long)

abbrev with_functions : Contents → List PlainFunction → Contents
with_functions s functions = record { cells = s.cells; base = s.base; functions = functions }

-- the same of a store with these layers
module _ (frozen live : Contained) (b : ℕ) (s : Contents) (view : shown frozen live b ≡ s) (new : Contained) where
  pub shows_cells : (ks : List PlainCell) → new ≡ record { cells = live.cells ++ ks; functions = live.functions } → shown frozen new b ≡ with_cells s (s.cells ++ ks)
  shows_cells ks ok = ap (λ l. shown frozen l b) ok ∙ ap (with_cells (shown frozen live b)) (sym (append_assoc frozen.cells live.cells ks)) ∙ ap (λ t. with_cells t (t.cells ++ ks)) view

  pub shows_cell : (c : PlainCell) → new ≡ record { cells = live.cells ++ c ∷ []; functions = live.functions } → Grows 1 s (shown frozen new b)
  shows_cell c ok = grows_cell s (shown frozen new b) c (shows_cells (c ∷ []) ok)

  pub shows_function : (f : PlainFunction) → new ≡ record { cells = live.cells; functions = live.functions ++ f ∷ [] } → Grows 0 s (shown frozen new b)
  shows_function f ok = grows_function s (shown frozen new b) f
      (ap (λ l. shown frozen l b) ok ∙ ap (with_functions (shown frozen live b)) (sym (append_assoc frozen.functions live.functions (f ∷ [])))
      ∙ ap (λ t. with_functions t (t.functions ++ f ∷ [])) view)

  pub shows_tree : (d : Data) (ks : List PlainCell) → new ≡ record { cells = live.cells ++ ks; functions = live.functions } → ks ≡ (load d (length s.cells)).cells → Grows (cost d) s (shown frozen new b)
  shows_tree d ks ok made = grows_cells (cost d) s (shown frozen new b) ks (subst (λ xs. length xs ≤ cost d) (sym made) (cells_within d (length s.cells))) (shows_cells ks ok)

  pub shows_value : (d : Data) (ks : List PlainCell) (v : Value) → new ≡ record { cells = live.cells ++ ks; functions = live.functions } → ks ≡ (load d (length s.cells)).cells → v ≡ (load d (length s.cells)).value
      → Names (length (shown frozen new b).cells) (length (shown frozen new b).functions) v
  shows_value d ks v ok made is =
      let all : (shown frozen new b).cells ≡ s.cells ++ ks = ap (λ t. t.cells) (shows_cells ks ok) in
      let long = length-append s.cells ks in
      let count : length ks ≡ length (load d (length s.cells)).cells = ap length made in
      let top : length (shown frozen new b).cells ≡ length s.cells + length (load d (length s.cells)).cells = ap length all ∙ omega (arith, long, count) in
      subst (Names (length (shown frozen new b).cells) (length (shown frozen new b).functions)) (sym is)
      (load_stands (length (shown frozen new b).functions) (length (shown frozen new b).cells) d (length s.cells) (omega (arith, top))).1

-- what adds none adds one at most
pub grows_one : (s t : Contents) → Grows 0 s t → Grows 1 s t
grows_one s t h = record {
  base = h.base;
  frozen = h.frozen;
  functions = h.functions;
  no_function_lost = h.no_function_lost;
  no_cell_lost = h.no_cell_lost;
  kinds = h.kinds;
  few_added = omega (arith, h.few_added);
}
