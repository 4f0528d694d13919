-- Arrays and dictionaries that are loaded part by part.
use Rattle.std.proofs.Common.{◌≡◌, ℕ, ◌+◌, ◌*◌, ◌<◌, ◌≤◌, List, [], ◌∷◌, ◌++◌, length, refl, sym, ap, ◌∙◌, arith, length-append, Result, Ok, Err, IfOk}
use Rattle.std.proofs.lemmas.List.{append_assoc, append-nil}
use Rattle.site_base.specs.Data.{Data, list, dict, Items, item, Pairs as TreePairs, pair}
use Rattle.site_base.specs.View.{view, items_view, pairs_view}
use Rattle.site_base.specs.Weight.{weight, items_weight, pairs_weight}
use Rattle.site_base.specs.declared.memory.OutOfMemory.{OutOfMemory}
use Rattle.site_base.specs.declared.tree.Tree.{Tree}
use Rattle.dsl_value.specs.Contents.{PlainCell, array, dict as pairs_cell}
use Rattle.dsl_value.specs.Pairs.{Pairs, dict_of}
use Rattle.dsl_value.specs.Loads.{Made, bare, load, load_items, load_pairs, grown, given}
use Rattle.dsl_value.specs.Loading.{among, loaded, array_of, dict_of_pairs, filled, wrapped, work_in, work_of, work_outside, SameArray, SameDict}
use Rattle.dsl_value.specs.declared.value.Value.{Value}
use Rattle.dsl_value.specs.declared.value.Value.TheVariants.{Ref}
use Rattle.dsl_value.specs.declared.loading.Open.{Open}
use Rattle.dsl_value.specs.declared.loading.Step.{Step}

module _ (before : ℕ) (cells : List PlainCell) where
  further : (ks : List PlainCell) → before + length (cells ++ ks) ≡ (before + length cells) + length ks
  further ks = let e = length-append cells ks in omega (arith, e)

  -- what needs no cell
  pub bare_loaded : (v : Value) → among v cells ≡ record { value = v; cells = cells ++ [] }
  bare_loaded v = ap (among v) (sym (append-nil cells))

  -- a cell behind those of what it contains
  closed : (ks : List PlainCell) (c : PlainCell) → among (Ref (before + length (cells ++ ks))) ((cells ++ ks) ++ c ∷ []) ≡ among (Ref ((before + length cells) + length ks)) (cells ++ (ks ++ c ∷ []))
  closed ks c = (λ j. among (Ref (further ks j)) (append_assoc cells ks (c ∷ []) j))

  -- nothing of it is loaded yet
  pub array_begun : (ds : Items) → array_of before cells [] ds ≡ loaded before cells (list ds)
  array_begun ds = let made = load_items ds (before + length cells) in closed made.cells (array made.value)

  pub dict_begun : (ps : TreePairs) → dict_of_pairs before cells [] ps ≡ loaded before cells (dict ps)
  dict_begun ps = let made = load_pairs ps (before + length cells) in closed made.cells (pairs_cell (dict_of made.value []))

  -- one more part is loaded
  module _ (d : Data) where
    abbrev ks : List PlainCell
    ks = (load d (before + length cells)).cells

    pub array_more : (vs : List Value) (ds : Items) → array_of before (grown before cells (load d)) (vs ++ given before cells (load d) ∷ []) ds ≡ array_of before cells vs (item d ds)
    array_more vs ds =
        let all : (cells ++ ks) ++ (load_items ds (before + length (cells ++ ks))).cells ≡ grown before cells (load_items (item d ds)) = ap (λ n. (cells ++ ks) ++ (load_items ds n).cells) (further ks) ∙ append_assoc cells ks _ in
        let values : (vs ++ given before cells (load d) ∷ []) ++ (load_items ds (before + length (cells ++ ks))).value ≡ vs ++ given before cells (load_items (item d ds)) =
        append_assoc vs (given before cells (load d) ∷ []) _ ∙ ap (λ n. vs ++ given before cells (load d) ∷ (load_items ds n).value) (further ks) in
        (λ j. among (Ref (before + length (all j))) (all j ++ array (values j) ∷ []))

    pub dict_more : (k : List ℕ) (qs : Pairs) (ps : TreePairs) → dict_of_pairs before (grown before cells (load d)) (qs ++ (k, given before cells (load d)) ∷ []) ps ≡ dict_of_pairs before cells qs (pair k d ps)
    dict_more k qs ps =
        let all : (cells ++ ks) ++ (load_pairs ps (before + length (cells ++ ks))).cells ≡ grown before cells (load_pairs (pair k d ps)) = ap (λ n. (cells ++ ks) ++ (load_pairs ps n).cells) (further ks) ∙ append_assoc cells ks _ in
        let values : (qs ++ (k, given before cells (load d)) ∷ []) ++ (load_pairs ps (before + length (cells ++ ks))).value ≡ qs ++ given before cells (load_pairs (pair k d ps)) =
        append_assoc qs ((k, given before cells (load d)) ∷ []) _ ∙ ap (λ n. qs ++ (k, given before cells (load d)) ∷ (load_pairs ps n).value) (further ks) in
        (λ j. among (Ref (before + length (all j))) (all j ++ pairs_cell (dict_of (values j) []) ∷ []))

  pub array_next : (vs : List Value) (left : List Tree) (t : Tree) (rest : List Tree) → left ≡ t ∷ rest
      → array_of before (grown before cells (load (view t))) (vs ++ given before cells (load (view t)) ∷ []) (items_view rest) ≡ array_of before cells vs (items_view left)
  array_next vs left t rest e = array_more (view t) vs (items_view rest) ∙ ap (λ ts. array_of before cells vs (items_view ts)) (sym e)

  pub dict_next : (qs : Pairs) (left : List (List ℕ × Tree)) (k : List ℕ) (p : List ℕ × Tree) (rest : List (List ℕ × Tree)) → k ≡ p.0 → left ≡ p ∷ rest
      → dict_of_pairs before (grown before cells (load (view p.1))) (qs ++ (k, given before cells (load (view p.1))) ∷ []) (pairs_view rest) ≡ dict_of_pairs before cells qs (pairs_view left)
  dict_next qs left k p rest same e =
      dict_more (view p.1) k qs (pairs_view rest) ∙ ap (λ key. dict_of_pairs before cells qs (pair key (view p.1) (pairs_view rest))) same ∙ ap (λ ts. dict_of_pairs before cells qs (pairs_view ts)) (sym e)

  -- nothing is left
  pub array_end : (vs : List Value) (left : List Tree) (v : Value) (new : List PlainCell) → length left ≡ 0 → v ≡ Ref (before + length cells) → new ≡ cells ++ array vs ∷ [] → among v new ≡ array_of before cells vs (items_view left)
  array_end vs [] v new none named all =
      (λ j. among (named j) (all j)) ∙ (λ j. among (Ref (before + length (sym (append-nil cells) j))) (sym (append-nil cells) j ++ array (sym (append-nil vs) j) ∷ []))
  array_end vs (t ∷ ts) v new none named all = absurd (omega (arith, none))

  pub dict_end : (qs sorted : Pairs) (left : List (List ℕ × Tree)) (v : Value) (new : List PlainCell) → length left ≡ 0 → sorted ≡ dict_of qs [] → v ≡ Ref (before + length cells) → new ≡ cells ++ pairs_cell sorted ∷ []
      → among v new ≡ dict_of_pairs before cells qs (pairs_view left)
  dict_end qs sorted [] v new none is named all =
      (λ j. among (named j) (all j)) ∙ ap (λ ps. among (Ref (before + length cells)) (cells ++ pairs_cell ps ∷ [])) is
      ∙ (λ j. among (Ref (before + length (sym (append-nil cells) j))) (sym (append-nil cells) j ++ pairs_cell (dict_of (sym (append-nil qs) j) []) ∷ []))
  dict_end qs sorted (p ∷ ps) v new none is named all = absurd (omega (arith, none))

-- a part that needs no cell is added
bare_array : (before : ℕ) (cells : List PlainCell) (vs : List Value) (ds : Items) (m : ℕ → Made Value) (v : Value) → m ≡ (λ n. bare v)
    → array_of before (grown before cells m) (vs ++ given before cells m ∷ []) ds ≡ array_of before cells (vs ++ v ∷ []) ds
bare_array before cells vs ds m v is =
    ap (λ f. array_of before (grown before cells f) (vs ++ given before cells f ∷ []) ds) is
    ∙ ap (λ cs. array_of before cs (vs ++ v ∷ []) ds) (append-nil cells)

bare_dict : (before : ℕ) (cells : List PlainCell) (k : List ℕ) (qs : Pairs) (ps : TreePairs) (m : ℕ → Made Value) (v : Value) → m ≡ (λ n. bare v)
    → dict_of_pairs before (grown before cells m) (qs ++ (k, given before cells m) ∷ []) ps ≡ dict_of_pairs before cells (qs ++ (k, v) ∷ []) ps
bare_dict before cells k qs ps m v is =
    ap (λ f. dict_of_pairs before (grown before cells f) (qs ++ (k, given before cells f) ∷ []) ps) is
    ∙ ap (λ cs. dict_of_pairs before cs (qs ++ (k, v) ∷ []) ps) (append-nil cells)

pub bare_item_added : (vs new : List Value) (left : List Tree) (t : Tree) (rest : List Tree) (v : Value) → left ≡ t ∷ rest → load (view t) ≡ (λ n. bare v) → new ≡ vs ++ v ∷ [] → SameArray new (items_view rest) vs (items_view left)
bare_item_added vs new left t rest v e is added before cells =
    ap (λ ws. array_of before cells ws (items_view rest)) added
    ∙ sym (bare_array before cells vs (items_view rest) (load (view t)) v is)
    ∙ array_next before cells vs left t rest e

pub bare_pair_added : (qs new : Pairs) (left : List (List ℕ × Tree)) (k : List ℕ) (p : List ℕ × Tree) (rest : List (List ℕ × Tree)) (v : Value) → k ≡ p.0 → left ≡ p ∷ rest → load (view p.1) ≡ (λ n. bare v) → new ≡ qs ++ (k, v) ∷ [] → SameDict new (pairs_view rest) qs (pairs_view left)
bare_pair_added qs new left k p rest v same e is added before cells =
    ap (λ ws. dict_of_pairs before cells ws (pairs_view rest)) added
    ∙ sym (bare_dict before cells k qs (pairs_view rest) (load (view p.1)) v is)
    ∙ dict_next before cells qs left k p rest same e

-- what is open, one more or less of it
pub wrapped_end : (before : ℕ) (os : List Open) (o : Open) (m : Made Value) → wrapped before (os ++ o ∷ []) m ≡ wrapped before os (filled before o m)
wrapped_end before [] o m = refl
wrapped_end before (p ∷ os) o m = ap (filled before p) (wrapped_end before os o m)

pub work_end : (os : List Open) (o : Open) → work_outside (os ++ o ∷ []) ≡ work_outside os + work_in o
work_end [] o = omega arith
work_end (p ∷ os) o = omega (arith, work_end os o)

pub work_next : (left : List Tree) (t : Tree) (rest : List Tree) → left ≡ t ∷ rest → (1 + 2 * items_weight rest) + 2 * weight t ≤ 1 + 2 * items_weight left
work_next left t rest e = let same : items_weight left ≡ items_weight (t ∷ rest) = ap items_weight e in omega (arith, same)

pub work_next_pair : (left : List (List ℕ × Tree)) (p : List ℕ × Tree) (rest : List (List ℕ × Tree)) → left ≡ p ∷ rest → (1 + 2 * pairs_weight rest) + 2 * weight p.1 ≤ 1 + 2 * pairs_weight left
work_next_pair left p rest e = let same : pairs_weight left ≡ pairs_weight (p ∷ rest) = ap pairs_weight e in omega (arith, same)

pub less_if : (r : Result Step OutOfMemory) (m n : ℕ) → m < n → IfOk r (λ s. work_of s ≤ m) → IfOk r (λ s. work_of s < n)
less_if (Ok s) m n lt le = omega (arith, lt, le)
less_if (Err e) m n lt le = tt
