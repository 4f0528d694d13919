-- The tree that a walk gives is lawful, and costs what the walk counted.
use Rattle.std.proofs.Common.{◌≡◌, ℕ, zero, suc, ◌+◌, ◌≤◌, Bool, true, false, cond, nat_lt, T, List, [], ◌∷◌, ◌++◌, length, Ok, Err, Result, refl, ap, subst, ◌∙◌, arith}
use Rattle.std.specs.List.{AllByRecursion}
use Rattle.std.specs.Ordering.{is_lt}
use Rattle.std.specs.FinMap.Entries as entries
use Rattle.std.proofs.lemmas.Bool.Decides.{nat_tests}
use Rattle.site_base.specs.Data.{Data, string, list, dict as pairs_tree}
use Rattle.site_base.specs.Lawful.{Leads, AreRising, IsLawful, AreLawful, HaveLawful}
use Rattle.site_base.specs.View.{items_of, pairs_of}
use Rattle.dsl_value.specs.Contents.{PlainCell, array, dict, Contained, Contents, cell_at, IsInOrder}
use Rattle.dsl_value.specs.Pairs.{Pairs, key_cmp, is_sorted}
use Rattle.dsl_value.specs.Loads.{cost, items_cost, pairs_cost, Fits}
use Rattle.dsl_value.specs.Walks.{most, Walk, walked, stopped, ◌>>=◌, charged, Walker, values_walked, pairs_walked, cell_walked, is_open, value_walked, walk, outcome, tree_walked}
use Rattle.dsl_value.specs.Whole.{Stands, IsKept}
use Rattle.dsl_value.specs.declared.value.Value.{Value}
use Rattle.dsl_value.specs.declared.value.Value.TheVariants as value
use Rattle.dsl_value.specs.declared.tree_fault.TreeFault.{TreeFault}
use Rattle.dsl_value.specs.declared.tree_fault.TreeFault.TheVariants.{Cyclic, TooLarge}
use Rattle.dsl_value.proofs.Kept.{shown, in_order}
use Rattle.dsl_value.proofs.Rising.{first, second, less}

-- so much was counted before a tree, and so much behind it
pub record Counts (before behind units : ℕ) : Type 0 where
  pub sum : behind ≡ before + units
  pub within : behind ≤ most

abbrev TreeFits : ℕ → Walk Data → Type 0
TreeFits c (walked d e) = IsLawful d × Counts c e (cost d)
TreeFits c (stopped f) = Unit {0}

abbrev ItemsFit : ℕ → Walk (List Data) → Type 0
ItemsFit c (walked ds e) = AreLawful (items_of ds) × Counts c e (items_cost (items_of ds))
ItemsFit c (stopped f) = Unit {0}

-- the trees of these pairs, whose keys stand as they did
record AreTrees (qs : Pairs) (ds : List (List ℕ × Data)) : Type 0 where
  pub leads : (key : List ℕ) → T (entries.below_all key_cmp key qs) → Leads key (pairs_of ds)
  pub rising : T (is_sorted qs) → AreRising (pairs_of ds)
  pub lawful : HaveLawful (pairs_of ds)

abbrev PairsFit : Pairs → ℕ → Walk (List (List ℕ × Data)) → Type 0
PairsFit qs c (walked ds e) = AreTrees qs ds × Counts c e (pairs_cost (pairs_of ds))
PairsFit qs c (stopped f) = Unit {0}

-- what is charged stops or goes on
charged_fits : {A : Type 0} (P : Walk A → Type 0) (c : ℕ) (next : ℕ → Walk A) → P (stopped TooLarge) → (c ≤ most → P (next c)) → P (charged c next)
charged_fits P c next stop go = by (nat_lt most c) refl
  where
    by : (b : Bool) → nat_lt most c ≡ b → P (cond b (stopped TooLarge) (next c))
    by true e = stop
    by false e = go (let le : c ≤ most = grind (arith, nat_tests) in le)

module _ (inside : Walker) (walks : (v : Value) (c : ℕ) → c ≤ most → TreeFits c (inside v c)) where
  item_last : (d : Data) (c c1 : ℕ) (w : Walk (List Data)) → IsLawful d → c1 ≡ (c + 1) + cost d → ItemsFit c1 w → ItemsFit c (w >>= λ ds e. walked (d ∷ ds) e)
  item_last d c c1 (walked ds e) lawful sum h = ((lawful, h.0), record { sum = omega (arith, sum, h.1.sum); within = h.1.within })
  item_last d c c1 (stopped f) lawful sum h = tt

  item_first : (c : ℕ) (w : Walk Data) (rest : ℕ → Walk (List Data)) → TreeFits (c + 1) w → ((e : ℕ) → e ≤ most → ItemsFit e (rest e))
      → ItemsFit c (w >>= λ d e. (rest e >>= λ ds f. walked (d ∷ ds) f))
  item_first c (walked d e) rest h more = item_last d c e (rest e) h.0 h.1.sum (more e h.1.within)
  item_first c (stopped f) rest h more = tt

  items_fit : (vs : List Value) (c : ℕ) → c ≤ most → ItemsFit c (values_walked inside vs c)
  items_fit [] c le = (tt, record { sum = omega arith; within = le })
  items_fit (v ∷ vs) c le =
      item_first c (charged (c + 1) (λ c1. inside v c1)) (values_walked inside vs)
      (charged_fits (TreeFits (c + 1)) (c + 1) (λ c1. inside v c1) tt (walks v (c + 1))) (items_fit vs)

  one_more : (p : List ℕ × Value) (qs : Pairs) (d : Data) (ds : List (List ℕ × Data)) → IsLawful d → AreTrees qs ds → AreTrees (p ∷ qs) ((p.0, d) ∷ ds)
  one_more p qs d ds lawful h = record {
    leads = λ key below. (less (key_cmp key p.0) (first (is_lt (key_cmp key p.0)) _ below), h.leads key (second (is_lt (key_cmp key p.0)) _ below));
    rising = λ sorted. (h.leads p.0 (first (entries.below_all key_cmp p.0 qs) _ sorted), h.rising (second (entries.below_all key_cmp p.0 qs) _ sorted));
    lawful = (lawful, h.lawful);
  }

  pair_last : (p : List ℕ × Value) (qs : Pairs) (d : Data) (c c1 : ℕ) (w : Walk (List (List ℕ × Data))) → IsLawful d → c1 ≡ (c + (1 + length p.0)) + cost d → PairsFit qs c1 w
      → PairsFit (p ∷ qs) c (w >>= λ ds e. walked ((p.0, d) ∷ ds) e)
  pair_last p qs d c c1 (walked ds e) lawful sum h = (one_more p qs d ds lawful h.0, record { sum = omega (arith, sum, h.1.sum); within = h.1.within })
  pair_last p qs d c c1 (stopped f) lawful sum h = tt

  pair_first : (p : List ℕ × Value) (qs : Pairs) (c : ℕ) (w : Walk Data) (rest : ℕ → Walk (List (List ℕ × Data))) → TreeFits (c + (1 + length p.0)) w → ((e : ℕ) → e ≤ most → PairsFit qs e (rest e))
      → PairsFit (p ∷ qs) c (w >>= λ d e. (rest e >>= λ ds f. walked ((p.0, d) ∷ ds) f))
  pair_first p qs c (walked d e) rest h more = pair_last p qs d c e (rest e) h.0 h.1.sum (more e h.1.within)
  pair_first p qs c (stopped f) rest h more = tt

  pairs_fit : (qs : Pairs) (c : ℕ) → c ≤ most → PairsFit qs c (pairs_walked inside qs c)
  pairs_fit [] c le = (record { leads = λ key below. tt; rising = λ sorted. tt; lawful = tt }, record { sum = omega arith; within = le })
  pairs_fit (p ∷ qs) c le =
      pair_first p qs c (charged (c + (1 + length p.0)) (λ c1. inside p.1 c1)) (pairs_walked inside qs)
      (charged_fits (TreeFits (c + (1 + length p.0))) (c + (1 + length p.0)) (λ c1. inside p.1 c1) tt (walks p.1 (c + (1 + length p.0)))) (pairs_fit qs)

  -- an array or dictionary, whose own unit is counted
  list_made : (c : ℕ) (w : Walk (List Data)) → ItemsFit (c + 1) w → TreeFits c (w >>= λ ds e. walked (list (items_of ds)) e)
  list_made c (walked ds e) h = (h.0, record { sum = omega (arith, h.1.sum); within = h.1.within })
  list_made c (stopped f) h = tt

  dict_made : (qs : Pairs) (c : ℕ) (w : Walk (List (List ℕ × Data))) → T (is_sorted qs) → PairsFit qs (c + 1) w → TreeFits c (w >>= λ ds e. walked (pairs_tree (pairs_of ds)) e)
  dict_made qs c (walked ds e) sorted h = ((h.0.rising sorted, h.0.lawful), record { sum = omega (arith, h.1.sum); within = h.1.within })
  dict_made qs c (stopped f) sorted h = tt

  cell_fits : (cell : PlainCell) (c : ℕ) → IsInOrder cell → c + 1 ≤ most → TreeFits c (cell_walked inside cell (c + 1))
  cell_fits (array vs) c ordered le = list_made c (values_walked inside vs (c + 1)) (items_fit vs (c + 1) le)
  cell_fits (dict qs) c ordered le = dict_made qs c (pairs_walked inside qs (c + 1)) ordered (pairs_fit qs (c + 1) le)

abbrev value_or : Data → Result Data TreeFault → Data
value_or d (Ok e) = e
value_or d (Err f) = d

abbrev units_in : Walk Data → ℕ
units_in (walked d c) = c
units_in (stopped f) = 0

abbrev cost_in : Walk Data → ℕ
cost_in (walked d c) = cost d
cost_in (stopped f) = 0

module _ (cells : List PlainCell) (ordered : (k : ℕ) → IsInOrder (cell_at cells k)) where
  stops_or : (b : Bool) (k c : ℕ) (w : Walk Data) → TreeFits c w → TreeFits c (cond b (stopped (Cyclic k)) w)
  stops_or true k c w h = tt
  stops_or false k c w h = h

  value_fits : (inside : List ℕ → Walker) → ((open_cells : List ℕ) (v : Value) (c : ℕ) → c ≤ most → TreeFits c (inside open_cells v c)) → (open_cells : List ℕ) (v : Value) (c : ℕ) → c ≤ most
      → TreeFits c (value_walked inside cells open_cells v c)
  value_fits inside walks open_cells value.Null c le = (tt, record { sum = omega arith; within = le })
  value_fits inside walks open_cells (value.Bool b) c le = (tt, record { sum = omega arith; within = le })
  value_fits inside walks open_cells (value.Number n) c le = (tt, record { sum = omega arith; within = le })
  value_fits inside walks open_cells (value.Str t) c le =
      charged_fits (TreeFits c) (c + length t) (λ c1. walked (string t) c1) tt (λ fit. (tt, record { sum = refl; within = fit }))
  value_fits inside walks open_cells (value.Ref k) c le =
      stops_or (is_open k open_cells) k c (charged (c + 1) (λ c1. cell_walked (inside (k ∷ open_cells)) (cell_at cells k) c1))
      (charged_fits (TreeFits c) (c + 1) (λ c1. cell_walked (inside (k ∷ open_cells)) (cell_at cells k) c1) tt
      (cell_fits (inside (k ∷ open_cells)) (walks (k ∷ open_cells)) (cell_at cells k) c (ordered k)))
  value_fits inside walks open_cells (value.Func k) c le = tt

  walk_fits : (levels : ℕ) (open_cells : List ℕ) (v : Value) (c : ℕ) → c ≤ most → TreeFits c (walk levels cells open_cells v c)
  unfolding walk
  walk_fits zero open_cells v c le = tt
  walk_fits (suc levels) open_cells v c le = value_fits (walk levels cells) (walk_fits levels) open_cells v c le

  counted_cost : (w : Walk Data) (d : Data) (units : ℕ) → TreeFits 0 w → w ≡ walked d units → units ≡ cost d
  counted_cost (walked e c) d units h is = omega (arith, h.1.sum, ap units_in is, ap cost_in is)
  counted_cost (stopped f) d units h is = cc

  -- what is counted is what the tree costs
  pub walk_counts : (v : Value) (d : Data) (units : ℕ) → walk (most + 1) cells [] v 0 ≡ walked d units → units ≡ cost d
  walk_counts v d units is = counted_cost (walk (most + 1) cells [] v 0) d units (walk_fits (most + 1) [] v 0 (omega arith)) is

  outcome_fits : (w : Walk Data) (d : Data) → TreeFits 0 w → outcome w ≡ Ok d → Fits d
  outcome_fits (walked e c) d h is = subst Fits (ap (value_or e) is) (record { lawful = h.0; within = omega (arith, h.1.sum, h.1.within) })
  outcome_fits (stopped f) d h is = cc

  pub tree_fits : (v : Value) (d : Data) → tree_walked cells v ≡ Ok d → Fits d
  tree_fits v d is = outcome_fits (walk (most + 1) cells [] v 0) d (walk_fits (most + 1) [] v 0 (omega arith)) is

-- each cell of a store is in order
ordered_at : (cells functions : ℕ) (cs : List PlainCell) → AllByRecursion (Stands cells functions) cs → (k : ℕ) → IsInOrder (cell_at cs k)
ordered_at cells functions [] a k = tt
ordered_at cells functions (c ∷ cs) a zero = in_order cells functions c a.0
ordered_at cells functions (c ∷ cs) a (suc k) = ordered_at cells functions cs a.1 k

pub store_fits : (frozen live : Contained) (b : ℕ) → IsKept frozen live b → (s : Contents) → shown frozen live b ≡ s → (v : Value) (d : Data) → tree_walked s.cells v ≡ Ok d → Fits d
store_fits frozen live b kept s view v d is =
    tree_fits (frozen.cells ++ live.cells) (ordered_at _ _ (frozen.cells ++ live.cells) kept.whole.cells) v d (ap (λ t. tree_walked t.cells v) view ∙ is)
