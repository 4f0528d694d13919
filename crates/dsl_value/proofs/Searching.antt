-- A search among sorted pairs that halves what is left.
use Rattle.std.proofs.Common.{◌≡◌, ℕ, ◌+◌, ◌<◌, ◌≤◌, List, length, get_or, [], sym, ap, ◌∙◌, arith, T, Option, Some, None, Bor}
use Rattle.std.specs.Ordering.{ordering_reverse}
use Rattle.std.specs.declared.cmp.Ordering.{Ordering}
use Rattle.std.specs.declared.cmp.Ordering.TheVariants.{Less, Equal, Greater}
use Rattle.std.proofs.lemmas.Cmp.{nat_list_cmp_total}
use Rattle.std.proofs.lemmas.List.{get_or_default}
use Rattle.dsl_value.specs.declared.value.Value.{Value}
use Rattle.dsl_value.specs.declared.value.Value.TheVariants.{Null}
use Rattle.dsl_value.specs.Contents.{PlainCell, dict, pairs_of}
use Rattle.dsl_value.specs.Pairs.{Pairs, key_cmp, key_at, find, is_sorted, IsAt}
use Rattle.dsl_value.specs.Whole.{Names, Stands}
use Rattle.dsl_value.proofs.Found.{cell_stands}
use Rattle.std.specs.Prelude.{IfSome}
use Rattle.dsl_value.proofs.Places.{rises, same_key}

-- lesser keys stand before what is left, and greater ones behind it
pub record IsAround (ps : Pairs) (k : List ℕ) (low high : ℕ) : Type 0 where
  pub rising : low ≤ high
  pub inside : high ≤ length ps
  pub before : (j : ℕ) → j < low → key_cmp k (key_at ps j) ≡ Greater
  pub behind : (j : ℕ) → high ≤ j → j < length ps → key_cmp k (key_at ps j) ≡ Less

turned : (x k : List ℕ) (o : Ordering) → key_cmp x k ≡ o → key_cmp k x ≡ ordering_reverse o
turned x k o e = nat_list_cmp_total.antisymm k x ∙ ap ordering_reverse e

-- how the key at a place compares
pub compared : (ps : Pairs) (k : List ℕ) (m : ℕ) (x : List ℕ × Value) (t : List ℕ) (o : Ordering) → m < length ps → t ≡ (get_or ps m x).0 → key_cmp t k ≡ o → key_cmp (key_at ps m) k ≡ o
compared ps k m x t o inside text e = ap (λ n. key_cmp n k) (sym (text ∙ ap (λ p. p.0) (get_or_default ps m x ([], Null) inside))) ∙ e

module _ (ps : Pairs) (sorted : T (is_sorted ps)) (k : List ℕ) (low m high : ℕ) (around : IsAround ps k low high) (from : low ≤ m) (until : m < high) where
  -- behind a lesser key
  pub after_less : key_cmp (key_at ps m) k ≡ Less → IsAround ps k (m + 1) high
  after_less less = record {
    rising = omega (arith, until);
    inside = around.inside;
    before = λ j lt. grind (arith, λ (before : j < m). turned (key_at ps j) k Less (nat_list_cmp_total.trans (key_at ps j) (key_at ps m) k (rises ps sorted j m before (omega (arith, until, around.inside))) less), λ (same : j ≡ m). turned (key_at ps j) k Less (ap (λ n. key_cmp (key_at ps n) k) same ∙ less));
    behind = around.behind;
  }

  -- before a greater key
  pub before_greater : key_cmp (key_at ps m) k ≡ Greater → IsAround ps k low m
  before_greater greater =
      let less : key_cmp k (key_at ps m) ≡ Less = turned (key_at ps m) k Greater greater in
      record {
        rising = from;
        inside = omega (arith, until, around.inside);
        before = around.before;
        behind = λ j le within. grind (arith, λ (behind : m < j). nat_list_cmp_total.trans k (key_at ps m) (key_at ps j) less (rises ps sorted m j behind within), λ (same : j ≡ m). ap (λ n. key_cmp k (key_at ps n)) same ∙ less);
      }

  -- at an equal key
  pub at_equal : key_cmp (key_at ps m) k ≡ Equal → IsAt ps k m
  at_equal equal =
      let here : key_at ps m ≡ k = same_key _ _ equal in
      record {
        inside = omega (arith, until, around.inside);
        before = λ j lt. turned (key_at ps j) k Less (ap (key_cmp (key_at ps j)) (sym here) ∙ rises ps sorted j m lt (omega (arith, until, around.inside)));
        here = here;
        behind = λ j lt within. ap (λ x. key_cmp x (key_at ps j)) (sym here) ∙ rises ps sorted m j lt within;
      }

-- a value that is found in a cell that is a dictionary
pub found_in_cell : (cells functions : ℕ) (n m : List ℕ) (ps : Pairs) (read cell : PlainCell) (o : Option (Bor Value)) → m ≡ n → dict ps ≡ read → read ≡ cell → Stands cells functions read → IfSome o (λ v. find m ps ≡ Some v.now) → IfSome o (λ v. (find n (pairs_of cell) ≡ Some v.now) × Names cells functions v.now)
found_in_cell cells functions n m ps read cell None named is same stands h = tt
found_in_cell cells functions n m ps read cell (Some v) named is same stands h =
    let here : find n (pairs_of read) ≡ Some v.now = ap (λ c. find n (pairs_of c)) (sym is) ∙ (ap (λ k. find k ps) (sym named) ∙ h) in
    (ap (λ c. find n (pairs_of c)) (sym same) ∙ here, cell_stands cells functions read n v.now stands here)
