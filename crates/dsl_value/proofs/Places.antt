-- What a search finds among sorted pairs, and what an edit at that place does.
use Rattle.std.proofs.Common.{◌≡◌, ℕ, zero, suc, ◌<◌, ◌≤◌, Bool, true, false, cond, not, ◌&&◌, T, List, [], ◌∷◌, length, get_or, set, Some, None, Result, Ok, Err, IfOk, IfErr, refl, sym, ap, subst, ◌∙◌, arith}
use Rattle.std.specs.List.{insert, remove}
use Rattle.std.specs.List.Sorted.{IsSearchInRange, IsBinarySearchResult, IsNonDecreasingBy}
use Rattle.std.specs.Ordering.{match_ordering, ordering_index, ordering_reverse, is_lt, is_eq}
use Rattle.std.specs.Cmp.{tied_itself, alike_right}
use Rattle.std.specs.FinMap.{slice_cmp-IsAntisymmetric, nat_cmp-IsAntisymmetric}
use Rattle.std.specs.FinMap.Entries as entries
use Rattle.std.specs.declared.cmp.Ordering.{Ordering}
use Rattle.std.specs.declared.cmp.Ordering.TheVariants.{Less, Equal, Greater}
use Rattle.std.proofs.lemmas.Cmp.{nat_list_cmp_total}
use Rattle.std.proofs.lemmas.List.{get_or_default}
use Rattle.std.proofs.lemmas.List.Sorted.{IsNonDecreasingBy-from_default}
use Rattle.dsl_value.specs.declared.value.Value.{Value}
use Rattle.dsl_value.specs.declared.value.Value.TheVariants.{Null}
use Rattle.dsl_value.specs.Pairs.{Pairs, key_cmp, is_sorted, find, put, without, key_at, IsAt, IsGapFor}

pub same_key : (a b : List ℕ) → key_cmp a b ≡ Equal → a ≡ b
same_key = slice_cmp-IsAntisymmetric nat_cmp-IsAntisymmetric

first : (a b : Bool) → T (a && b) → T a
first true b p = tt
first false b p = p

second : (a b : Bool) → T (a && b) → T b
second true b p = p
second false b p = absurd p

less : (o : Ordering) → T (is_lt o) → o ≡ Less
less Less p = refl
less Equal p = absurd p
less Greater p = absurd p

at_most : (o : Ordering) → ordering_index o ≤ 2
at_most Less = omega arith
at_most Equal = omega arith
at_most Greater = omega arith

below_at : (k : List ℕ) (ps : Pairs) → T (entries.below_all key_cmp k ps) → (j : ℕ) → j < length ps → key_cmp k (key_at ps j) ≡ Less
below_at k [] h j inside = absurd (omega (arith, inside))
below_at k (p ∷ ps) h zero inside = less _ (first _ _ h)
below_at k (p ∷ ps) h (suc j) inside = below_at k ps (second _ _ h) j (omega (arith, inside))

-- the keys rise
pub rises : (ps : Pairs) → T (is_sorted ps) → (i j : ℕ) → i < j → j < length ps → key_cmp (key_at ps i) (key_at ps j) ≡ Less
rises [] h i j lt inside = absurd (omega (arith, inside))
rises (p ∷ ps) h i zero lt inside = absurd (omega (arith, lt))
rises (p ∷ ps) h zero (suc j) lt inside = below_at p.0 ps (first _ _ h) j (omega (arith, inside))
rises (p ∷ ps) h (suc i) (suc j) lt inside = rises ps (second _ _ h) i j (omega (arith, lt)) (omega (arith, inside))

-- a lesser key compares no higher with k
ranks : (x y k : List ℕ) → key_cmp x y ≡ Less → ordering_index (key_cmp x k) ≤ ordering_index (key_cmp y k)
ranks x y k lt =
    elim (key_cmp y k) as (λ o. key_cmp y k ≡ o → ordering_index (key_cmp x k) ≤ ordering_index o) [
      | Less ↦ λ e. subst (λ o. ordering_index o ≤ 0) (sym (nat_list_cmp_total.trans x y k lt e)) (omega arith)
      | Equal ↦ λ e. subst (λ o. ordering_index o ≤ 1) (sym (sym (alike_right nat_list_cmp_total y k x e) ∙ lt)) (omega arith)
      | Greater ↦ λ e. at_most _
    ] refl

module _ (ps : Pairs) (sorted : T (is_sorted ps)) (k : List ℕ) where
  comparisons_rise : IsNonDecreasingBy (λ p. ordering_index (key_cmp p.0 k)) ps
  comparisons_rise = IsNonDecreasingBy-from_default (λ p. ordering_index (key_cmp p.0 k)) ps ([], Null) step
    where
      step : (i j : ℕ) → i ≤ j → j < length ps → ordering_index (key_cmp (key_at ps i) k) ≤ ordering_index (key_cmp (key_at ps j) k)
      step i j le inside = by_step (rises ps sorted i j)
        where
          by_step : (i < j → j < length ps → key_cmp (key_at ps i) (key_at ps j) ≡ Less) → ordering_index (key_cmp (key_at ps i) k) ≤ ordering_index (key_cmp (key_at ps j) k)
          by_step rise = grind (arith, λ (lt : i < j). ranks (key_at ps i) (key_at ps j) k (rise lt inside), λ (same : i ≡ j). ap (λ n. ordering_index (key_cmp (key_at ps n) k)) same)

  turned : (x : List ℕ) (o : Ordering) → key_cmp x k ≡ o → key_cmp k x ≡ ordering_reverse o
  turned x o e = nat_list_cmp_total.antisymm k x ∙ ap ordering_reverse e

  -- a binary search by key ends at the key, or at the gap for it
  pub searched : (r : Result ℕ ℕ) → IsSearchInRange r (length ps) → IsBinarySearchResult (λ p. key_cmp p.0 k) ps r → record { found : IfOk r (IsAt ps k); absent : IfErr r (IsGapFor ps k) }
  searched (Ok at) inside equal =
      let here : key_at ps at ≡ k = same_key _ _ (equal ([], Null)) in
      record {
        found = record {
          inside = inside;
          before = λ j lt. turned (key_at ps j) Less (ap (key_cmp (key_at ps j)) (sym here) ∙ rises ps sorted j at lt inside);
          here = here;
          behind = λ j lt within. ap (λ x. key_cmp x (key_at ps j)) (sym here) ∙ rises ps sorted at j lt within;
        };
        absent = tt;
      }
  searched (Err at) inside parted = record {
    found = tt;
    absent = record {
      inside = inside;
      before = λ j lt. turned (key_at ps j) Less ((parted comparisons_rise).0 j ([], Null) (omega (arith, inside, lt)) lt);
      behind = λ j le lt. turned (key_at ps j) Greater ((parted comparisons_rise).1 j ([], Null) le lt);
    };
  }

after_first : (p : List ℕ × Value) (ps : Pairs) (k : List ℕ) (i : ℕ) → IsAt (p ∷ ps) k (suc i) → IsAt ps k i
after_first p ps k i at = record {
  inside = omega (arith, at.inside);
  before = λ j lt. at.before (suc j) (omega (arith, lt));
  here = at.here;
  behind = λ j lt within. at.behind (suc j) (omega (arith, lt)) (omega (arith, within));
}

gap_after_first : (p : List ℕ × Value) (ps : Pairs) (k : List ℕ) (i : ℕ) → IsGapFor (p ∷ ps) k (suc i) → IsGapFor ps k i
gap_after_first p ps k i gap = record {
  inside = omega (arith, gap.inside);
  before = λ j lt. gap.before (suc j) (omega (arith, lt));
  behind = λ j le within. gap.behind (suc j) (omega (arith, le)) (omega (arith, within));
}

gap_behind : (p : List ℕ × Value) (ps : Pairs) (k : List ℕ) → IsGapFor (p ∷ ps) k 0 → IsGapFor ps k 0
gap_behind p ps k gap = record {
  inside = omega arith;
  before = λ j lt. absurd (omega (arith, lt));
  behind = λ j le within. gap.behind (suc j) (omega arith) (omega (arith, within));
}

at_itself : (k x : List ℕ) → x ≡ k → key_cmp k x ≡ Equal
at_itself k x e = ap (key_cmp k) e ∙ tied_itself nat_list_cmp_total k

-- a key in a gap isn't there
pub find_in_gap : (ps : Pairs) (k : List ℕ) (i : ℕ) → IsGapFor ps k i → find k ps ≡ None
find_in_gap [] k i gap = refl
find_in_gap (p ∷ ps) k zero gap = ap (λ o. cond (is_eq o) (Some p.1) (find k ps)) (gap.behind 0 (omega arith) (omega arith)) ∙ find_in_gap ps k 0 (gap_behind p ps k gap)
find_in_gap (p ∷ ps) k (suc i) gap = ap (λ o. cond (is_eq o) (Some p.1) (find k ps)) (gap.before 0 (omega arith)) ∙ find_in_gap ps k i (gap_after_first p ps k i gap)

pub find_at : (ps : Pairs) (k : List ℕ) (i : ℕ) (d : List ℕ × Value) → IsAt ps k i → find k ps ≡ Some (get_or ps i d).1
find_at [] k i d at = absurd (omega (arith, at.inside))
find_at (p ∷ ps) k zero d at = ap (λ o. cond (is_eq o) (Some p.1) (find k ps)) (at_itself k p.0 at.here)
find_at (p ∷ ps) k (suc i) d at = ap (λ o. cond (is_eq o) (Some p.1) (find k ps)) (at.before 0 (omega arith)) ∙ find_at ps k i d (after_first p ps k i at)

pub put_at : (ps : Pairs) (k : List ℕ) (v : Value) (i : ℕ) → IsAt ps k i → put k v ps ≡ set ps i (k, v)
put_at [] k v i at = absurd (omega (arith, at.inside))
put_at (p ∷ ps) k v zero at = ap (λ o. match_ordering o ((k, v) ∷ p ∷ ps) ((p.0, v) ∷ ps) (p ∷ put k v ps)) (at_itself k p.0 at.here) ∙ ap (λ x. (x, v) ∷ ps) at.here
put_at (p ∷ ps) k v (suc i) at = ap (λ o. match_ordering o ((k, v) ∷ p ∷ ps) ((p.0, v) ∷ ps) (p ∷ put k v ps)) (at.before 0 (omega arith)) ∙ ap (λ more. p ∷ more) (put_at ps k v i (after_first p ps k i at))

pub put_in_gap : (ps : Pairs) (k : List ℕ) (v : Value) (i : ℕ) → IsGapFor ps k i → put k v ps ≡ insert ps i (k, v)
put_in_gap [] k v zero gap = refl
put_in_gap [] k v (suc i) gap = absurd (omega (arith, gap.inside))
put_in_gap (p ∷ ps) k v zero gap = ap (λ o. match_ordering o ((k, v) ∷ p ∷ ps) ((p.0, v) ∷ ps) (p ∷ put k v ps)) (gap.behind 0 (omega arith) (omega arith))
put_in_gap (p ∷ ps) k v (suc i) gap = ap (λ o. match_ordering o ((k, v) ∷ p ∷ ps) ((p.0, v) ∷ ps) (p ∷ put k v ps)) (gap.before 0 (omega arith)) ∙ ap (λ more. p ∷ more) (put_in_gap ps k v i (gap_after_first p ps k i gap))

pub without_in_gap : (ps : Pairs) (k : List ℕ) (i : ℕ) → IsGapFor ps k i → without k ps ≡ ps
without_in_gap [] k i gap = refl
without_in_gap (p ∷ ps) k zero gap = ap (λ o. cond (not (is_eq o)) (p ∷ without k ps) (without k ps)) (gap.behind 0 (omega arith) (omega arith)) ∙ ap (λ more. p ∷ more) (without_in_gap ps k 0 (gap_behind p ps k gap))
without_in_gap (p ∷ ps) k (suc i) gap = ap (λ o. cond (not (is_eq o)) (p ∷ without k ps) (without k ps)) (gap.before 0 (omega arith)) ∙ ap (λ more. p ∷ more) (without_in_gap ps k i (gap_after_first p ps k i gap))

pub without_at : (ps : Pairs) (k : List ℕ) (i : ℕ) → IsAt ps k i → without k ps ≡ remove ps i
without_at [] k i at = absurd (omega (arith, at.inside))
without_at (p ∷ ps) k zero at = ap (λ o. cond (not (is_eq o)) (p ∷ without k ps) (without k ps)) (at_itself k p.0 at.here) ∙ without_in_gap ps k 0 (record { inside = omega arith; before = λ j lt. absurd (omega (arith, lt)); behind = λ j le within. at.behind (suc j) (omega arith) (omega (arith, within)) })
without_at (p ∷ ps) k (suc i) at = ap (λ o. cond (not (is_eq o)) (p ∷ without k ps) (without k ps)) (at.before 0 (omega arith)) ∙ ap (λ more. p ∷ more) (without_at ps k i (after_first p ps k i at))

-- the same by the word of finite maps
pub put_entry : (k : List ℕ) (v : Value) (ps : Pairs) → entries.put key_cmp k v ps ≡ put k v ps
put_entry k v [] = refl
put_entry k v (p ∷ ps) =
    elim (key_cmp k p.0) as (λ o. entries.by_order o ((k, v) ∷ p ∷ ps) ((p.0, v) ∷ ps) (p ∷ entries.put key_cmp k v ps) ≡ match_ordering o ((k, v) ∷ p ∷ ps) ((p.0, v) ∷ ps) (p ∷ put k v ps)) [
      | Less ↦ refl
      | Equal ↦ refl
      | Greater ↦ ap (λ more. p ∷ more) (put_entry k v ps)
    ]

pub sorted_put : (k : List ℕ) (v : Value) (ps : Pairs) → T (is_sorted ps) → T (is_sorted (put k v ps))
sorted_put k v ps h = subst (λ qs. T (is_sorted qs)) (put_entry k v ps) (entries.is_sorted-put key_cmp nat_list_cmp_total k v ps h)

-- a key that is there
pub put_in_place : (ps : Pairs) (n m : List ℕ) (v : Value) (i : ℕ) (x : List ℕ × Value) (qs : Pairs) → IsAt qs m i → qs ≡ ps → m ≡ n → x ≡ get_or ps i x → set ps i (x.0, v) ≡ put n v ps
put_in_place ps n m v i x qs at same named here =
    let there : IsAt ps n i = subst (λ k. IsAt ps k i) named (subst (λ rs. IsAt rs m i) same at) in
    let key : x.0 ≡ n = ap (λ p. p.0) (here ∙ get_or_default ps i x ([], Null) there.inside) ∙ there.here in
    ap (λ k. set ps i (k, v)) key ∙ sym (put_at ps n v i there)
