-- A pair is put in at the gap for its key.
use Rattle.std.proofs.Common.{◌≡◌, ℕ, suc, zero, ◌<◌, List, [], ◌∷◌, length, slice_index_or, slice_set, true, false, cond, refl, sym, ap, ◌∙◌, arith}
use Rattle.std.specs.List.{insert}
use Rattle.std.specs.Ordering.{is_gt}
use Rattle.std.specs.Str.{bytes_eq}
use Rattle.std.specs.declared.cmp.Ordering.{Ordering}
use Rattle.std.specs.declared.cmp.Ordering.TheVariants.{Less, Equal, Greater}
use Rattle.site_base.specs.Data.{pair}
use Rattle.site_base.specs.View.{view, pairs_view}
use Rattle.site_base.specs.declared.tree.Tree.{Tree}
use Rattle.dsl_value.specs.Pairs.{key_cmp}
use Rattle.commit_meaning.specs.Groups.{put_by, with_pair}
use Rattle.group_growth.specs.Adding.{gap_for}
use Rattle.group_growth.proofs.Keys.{even, level}

abbrev pub Rows : Type 0
Rows = List (List ℕ × Tree)

abbrev gap_by : Ordering → ℕ → ℕ
gap_by o n = cond (is_gt o) (suc n) 0

-- where a pair with the key stands, it is replaced
pub put_here : (k : List ℕ) (t : Tree) (d : List ℕ × Tree) (ps : Rows) → gap_for k ps < length ps → bytes_eq (slice_index_or ps (gap_for k ps) d).0 k ≡ true
    → pairs_view (slice_set ps (gap_for k ps) (k, t)) ≡ with_pair k (view t) (pairs_view ps)
put_here k t d [] inside h = absurd (omega (arith, inside))
put_here k t d (p ∷ ps) inside h = by (put_here k t d ps) (key_cmp k p.0) refl inside h
  where
    by : (gap_for k ps < length ps → bytes_eq (slice_index_or ps (gap_for k ps) d).0 k ≡ true → pairs_view (slice_set ps (gap_for k ps) (k, t)) ≡ with_pair k (view t) (pairs_view ps)) → (o : Ordering) → key_cmp k p.0 ≡ o → gap_by o (gap_for k ps) < suc (length ps) → bytes_eq (slice_index_or (p ∷ ps) (gap_by o (gap_for k ps)) d).0 k ≡ true
        → pairs_view (slice_set (p ∷ ps) (gap_by o (gap_for k ps)) (k, t)) ≡ put_by o k (view t) p.0 (view p.1) (pairs_view ps) (with_pair k (view t) (pairs_view ps))
    by rest Less e i q = let bad : Equal ≡ Less = sym (level p.0 k q) ∙ e in absurd cc
    by rest Equal e i q = refl
    by rest Greater e i q = ap (pair p.0 (view p.1)) (rest (omega (arith, i)) q)

-- else it goes into the gap
pub put_between : (k : List ℕ) (t : Tree) (d : List ℕ × Tree) (ps : Rows) → (gap_for k ps < length ps → bytes_eq (slice_index_or ps (gap_for k ps) d).0 k ≡ false)
    → pairs_view (insert ps (gap_for k ps) (k, t)) ≡ with_pair k (view t) (pairs_view ps)
put_between k t d [] h = refl
put_between k t d (p ∷ ps) h = by (put_between k t d ps) (key_cmp k p.0) refl h
  where
    by : ((gap_for k ps < length ps → bytes_eq (slice_index_or ps (gap_for k ps) d).0 k ≡ false) → pairs_view (insert ps (gap_for k ps) (k, t)) ≡ with_pair k (view t) (pairs_view ps)) → (o : Ordering) → key_cmp k p.0 ≡ o → (gap_by o (gap_for k ps) < suc (length ps) → bytes_eq (slice_index_or (p ∷ ps) (gap_by o (gap_for k ps)) d).0 k ≡ false)
        → pairs_view (insert (p ∷ ps) (gap_by o (gap_for k ps)) (k, t)) ≡ put_by o k (view t) p.0 (view p.1) (pairs_view ps) (with_pair k (view t) (pairs_view ps))
    by rest Less e q = refl
    by rest Equal e q = let bad : true ≡ false = sym (even k p.0 e) ∙ q (omega arith) in absurd cc
    by rest Greater e q = ap (pair p.0 (view p.1)) (rest (λ i. q (omega (arith, i))))

-- an element inside a list is the same by whatever it would be outside
pub same_at : (ps : Rows) (i : ℕ) (d e : List ℕ × Tree) → i < length ps → slice_index_or ps i d ≡ slice_index_or ps i e
same_at [] i d e h = absurd (omega (arith, h))
same_at (p ∷ ps) zero d e h = refl
same_at (p ∷ ps) (suc i) d e h = same_at ps i d e (omega (arith, h))
