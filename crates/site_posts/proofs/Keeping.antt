-- The entries of a round by checkable, and the segments that they are.
use Rattle.std.proofs.Common.{◌≡◌, ◌≢◌, ◌⊎◌, ℕ, zero, suc, ◌+◌, ◌-◌, ◌<◌, List, [], ◌∷◌, ◌++◌, length, set, get_or, slice_get, Some, inl, inr, refl, sym, ap, ◌∙◌, subst, arith, append-nil}
use Rattle.std.proofs.lemmas.Bool.{cases_order}
use Rattle.std.proofs.lemmas.Option.{same_Some, slice_get_within}
use Rattle.run_meaning.proofs.Lists.{with_entry_other, with_entry_same, length-with_entry}
use Rattle.run_meaning.specs.Alone.{with_entry}
use Rattle.run_meaning.specs.Turns.{Histories, of_index}
use Rattle.site_model.specs.declared.entry.Entry.{Entry}
use Rattle.site_posts.proofs.Rising.{Rise, rise_behind, rises}
use Rattle.site_posts.proofs.Tracing.{AreApart, ascending_apart}
use Rattle.site_posts.specs.Outlooks.{Ascends, IsNoneOf}
use Rattle.site_posts.specs.Progress.{AreKept}
use Rattle.site_posts.specs.Segments.{segments_from, segments_of}
use Rattle.site_posts.specs.declared.segment.Segment.{Segment}

-- One entry more.

row_at : (rows : Histories) (p : ℕ) (d : List Entry) → p < length rows → get_or rows p d ≡ of_index p rows
row_at [] p d l = absurd (omega (arith, l))
row_at (r ∷ rows) zero d l = refl
row_at (r ∷ rows) (suc p) d l = row_at rows p d (omega (arith, l))

set_more : (rows : Histories) (p : ℕ) (e : Entry) → set rows p (of_index p rows ++ e ∷ []) ≡ with_entry p e rows
set_more [] p e = refl
set_more (r ∷ rows) zero e = refl
set_more (r ∷ rows) (suc p) e = ap (λ rs. r ∷ rs) (set_more rows p e)

module _ (ks : List ℕ) (rows round : Histories) (apart : AreApart ks) (kept : AreKept ks rows round) (p k : ℕ) (e : Entry) (at : slice_get ks p ≡ Some k) (within : k < length round) where
  in_rows : p < length rows
  in_rows = let l = slice_get_within ks p k at in let n = kept.whole in omega (arith, l, n)

  each_more : (q j : ℕ) → slice_get ks q ≡ Some j → of_index q (with_entry p e rows) ≡ of_index j (with_entry k e round)
  each_more q j there = by (cases_order p q)
    where
      apart_from : p ≢ q → of_index q (with_entry p e rows) ≡ of_index j (with_entry k e round)
      apart_from other = with_entry_other p q e rows other ∙ kept.each q j there ∙ sym (with_entry_other k j e round (λ same. other (apart p q j (at ∙ ap Some same) there)))

      by : (p ≡ q) ⊎ ((p < q) ⊎ (q < p)) → of_index q (with_entry p e rows) ≡ of_index j (with_entry k e round)
      by (inl same) =
          let one : k ≡ j = same_Some k j (sym at ∙ ap (slice_get ks) same ∙ there) in
          ap (λ n. of_index n (with_entry p e rows)) (sym same) ∙ with_entry_same p e rows in_rows ∙ ap (λ es. es ++ e ∷ []) (kept.each p k at)
          ∙ sym (with_entry_same k e round within) ∙ ap (λ n. of_index n (with_entry k e round)) one
      by (inr (inl lt)) = apart_from (λ same. omega (arith, lt, same))
      by (inr (inr lt)) = apart_from (λ same. omega (arith, lt, same))

  more : AreKept ks (with_entry p e rows) (with_entry k e round)
  more = record {
    whole = length-with_entry p e rows ∙ kept.whole;
    each = each_more;
    others = λ j none. with_entry_other k j e round (none p k at) ∙ kept.others j none;
  }

-- an entry of the checkable at this place comes after those that it has
pub kept_more : (ks : List ℕ) (rows round new : Histories) (p k : ℕ) (e : Entry) (old later : List Entry) → Ascends ks → slice_get ks p ≡ Some k → old ≡ get_or rows p old → later ≡ old ++ e ∷ [] → new ≡ set rows p later
    → k < length round → AreKept ks rows round → AreKept ks new (with_entry k e round)
kept_more ks rows round new p k e old later up at there grown is within kept =
    let apart = ascending_apart ks up in
    let l = in_rows ks rows round apart kept p k e at within in
    subst (λ rs. AreKept ks rs (with_entry k e round)) (sym (is ∙ ap (set rows p) (grown ∙ ap (λ es. es ++ e ∷ []) (there ∙ row_at rows p old l)) ∙ set_more rows p e)) (more ks rows round apart kept p k e at within)

-- an empty list more
pub none_more : (rows : Histories) → ((p : ℕ) → of_index p rows ≡ []) → (p : ℕ) → of_index p (rows ++ [] ∷ []) ≡ []
none_more [] none zero = refl
none_more [] none (suc p) = refl
none_more (r ∷ rows) none zero = none 0
none_more (r ∷ rows) none (suc p) = none_more rows (λ q. none (suc q)) p

-- Segments.

-- the segments of these lists, at their checkables
abbrev pub kept_with : List ℕ → Histories → List Segment
kept_with [] rows = []
kept_with (k ∷ ks) [] = []
kept_with (k ∷ ks) (es ∷ rows) = segments_from k (es ∷ []) ++ kept_with ks rows

nothing_kept : (ks : List ℕ) (rows : Histories) → ((p k : ℕ) → slice_get ks p ≡ Some k → of_index p rows ≡ []) → kept_with ks rows ≡ []
nothing_kept [] rows none = refl
nothing_kept (k ∷ ks) [] none = refl
nothing_kept (k ∷ ks) (es ∷ rows) none = ap (λ xs. segments_from k (xs ∷ []) ++ kept_with ks rows) (none 0 k refl) ∙ nothing_kept ks rows (λ p. none (suc p))

first_told : (j : ℕ) (es : List Entry) (round : Histories) → segments_from j (es ∷ round) ≡ segments_from j (es ∷ []) ++ segments_from (suc j) round
first_told j [] round = refl
first_told j (e ∷ es) round = refl

-- lists that are those of a round, whose first list is that of this checkable, have its segments
abbrev AreTold : ℕ → Histories → Type 0
AreTold j round = (ks : List ℕ) (rows : Histories) → Rise j ks → length rows ≡ length ks → ((p i k : ℕ) → slice_get ks p ≡ Some k → k ≡ j + i → of_index p rows ≡ of_index i round) → ((i : ℕ) → IsNoneOf (j + i) ks → of_index i round ≡ []) → kept_with ks rows ≡ segments_from j round

told_more : (j : ℕ) (es : List Entry) (round : Histories) → AreTold (suc j) round → AreTold j (es ∷ round)
told_more j es round next [] rows rise whole each others =
    next [] rows rise whole (λ p i k at. absurd cc) (λ i none. others (suc i) (λ q m at. absurd cc))
    ∙ sym (ap (λ xs. segments_from j (xs ∷ round)) (others 0 (λ q m at. absurd cc)))
told_more j es round next (k ∷ ks) [] rise whole each others = absurd (omega (arith, whole))
told_more j es round next (k ∷ ks) (r ∷ rows) rise whole each others = by (cases_order j k)
  where
    further : j < k → kept_with (k ∷ ks) (r ∷ rows) ≡ segments_from j (es ∷ round)
    further lt =
        let up : Rise (suc j) (k ∷ ks) = (omega (arith, lt), rise.1) in
        next (k ∷ ks) (r ∷ rows) up whole (λ p i m at is. each p (suc i) m at (omega (arith, is))) (λ i none. others (suc i) (λ q m at same. none q m at (omega (arith, same))))
        ∙ sym (ap (λ xs. segments_from j (xs ∷ round)) (others 0 (λ q m at same. let low = rise_behind (suc j) (k ∷ ks) up q m at in omega (arith, low, same))))

    none_later : (i : ℕ) → j ≡ k → IsNoneOf (suc j + i) ks → IsNoneOf (j + suc i) (k ∷ ks)
    none_later i here none zero m at same = let is = same_Some k m at in omega (arith, here, is, same)
    none_later i here none (suc q) m at same = none q m at (omega (arith, same))

    by : (j ≡ k) ⊎ ((j < k) ⊎ (k < j)) → kept_with (k ∷ ks) (r ∷ rows) ≡ segments_from j (es ∷ round)
    by (inl here) =
        ap (λ n. segments_from n (r ∷ []) ++ kept_with ks rows) (sym here)
        ∙ ap (λ xs. segments_from j (xs ∷ []) ++ kept_with ks rows) (each 0 0 k refl (omega (arith, here)))
        ∙ ap (λ ss. segments_from j (es ∷ []) ++ ss)
        (next ks rows (subst (λ n. Rise (suc n) ks) (sym here) rise.1) (omega (arith, whole)) (λ p i m at is. each (suc p) (suc i) m at (omega (arith, is))) (λ i none. others (suc i) (none_later i here none)))
        ∙ sym (first_told j es round)
    by (inr (inl lt)) = further lt
    by (inr (inr lt)) = let low = rise.0 in absurd (omega (arith, low, lt))

told_from : (round : Histories) (j : ℕ) → AreTold j round
told_from [] j ks rows rise whole each others = nothing_kept ks rows (λ p k at. let low = rise_behind j ks rise p k at in each p (k - j) k at (omega (arith, low)))
told_from (es ∷ round) j ks rows rise whole each others = told_more j es round (told_from round (suc j)) ks rows rise whole each others

-- what is kept is the segments of the round
pub kept_are : (ks : List ℕ) (rows round : Histories) → Ascends ks → AreKept ks rows round → kept_with ks rows ≡ segments_of round
kept_are ks rows round up kept =
    told_from round 0 ks rows (rises ks up) kept.whole (λ p i k at is. let same : k ≡ i = omega (arith, is) in kept.each p k at ∙ ap (λ n. of_index n round) same) (λ i none. kept.others i (λ q m at same. none q m at (omega (arith, same))))

pub all_told : (ks : List ℕ) (rows : Histories) (segments all : List Segment) → length ks ≡ 0 → segments ++ kept_with ks rows ≡ all → segments ≡ all
all_told [] rows segments all none told = sym (append-nil segments) ∙ told
all_told (k ∷ ks) rows segments all none told = absurd (omega (arith, none))
