-- The segments of a round tell the round.
use Rattle.std.proofs.Common.{◌≡◌, ◌≤◌, ◌+◌, ℕ, zero, suc, List, [], ◌∷◌, length, refl, sym, ap, ◌∙◌, arith}
use Rattle.run_meaning.specs.Turns.{Histories}
use Rattle.site_model.specs.declared.entry.Entry.{Entry}
use Rattle.site_posts.specs.Segments.{segments_from}
use Rattle.site_posts.specs.declared.segment.Segment.{Segment}

abbrev first_key : ℕ → List Segment → ℕ
first_key k [] = k
first_key k (y ∷ ys) = y.checkable

first_beyond : (k : ℕ) (round : Histories) (x : Segment) (xs : List Segment) → segments_from k round ≡ x ∷ xs → k ≤ x.checkable
first_beyond k [] x xs h = absurd cc
first_beyond k ([] ∷ round) x xs h = let f = first_beyond (suc k) round x xs h in omega (arith, f)
first_beyond k ((e ∷ es) ∷ round) x xs h = let f : k ≡ x.checkable = ap (first_key k) h in omega (arith, f)

abbrev rest_of : List Segment → List Segment
rest_of [] = []
rest_of (x ∷ xs) = xs

abbrev entries_first : List Segment → List Entry
entries_first [] = []
entries_first (x ∷ xs) = x.entries

pub segments_same : (k : ℕ) (r q : Histories) → length r ≡ length q → segments_from k r ≡ segments_from k q → r ≡ q
segments_same k [] [] l h = refl
segments_same k [] (es ∷ q) l h = absurd (omega (arith, l))
segments_same k (es ∷ r) [] l h = absurd (omega (arith, l))
segments_same k ([] ∷ r) ([] ∷ q) l h = ap (λ z. [] ∷ z) (segments_same (suc k) r q (omega (arith, l)) h)
segments_same k ([] ∷ r) ((f ∷ fs) ∷ q) l h = absurd (let b = first_beyond (suc k) r (record { checkable = k; entries = f ∷ fs }) (segments_from (suc k) q) h in omega (arith, b))
segments_same k ((e ∷ es) ∷ r) ([] ∷ q) l h = absurd (let b = first_beyond (suc k) q (record { checkable = k; entries = e ∷ es }) (segments_from (suc k) r) (sym h) in omega (arith, b))
segments_same k ((e ∷ es) ∷ r) ((f ∷ fs) ∷ q) l h =
    ap (λ z. z ∷ r) (ap entries_first h) ∙ ap (λ z. (f ∷ fs) ∷ z) (segments_same (suc k) r q (omega (arith, l)) (ap rest_of h))
