-- Books that come back, the first one first, and the segments of their posts.
use Rattle.std.proofs.Common.{◌≡◌, ℕ, suc, ◌<◌, List, [], ◌∷◌, ◌++◌, length, map, set, slice_get, Some, sym, ap, ◌∙◌, subst, arith, append_assoc, append-nil}
use Rattle.std.specs.List.{swap_remove}
use Rattle.std.proofs.lemmas.Option.{slice_get_within}
use Rattle.checkable_core.specs.Contents.{Contents}
use Rattle.post_rounds.specs.declared.ended.Ended.{Ended}
use Rattle.site_model.specs.declared.entry.Entry.{Entry}
use Rattle.site_posts.proofs.Booked.{segments_are, segments_with, taken_set}
use Rattle.site_posts.proofs.Rising.{Rise, rise_behind, rises}
use Rattle.site_posts.proofs.Segmenting.{none_from}
use Rattle.site_posts.proofs.TakenOut.{taken_within}
use Rattle.std.proofs.lemmas.List.{length-map}
use Rattle.run_meaning.proofs.Lists.{of_index_nothing}
use Rattle.site_posts.specs.Outlooks.{Ascends}
use Rattle.site_posts.specs.Segments.{segments_from, segments_of}
use Rattle.site_posts.specs.Lent.{AreTaken, round_with, with_books}
use Rattle.site_posts.specs.declared.segment.Segment.{Segment}

-- the books of these checkables are still out, and with the states of these posts there are all
pub record IsBack (ks : List ℕ) (es : List (Ended Contents Entry)) (left final : List Contents) : Type 0 where
  pub now : List Contents
  pub taken : List Contents
  pub out : AreTaken now ks taken left
  pub rest : with_books now ks es ≡ final

back_more : (now : List Contents) (k : ℕ) (ks : List ℕ) (e : Ended Contents Entry) (es : List (Ended Contents Entry)) (b : ℕ) (taken left new final : List Contents) → Rise b (k ∷ ks) → AreTaken now (k ∷ ks) taken left → with_books now (k ∷ ks) (e ∷ es) ≡ final
    → ((all : List Contents) (d : Contents) → k < length all → left ≡ swap_remove all k d → new ≡ set all k e.state) → IsBack ks es new final
back_more now k ks e es b taken left new final rise (first, others, book, t, at, is, left_is) whole put = record {
  now = set now k e.state;
  taken = first;
  out = subst (AreTaken (set now k e.state) ks first) (sym (put others book (slice_get_within others k book at) left_is))
      (taken_set now ks first others k e.state t (λ i j there. rise_behind (suc k) ks rise.1 i j there));
  rest = whole;
}

-- one more is put back
pub one_back : (k : ℕ) (ks : List ℕ) (e : Ended Contents Entry) (es : List (Ended Contents Entry)) (b : ℕ) (left new final : List Contents) → Rise b (k ∷ ks) → IsBack (k ∷ ks) (e ∷ es) left final
    → ((all : List Contents) (d : Contents) → k < length all → left ≡ swap_remove all k d → new ≡ set all k e.state) → IsBack ks es new final
one_back k ks e es b left new final rise so_far put = back_more so_far.now k ks e es b so_far.taken left new final rise so_far.out so_far.rest put

pub all_back : (ks : List ℕ) (es : List (Ended Contents Entry)) (left final : List Contents) → length es ≡ 0 → length ks ≡ 0 → IsBack ks es left final → left ≡ final
all_back [] es left final h n so_far = so_far.out.1 ∙ so_far.rest
all_back (k ∷ ks) es left final h n so_far = absurd (omega (arith, n))

-- Segments.

-- one segment more is told
pub told_more : (k : ℕ) (es : List Entry) (old others new all : List Segment) → old ++ (segments_from k (es ∷ []) ++ others) ≡ all → new ≡ old ++ segments_from k (es ∷ []) → new ++ others ≡ all
told_more k es old others new all so_far more = ap (λ ss. ss ++ others) more ∙ append_assoc old (segments_from k (es ∷ [])) others ∙ so_far

pub told_all : (ks : List ℕ) (es : List (Ended Contents Entry)) (segments all : List Segment) → length ks ≡ 0 → segments ++ segments_with ks es ≡ all → segments ≡ all
told_all [] es segments all h told = sym (append-nil segments) ∙ told
told_all (k ∷ ks) es segments all h told = absurd (omega (arith, h))

pub the_segments : (all taken left : List Contents) (ks : List ℕ) (es : List (Ended Contents Entry)) → Ascends ks → AreTaken all ks taken left → segments_with ks es ≡ segments_of (round_with (map (λ _. []) all) ks es)
the_segments all taken left ks es up t =
    let within : (i k : ℕ) → slice_get ks i ≡ Some k → k < length (map {B = List Entry} (λ _. []) all) = λ i k at. (let l = taken_within all ks taken left t i k at in let n = length-map {B = List Entry} all (λ _. []) in omega (arith, l, n)) in
    sym (segments_are (map (λ _. []) all) 0 ks es (rises ks up) within (λ i l. of_index_nothing all i) ∙ ap (λ ss. ss ++ segments_with ks es) (none_from 0 all))
