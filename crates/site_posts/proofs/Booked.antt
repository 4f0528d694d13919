-- What stands in books that have come back, and which segments a round has.
use Rattle.std.proofs.Common.{◌≡◌, ℕ, zero, suc, ◌+◌, ◌<◌, ◌≤◌, List, [], ◌∷◌, ◌++◌, length, set, slice_get, Some, refl, sym, ap, ◌∙◌, arith, append_assoc, append-nil}
use Rattle.std.proofs.lemmas.List.{length-set, map-set}
use Rattle.std.proofs.lemmas.Option.{slice_get_within}
use Rattle.checkable_core.specs.Contents.{Contents}
use Rattle.post_rounds.proofs.Held.{get_set_other}
use Rattle.post_rounds.specs.declared.ended.Ended.{Ended}
use Rattle.run_meaning.specs.Runs.{joined}
use Rattle.run_meaning.specs.Turns.{Histories, of_index}
use Rattle.site_model.specs.PlainSite.{PlainSite}
use Rattle.site_model.specs.declared.entry.Entry.{Entry}
use Rattle.site_posts.proofs.Behind.{still_books}
use Rattle.site_posts.proofs.Returning.{removed_set}
use Rattle.site_posts.proofs.Rising.{Rise}
use Rattle.site_posts.specs.Books.{AreBooks, IsBook, histories_of}
use Rattle.site_posts.specs.Lent.{AreTaken, round_with, with_books}
use Rattle.site_posts.specs.Segments.{segments_from, segments_of}
use Rattle.site_posts.specs.declared.segment.Segment.{Segment}

-- Books that are out.

abbrev pub AreBehind : ℕ → List ℕ → Type 0
AreBehind k ks = (i j : ℕ) → slice_get ks i ≡ Some j → k < j

-- another book comes ahead of all that are out
pub taken_set : (all : List Contents) (ks : List ℕ) (taken left : List Contents) (k : ℕ) (x : Contents) → AreTaken all ks taken left → AreBehind k ks → AreTaken (set all k x) ks taken (set left k x)
taken_set all [] taken left k x t behind = (t.0, ap (λ l. set l k x) t.1)
taken_set all (j ∷ ks) taken left k x (first, rest, book, t, at, is, left_is) behind =
    let ahead = behind 0 j refl in (
      first,
      set rest k x,
      book,
      taken_set all ks first rest k x t (λ i. behind (suc i)),
      get_set_other rest k j x (λ e. omega (arith, e, ahead)) ∙ at,
      is,
      ap (λ l. set l k x) left_is ∙ removed_set rest j (slice_get_within rest j book at) book x k ahead,
    )

-- Segments.

-- the segments of these posts
abbrev pub segments_with : List ℕ → List (Ended Contents Entry) → List Segment
segments_with [] es = []
segments_with (k ∷ ks) [] = []
segments_with (k ∷ ks) (e ∷ es) = segments_from k (e.history ∷ []) ++ segments_with ks es

abbrev pub AreEmpty : ℕ → Histories → Type 0
AreEmpty b r = (i : ℕ) → b ≤ i → of_index i r ≡ []

nothing_from : (j : ℕ) (r : Histories) → ((i : ℕ) → of_index i r ≡ []) → segments_from j r ≡ []
nothing_from j [] none = refl
nothing_from j ([] ∷ r) none = nothing_from (suc j) r (λ i. none (suc i))
nothing_from j ((e ∷ es) ∷ r) none = absurd (let n = none 0 in cc)

first_segment : (j k : ℕ) (h : List Entry) (r : Histories) → j ≡ k → segments_from (suc j) r ≡ [] → segments_from j (h ∷ r) ≡ segments_from k (h ∷ [])
first_segment j k [] r e none = none
first_segment j k (x ∷ h) r e none = (λ z. record { checkable = e z; entries = x ∷ h } ∷ none z)

segments_set : (r : Histories) (k j n : ℕ) (h : List Entry) → n ≡ j + k → k < length r → AreEmpty k r → segments_from j (set r k h) ≡ segments_from j r ++ segments_from n (h ∷ [])
segments_set [] k j n h at l none = absurd (omega (arith, l))
segments_set ([] ∷ r) zero j n h at l none = first_segment j n h r (omega (arith, at)) (nothing_from (suc j) r (λ i. none (suc i) (omega arith)))
    ∙ ap (λ ss. ss ++ segments_from n (h ∷ [])) (sym (nothing_from (suc j) r (λ i. none (suc i) (omega arith))))
segments_set ((e ∷ es) ∷ r) zero j n h at l none = absurd (let z = none 0 (omega arith) in cc)
segments_set ([] ∷ r) (suc k) j n h at l none = segments_set r k (suc j) n h (omega (arith, at)) (omega (arith, l)) (λ i m. none (suc i) (omega (arith, m)))
segments_set ((e ∷ es) ∷ r) (suc k) j n h at l none = ap (λ ss. record { checkable = j; entries = e ∷ es } ∷ ss) (segments_set r k (suc j) n h (omega (arith, at)) (omega (arith, l)) (λ i m. none (suc i) (omega (arith, m))))

of_index_else : (r : Histories) (k i : ℕ) (h : List Entry) → k < i → of_index i (set r k h) ≡ of_index i r
of_index_else [] k i h l = refl
of_index_else (x ∷ r) zero zero h l = absurd (omega (arith, l))
of_index_else (x ∷ r) zero (suc i) h l = refl
of_index_else (x ∷ r) (suc k) zero h l = absurd (omega (arith, l))
of_index_else (x ∷ r) (suc k) (suc i) h l = of_index_else r k i h (omega (arith, l))

-- the segments of a round are those of its posts
pub segments_are : (r : Histories) (b : ℕ) (ks : List ℕ) (es : List (Ended Contents Entry)) → Rise b ks → ((i k : ℕ) → slice_get ks i ≡ Some k → k < length r) → AreEmpty b r → segments_of (round_with r ks es) ≡ segments_of r ++ segments_with ks es
segments_are r b [] es up l none = sym (append-nil (segments_of r))
segments_are r b (k ∷ ks) [] up l none = sym (append-nil (segments_of r))
segments_are r b (k ∷ ks) (e ∷ es) up l none =
    let here : AreEmpty k r = λ i m. none i (let n = up.0 in omega (arith, n, m)) in
    segments_are (set r k e.history) (suc k) ks es up.1
    (λ i j at. let n = l (suc i) j at in let s = length-set r k e.history in omega (arith, n, s))
    (λ i m. of_index_else r k i e.history (omega (arith, m)) ∙ here i (omega (arith, m)))
    ∙ ap (λ ss. ss ++ segments_with ks es) (segments_set r k 0 k e.history (omega arith) (l 0 k refl) here)
    ∙ append_assoc (segments_of r) (segments_from k (e.history ∷ [])) (segments_with ks es)

-- What stands in the books.

joined_set : (before r : Histories) (k : ℕ) (h : List Entry) → length r ≡ length before → set (joined before r) k (of_index k before ++ h) ≡ joined before (set r k h)
joined_set [] [] k h e = refl
joined_set [] (x ∷ r) k h e = absurd (omega (arith, e))
joined_set (y ∷ before) [] k h e = absurd (omega (arith, e))
joined_set (y ∷ before) (x ∷ r) zero h e = refl
joined_set (y ∷ before) (x ∷ r) (suc k) h e = ap (λ hs. (y ++ x) ∷ hs) (joined_set before r k h (omega (arith, e)))

pub histories_back : (before : Histories) (books : List Contents) (r : Histories) (ks : List ℕ) (es : List (Ended Contents Entry)) → histories_of books ≡ joined before r → length r ≡ length before
    → ((p k : ℕ) (e : Ended Contents Entry) → slice_get ks p ≡ Some k → slice_get es p ≡ Some e → e.state.entries ≡ of_index k before ++ e.history)
    → histories_of (with_books books ks es) ≡ joined before (round_with r ks es)
histories_back before books r [] es is l each = is
histories_back before books r (k ∷ ks) [] is l each = is
histories_back before books r (k ∷ ks) (e ∷ es) is l each =
    histories_back before (set books k e.state) (set r k e.history) ks es
    (map-set (λ (c : Contents). c.entries) books k e.state
    ∙ (λ z. set (is z) k (each 0 k e refl refl z)) ∙ joined_set before r k e.history l)
    (length-set r k e.history ∙ l)
    (λ p. each (suc p))

pub books_back : (s : PlainSite) (moment : ℕ) (books : List Contents) (ks : List ℕ) (es : List (Ended Contents Entry)) → AreBooks s moment books
    → ((p k : ℕ) (e : Ended Contents Entry) → slice_get ks p ≡ Some k → slice_get es p ≡ Some e → IsBook s moment k e.state)
    → AreBooks s moment (with_books books ks es)
books_back s moment books [] es are each = are
books_back s moment books (k ∷ ks) [] are each = are
books_back s moment books (k ∷ ks) (e ∷ es) are each = books_back s moment (set books k e.state) ks es (still_books s moment books k e.state are (each 0 k e refl refl)) (λ p. each (suc p))
