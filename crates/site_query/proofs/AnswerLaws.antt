-- Answers, one checkable after another.
use Rattle.std.proofs.Common.{◌≡◌, ℕ, zero, suc, ◌+◌, ◌-◌, ◌<◌, ◌≤◌, ◌&&◌, nat_lt, Bool, true, false, cond, List, [], ◌∷◌, ◌++◌, length, map, take, drop, get_or, slice_get, refl, sym, ap, ap₂, ◌∙◌, subst, append_assoc, append-nil, arith, Some}
use Rattle.std.proofs.lemmas.Bool.Decides.{nat_tests}
use Rattle.std.proofs.lemmas.List.{drop_all, length-map}
use Rattle.std.proofs.lemmas.Option.{slice_get-get_or}
use Rattle.std.specs.List.{flat_map}
use Rattle.checkable_core.specs.Contents.{Contents, check_at}
use Rattle.checkable_core.proofs.Listed.{spec_is}
use Rattle.run_meaning.specs.Dealing.{last_moment}
use Rattle.run_meaning.specs.Turns.{Histories}
use Rattle.site_model.specs.PlainSite.{PlainCheck, PlainSite, check_view, site_view}
use Rattle.site_model.specs.declared.check_spec.CheckSpec.{CheckSpec}
use Rattle.site_model.specs.declared.site.Site.{Site}
use Rattle.site_posts.specs.Books.{AreBooks, histories_of}
use Rattle.site_query.specs.Answers.{is_asked, is_told, asked_of, first_of, row_text, all_shown}
use Rattle.site_query.specs.Shown.{PlainShown, shown}
use Rattle.site_query.specs.declared.column.Column.{Column}
use Rattle.site_query.specs.declared.query.Query.{Query}

-- the lines of so many
abbrev pub rows_of : List Column → ℕ → List PlainShown → List ℕ
rows_of cs left ss = flat_map (row_text cs) (take left ss)

one_line : (cs : List Column) (left : ℕ) (s : PlainShown) (ss : List PlainShown) → 0 < left → rows_of cs left (s ∷ ss) ≡ row_text cs s ++ rows_of cs (left - 1) ss
one_line cs zero s ss h = absurd (omega arith)
one_line cs (suc n) s ss h = let less : suc n - 1 ≡ n = omega arith in ap (λ k. row_text cs s ++ rows_of cs k ss) (sym less)

-- the lines so far, with those of the rest, are the whole
abbrev pub IsSoFar : Query → List Column → List PlainShown → List ℕ → ℕ → ℕ → List ℕ → Type 0
IsSoFar q cs all whole i left out = out ++ rows_of cs left (asked_of q (drop i all)) ≡ whole

-- the same behind one checkable more
module _ (q : Query) (cs : List Column) (all : List PlainShown) (whole : List ℕ) (i : ℕ) (s : PlainShown) (at : drop i all ≡ s ∷ drop (suc i) all) where
  behind : drop (i + 1) all ≡ drop (suc i) all
  behind = let more : i + 1 ≡ suc i = omega arith in ap (λ n. drop n all) more

  -- of those that are asked for
  asked_now : (t : Bool) → is_asked q s ≡ t → asked_of q (drop i all) ≡ cond t (s ∷ asked_of q (drop (i + 1) all)) (asked_of q (drop (i + 1) all))
  asked_now t e =
      ap (asked_of q) at
      ∙ (ap (λ u. cond u (s ∷ asked_of q (drop (suc i) all)) (asked_of q (drop (suc i) all))) e
      ∙ ap (λ ss. cond t (s ∷ asked_of q ss) (asked_of q ss)) (sym behind))

  told_more : (left : ℕ) (out : List ℕ) → 0 < left → is_asked q s ≡ true → IsSoFar q cs all whole i left out → IsSoFar q cs all whole (i + 1) (left - 1) (out ++ row_text cs s)
  told_more left out some asked e =
      append_assoc out (row_text cs s) (rows_of cs (left - 1) (asked_of q (drop (i + 1) all)))
      ∙ (ap (λ xs. out ++ xs) (sym (ap (rows_of cs left) (asked_now true asked) ∙ one_line cs left s (asked_of q (drop (i + 1) all)) some)) ∙ e)

  told_past : (left : ℕ) (out : List ℕ) → is_asked q s ≡ false → IsSoFar q cs all whole i left out → IsSoFar q cs all whole (i + 1) left out
  told_past left out passed e = ap (λ xs. out ++ xs) (ap (rows_of cs left) (sym (asked_now false passed))) ∙ e

  -- whether it is told of or not
  told_next : (left : ℕ) (out : List ℕ) → IsSoFar q cs all whole i left out
      → IsSoFar q cs all whole (i + 1) (cond (is_told q left s) (left - 1) left) (cond (is_told q left s) (out ++ row_text cs s) out)
  told_next zero out e = e
  told_next (suc n) out e = by (is_asked q s) refl
    where
      Next : Bool → Type 0
      Next t = IsSoFar q cs all whole (i + 1) (cond t (suc n - 1) (suc n)) (cond t (out ++ row_text cs s) out)

      test : (t : Bool) → is_asked q s ≡ t → is_told q (suc n) s ≡ t
      test t h = let some : nat_lt 0 (suc n) ≡ true = grind (arith, nat_tests) in ap (λ u. u && is_asked q s) some ∙ h

      by : (t : Bool) → is_asked q s ≡ t → Next (is_told q (suc n) s)
      by true h = subst Next (sym (test true h)) (told_more (suc n) out (omega arith) h e)
      by false h = subst Next (sym (test false h)) (told_past (suc n) out h e)

  -- by what a call made of it
  pub told_so : (x : PlainShown) → x ≡ s → (left less : ℕ) (out new : List ℕ) → new ≡ cond (is_told q left x) (out ++ row_text cs x) out → less ≡ cond (is_told q left x) (left - 1) left
      → IsSoFar q cs all whole i left out → IsSoFar q cs all whole (i + 1) less new
  told_so x is left less out new made fewer e =
      ap₂ (λ xs n. xs ++ rows_of cs n (asked_of q (drop (i + 1) all))) (made ∙ ap (λ y. cond (is_told q left y) (out ++ row_text cs y) out) is) (fewer ∙ ap (λ y. cond (is_told q left y) (left - 1) left) is)
      ∙ told_next left out e

-- What checkables show.
pub all_at : (xs : List CheckSpec) (ks : List Contents) (i m : ℕ) (x : CheckSpec) (k : Contents) → i < length xs → i < length ks → x ≡ get_or xs i x → k ≡ get_or ks i k
    → drop i (all_shown (map check_view xs) (histories_of ks) m) ≡ shown (check_view x) k.entries m ∷ drop (suc i) (all_shown (map check_view xs) (histories_of ks) m)
all_at [] ks i m x k h g xe ke = absurd (omega arith)
all_at (y ∷ xs) [] i m x k h g xe ke = absurd (omega arith)
all_at (y ∷ xs) (l ∷ ks) zero m x k h g xe ke =
    ap₂ (λ c e. shown (check_view c) e m ∷ all_shown (map check_view xs) (histories_of ks) m) (sym xe) (ap (λ (b : Contents). b.entries) (sym ke))
all_at (y ∷ xs) (l ∷ ks) (suc i) m x k h g xe ke = all_at xs ks i m x k (omega arith) (omega arith) xe ke

-- Limits.
asked_few : (q : Query) (ss : List PlainShown) → length (asked_of q ss) ≤ length ss
asked_few q [] = omega arith
asked_few q (s ∷ ss) = by (is_asked q s) refl (asked_few q ss)
  where
    by : (t : Bool) → is_asked q s ≡ t → length (asked_of q ss) ≤ length ss → length (asked_of q (s ∷ ss)) ≤ length (s ∷ ss)
    by true e h = omega (arith, h, ap length (ap (λ t. cond t (s ∷ asked_of q ss) (asked_of q ss)) e))
    by false e h = omega (arith, h, ap length (ap (λ t. cond t (s ∷ asked_of q ss) (asked_of q ss)) e))

shown_few : (cs : List PlainCheck) (hs : Histories) (m : ℕ) → length (all_shown cs hs m) ≤ length hs
shown_few [] hs m = omega arith
shown_few (c ∷ cs) [] m = omega arith
shown_few (c ∷ cs) (h ∷ hs) m = omega (arith, shown_few cs hs m)

take_none : (n : ℕ) → take {A = PlainShown} n [] ≡ []
take_none zero = refl
take_none (suc n) = refl

-- before the first and behind the last
pub begin_all : (q : Query) (cs : List Column) (all : List PlainShown) (count left : ℕ) (out : List ℕ) → out ≡ [] → ((ss : List PlainShown) → length ss ≤ count → first_of q.limit ss ≡ take left ss) → length all ≤ count
    → out ++ rows_of cs left (asked_of q all) ≡ flat_map (row_text cs) (first_of q.limit (asked_of q all))
begin_all q cs all count left out e most few =
    ap (λ xs. xs ++ rows_of cs left (asked_of q all)) e
    ∙ ap (flat_map (row_text cs)) (sym (most (asked_of q all) (omega (arith, asked_few q all, few))))

pub end_all : (q : Query) (cs : List Column) (left i : ℕ) (all : List PlainShown) (out whole : List ℕ) → length all ≤ i → out ++ rows_of cs left (asked_of q (drop i all)) ≡ whole → out ≡ whole
end_all q cs left i all out whole few e =
    sym (append-nil out)
    ∙ (ap (λ xs. out ++ xs) (sym (ap (λ ss. rows_of cs left (asked_of q ss)) (drop_all i all few) ∙ ap (flat_map (row_text cs)) (take_none left)))
    ∙ e)

pub shown_within : (cs : List PlainCheck) (ks : List Contents) (m : ℕ) → length (all_shown cs (histories_of ks) m) ≤ length ks
shown_within cs ks m = omega (arith, shown_few cs (histories_of ks) m, length-map ks (λ (k : Contents). k.entries))

-- The books of a site.
pub as_many : (site : Site) (cs : List CheckSpec) (books : List Contents) (now : ℕ) → AreBooks (site_view site) now books → cs ≡ site.checkables → length cs ≡ length books
as_many site cs books now are own = omega (arith, are.whole, length-map site.checkables check_view, ap length own)

book_at : (books : List Contents) (i : ℕ) (book : Contents) → i < length books → book ≡ get_or books i book → slice_get books i ≡ Some book
book_at books i book within is = slice_get-get_or books i book within ∙ ap Some (sym is)

pub book_spec : (site : Site) (cs : List CheckSpec) (books : List Contents) (now i : ℕ) (spec : CheckSpec) (book : Contents) → AreBooks (site_view site) now books → cs ≡ site.checkables → i < length books → spec ≡ get_or cs i spec → book ≡ get_or books i book
    → check_at (site_view book.site) book.index ≡ check_view spec
book_spec site cs books now i spec book are own within spec_at at =
    let mine = are.each i book (book_at books i book within at) in
    let few : i < length site.checkables = omega (arith, within, as_many site cs books now are own, ap length own) in
    ap (λ s. check_at s book.index) mine.site
    ∙ (ap (check_at (site_view site)) mine.index
    ∙ (sym (spec_is site.checkables i spec few)
    ∙ sym (ap check_view spec_at ∙ ap (λ (xs : List CheckSpec). check_view (get_or xs i spec)) own)))

pub book_moment : (s : PlainSite) (books : List Contents) (now i : ℕ) (book : Contents) → AreBooks s now books → i < length books → book ≡ get_or books i book → last_moment book.entries ≤ now
book_moment s books now i book are within at = (are.each i book (book_at books i book within at)).moment
