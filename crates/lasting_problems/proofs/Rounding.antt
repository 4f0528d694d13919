-- What is noted after a round.
use Rattle.std.proofs.Common.{◌≡◌, ℕ, zero, suc, ◌+◌, ◌<◌, List, [], ◌∷◌, ◌++◌, length, set, slice_get, Option, Some, refl, sym, ap, ◌∙◌, subst, arith, append_assoc, length-append, length-set}
use Rattle.std.proofs.lemmas.List.{append-nil}
use Rattle.checkable_core.specs.Contents.{Contents, check_at, check_or}
use Rattle.run_meaning.specs.Runs.{joined}
use Rattle.run_meaning.specs.Turns.{Histories, of_index}
use Rattle.site_model.specs.PlainSite.{PlainCheck, PlainSite, site_view}
use Rattle.site_posts.specs.Books.{AreBooks, histories_of}
use Rattle.site_posts.specs.Segments.{segments_from, segments_of}
use Rattle.site_posts.specs.declared.segment.Segment.{Segment}
use Rattle.site_posts.proofs.Behind.{entries_at, joined_at}
use Rattle.lasting_problems.specs.Lasting.{lasting, lasting_from, lasts}
use Rattle.lasting_problems.specs.Noted.{noted}

-- one after the other is noted as this function says
abbrev pub all_noted : (ℕ → Option ℕ) → List Segment → List (Option ℕ) → List (Option ℕ)
all_noted f [] ms = ms
all_noted f (x ∷ xs) ms = all_noted f xs (set ms x.checkable (f x.checkable))

module _ (s : PlainSite) (before after : Histories) where
  abbrev pub now : ℕ → Option ℕ
  now k = lasts (check_at s k) (of_index k after)

  set_behind : {A : Type 0} (front ws : List A) (x y : A) (k : ℕ) → length front ≡ k → set (front ++ x ∷ ws) k y ≡ front ++ y ∷ ws
  set_behind [] ws x y zero h = refl
  set_behind [] ws x y (suc k) h = absurd (omega (arith, h))
  set_behind (z ∷ front) ws x y zero h = absurd (omega (arith, h))
  set_behind (z ∷ front) ws x y (suc k) h = ap (λ xs. z ∷ xs) (set_behind front ws x y k (omega (arith, h)))

  one_longer : {A : Type 0} (front : List A) (w : A) (k : ℕ) → length front ≡ k → length (front ++ w ∷ []) ≡ suc k
  one_longer front w k h = let n = length-append front (w ∷ []) in omega (arith, n, h)

  noted_after : (k : ℕ) (front : List (Option ℕ)) (cs : List PlainCheck) (round : Histories) → length front ≡ k → length round ≡ length cs → ((i : ℕ) → i < length cs → check_at s (k + i) ≡ check_or (slice_get cs i)) → ((i : ℕ) → of_index (k + i) after ≡ of_index (k + i) before ++ of_index i round)
      → all_noted now (segments_from k round) (front ++ lasting_from k cs before) ≡ front ++ lasting_from k cs after
  noted_after k front [] [] h many cs_are is = refl
  noted_after k front [] (es ∷ round) h many cs_are is = absurd (omega (arith, many))
  noted_after k front (c ∷ cs) [] h many cs_are is = absurd (omega (arith, many))
  noted_after k front (c ∷ cs) ([] ∷ round) h many cs_are is =
      let z : k + 0 ≡ k = omega arith in
      let same : of_index k before ≡ of_index k after = sym (append-nil (of_index k before)) ∙ ap (λ n. of_index n before ++ []) (sym z) ∙ sym (is 0) ∙ ap (λ n. of_index n after) z in
      let m = lasts c (of_index k after) in
      ap (λ es. all_noted now (segments_from (suc k) round) (front ++ lasts c es ∷ lasting_from (suc k) cs before)) same
      ∙ ap (all_noted now (segments_from (suc k) round)) (sym (append_assoc front (m ∷ []) (lasting_from (suc k) cs before)))
      ∙ noted_after (suc k) (front ++ m ∷ []) cs round (one_longer front m k h) (omega (arith, many))
      (λ i l. let y : suc k + i ≡ k + suc i = omega arith in ap (check_at s) y ∙ cs_are (suc i) (omega (arith, l)))
      (λ i. let y : suc k + i ≡ k + suc i = omega arith in subst (λ n. of_index n after ≡ of_index n before ++ of_index i round) (sym y) (is (suc i)))
      ∙ append_assoc front (m ∷ []) (lasting_from (suc k) cs after)
  noted_after k front (c ∷ cs) ((e ∷ es) ∷ round) h many cs_are is =
      let z : k + 0 ≡ k = omega arith in
      let mine : check_at s k ≡ c = ap (check_at s) (sym z) ∙ cs_are 0 (omega arith) in
      let m = lasts c (of_index k after) in
      ap (all_noted now (segments_from (suc k) round))
      (set_behind front (lasting_from (suc k) cs before) (lasts c (of_index k before)) (now k) k h ∙ ap (λ d. front ++ lasts d (of_index k after) ∷ lasting_from (suc k) cs before) mine
      ∙ sym (append_assoc front (m ∷ []) (lasting_from (suc k) cs before)))
      ∙ noted_after (suc k) (front ++ m ∷ []) cs round (one_longer front m k h) (omega (arith, many))
      (λ i l. let y : suc k + i ≡ k + suc i = omega arith in ap (check_at s) y ∙ cs_are (suc i) (omega (arith, l)))
      (λ i. let y : suc k + i ≡ k + suc i = omega arith in subst (λ n. of_index n after ≡ of_index n before ++ of_index i round) (sym y) (is (suc i)))
      ∙ append_assoc front (m ∷ []) (lasting_from (suc k) cs after)

pub all_after : (s : PlainSite) (before round : Histories) → length round ≡ length s.checkables → all_noted (now s before (joined before round)) (segments_of round) (lasting s before) ≡ lasting s (joined before round)
all_after s before round many =
    noted_after s before (joined before round) 0 [] s.checkables round refl many (λ i l. let z : 0 + i ≡ i = omega arith in ap (check_at s) z)
    (λ i. let z : i ≡ 0 + i = omega arith in joined_at before round (0 + i) ∙ ap (λ n. of_index (0 + i) before ++ of_index n round) (sym z))

pub many_lasting : (k : ℕ) (cs : List PlainCheck) (h : Histories) → length (lasting_from k cs h) ≡ length cs
many_lasting k [] h = refl
many_lasting k (c ∷ cs) h = ap suc (many_lasting (suc k) cs h)

-- One more is noted.

-- it is noted so far: with those that are left all of it is
pub record IsSoFar (f : ℕ → Option ℕ) (rest : List Segment) (all : List (Option ℕ)) (count : ℕ) (old : List (ℕ × ℕ)) : Type 0 where
  pub moments : List (Option ℕ)
  pub are : old ≡ noted moments
  pub many : length moments ≡ count
  pub on : all_noted f rest moments ≡ all

-- what a book shows is what is noted of its place
pub book_lasts : (s : PlainSite) (now_ : ℕ) (books : List Contents) (k : ℕ) (book : Contents) (h : Histories) → AreBooks s now_ books → slice_get books k ≡ Some book → histories_of books ≡ h
    → lasts (check_at (site_view book.site) book.index) book.entries ≡ lasts (check_at s k) (of_index k h)
book_lasts s now_ books k book h are at is =
    let mine = are.each k book at in
    ap (λ p. lasts (check_at p book.index) book.entries) mine.site
    ∙ ap (λ n. lasts (check_at s n) book.entries) mine.index
    ∙ ap (λ es. lasts (check_at s k) es) (sym (entries_at books k book at) ∙ ap (of_index k) is)

pub one_so_far : (f : ℕ → Option ℕ) (x : Segment) (rest left : List Segment) (all : List (Option ℕ)) (count : ℕ) (old new : List (ℕ × ℕ)) (m : Option ℕ) → left ≡ x ∷ rest → x.checkable < count → m ≡ f x.checkable
    → ((ms : List (Option ℕ)) → x.checkable < length ms → old ≡ noted ms → new ≡ noted (set ms x.checkable m)) → IsSoFar f left all count old → IsSoFar f rest all count new
one_so_far f x rest left all count old new m is within noted_so step so_far = record {
  moments = set so_far.moments x.checkable m;
  are = step so_far.moments (let n = so_far.many in omega (arith, n, within)) so_far.are;
  many = length-set so_far.moments x.checkable m ∙ so_far.many;
  on = ap (λ v. all_noted f rest (set so_far.moments x.checkable v)) noted_so ∙ sym (ap (λ xs. all_noted f xs so_far.moments) is) ∙ so_far.on;
}
