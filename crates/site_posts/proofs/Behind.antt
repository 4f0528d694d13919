-- The entries of books, behind those before a round.
use Rattle.std.proofs.Common.{◌≡◌, ℕ, zero, suc, ◌<◌, List, [], ◌∷◌, ◌++◌, length, map, set, slice_get, Some, refl, sym, ap, ◌∙◌, subst, arith, append_assoc}
use Rattle.std.proofs.lemmas.List.{append-nil, length-set}
use Rattle.checkable_core.specs.Contents.{Contents}
use Rattle.checkable_core.specs.Contents as contents
use Rattle.run_meaning.specs.Alone.{with_entry}
use Rattle.run_meaning.specs.Rounds.{behind}
use Rattle.run_meaning.specs.Runs.{joined}
use Rattle.run_meaning.specs.Turns.{Histories, of_index}
use Rattle.site_model.specs.PlainSite.{PlainSite}
use Rattle.site_model.specs.declared.entry.Entry.{Entry}
use Rattle.site_posts.specs.Books.{AreBooks, IsBook, histories_of}

-- One of the books.

pub entries_at : (books : List Contents) (k : ℕ) (book : Contents) → slice_get books k ≡ Some book → of_index k (histories_of books) ≡ book.entries
entries_at [] k book h = absurd cc
entries_at (x ∷ xs) zero book h = let e : x ≡ book = cc in ap (λ (b : Contents). b.entries) e
entries_at (x ∷ xs) (suc k) book h = entries_at xs k book h

pub books_more : (books : List Contents) (k : ℕ) (book : Contents) (e : Entry) → slice_get books k ≡ Some book → histories_of (set books k (contents.with_entry book e)) ≡ with_entry k e (histories_of books)
books_more [] k book e h = absurd cc
books_more (x ∷ xs) zero book e h = let is : x ≡ book = cc in ap (λ (b : Contents). (b.entries ++ e ∷ []) ∷ histories_of xs) (sym is)
books_more (x ∷ xs) (suc k) book e h = ap (λ hs. x.entries ∷ hs) (books_more xs k book e h)

pub books_same : (books : List Contents) (k : ℕ) (book : Contents) → slice_get books k ≡ Some book → set books k book ≡ books
books_same [] k book h = absurd cc
books_same (x ∷ xs) zero book h = let is : x ≡ book = cc in ap (λ b. b ∷ xs) (sym is)
books_same (x ∷ xs) (suc k) book h = ap (λ bs. x ∷ bs) (books_same xs k book h)

each_set : (P : ℕ → Contents → Type 0) (books : List Contents) (k : ℕ) (book : Contents) → ((j : ℕ) (x : Contents) → slice_get books j ≡ Some x → P j x) → P k book → (j : ℕ) (x : Contents) → slice_get (set books k book) j ≡ Some x → P j x
each_set P [] k book all new j x h = absurd cc
each_set P (y ∷ ys) zero book all new zero x h = let e : book ≡ x = cc in subst (P zero) e new
each_set P (y ∷ ys) zero book all new (suc j) x h = all (suc j) x h
each_set P (y ∷ ys) (suc k) book all new zero x h = all zero x h
each_set P (y ∷ ys) (suc k) book all new (suc j) x h = each_set (λ i. P (suc i)) ys k book (λ i. all (suc i)) new j x h

pub still_books : (s : PlainSite) (moment : ℕ) (books : List Contents) (k : ℕ) (book : Contents) → AreBooks s moment books → IsBook s moment k book → AreBooks s moment (set books k book)
still_books s moment books k book are is = record {
  whole = length-set books k book ∙ are.whole;
  each = each_set (IsBook s moment) books k book are.each is;
}

-- Entries behind others.

pub joined_at : (before round : Histories) (k : ℕ) → of_index k (joined before round) ≡ behind before round k
joined_at [] round k = refl
joined_at (es ∷ before) [] k = sym (append-nil (of_index k (es ∷ before)))
joined_at (es ∷ before) (fs ∷ round) zero = refl
joined_at (es ∷ before) (fs ∷ round) (suc k) = joined_at before round k

pub joined_more : (before round : Histories) (k : ℕ) (e : Entry) → k < length round → with_entry k e (joined before round) ≡ joined before (with_entry k e round)
joined_more [] round k e h = refl
joined_more (es ∷ before) [] k e h = absurd (omega (arith, h))
joined_more (es ∷ before) (fs ∷ round) zero e h = ap (λ xs. xs ∷ joined before round) (append_assoc es fs (e ∷ []))
joined_more (es ∷ before) (fs ∷ round) (suc k) e h = ap (λ hs. (es ++ fs) ∷ hs) (joined_more before round k e (omega (arith, h)))

pub joined_nothing : {A : Type 0} (before : Histories) (xs : List A) → length before ≡ length xs → joined before (map (λ _. []) xs) ≡ before
joined_nothing [] [] h = refl
joined_nothing [] (x ∷ xs) h = absurd (omega (arith, h))
joined_nothing (es ∷ before) [] h = refl
joined_nothing (es ∷ before) (x ∷ xs) h =
    ap (λ fs. fs ∷ joined before (map (λ _. []) xs)) (append-nil es) ∙ ap (λ hs. es ∷ hs) (joined_nothing before xs (omega (arith, h)))
