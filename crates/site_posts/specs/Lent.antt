-- How books are lent to posts, and come back.
use Rattle.std.specs.Prelude.{◌≡◌, ℕ, List, [], ◌∷◌, ◌++◌, set, slice_get, Some}
use Rattle.std.specs.List.{swap_remove}
use Rattle.checkable_core.specs.Contents.{Contents}
use Rattle.post_rounds.specs.declared.ended.Ended.{Ended}
use Rattle.run_meaning.specs.Turns.{Histories}
use Rattle.site_model.specs.declared.entry.Entry.{Entry}

-- the books of these checkables are taken out, the last one first, and these are left: the last book that is left fills each place
abbrev pub AreTaken : List Contents → List ℕ → List Contents → List Contents → Type 0
AreTaken books [] taken left = (taken ≡ []) × (left ≡ books)
AreTaken books (k ∷ ks) taken left =
    (first : List Contents) × (rest : List Contents) × (book : Contents) × AreTaken books ks first rest × (slice_get rest k ≡ Some book) × (taken ≡ first ++ book ∷ []) × (left ≡ swap_remove rest k book)

-- with the states of these posts in their places
abbrev pub with_books : List Contents → List ℕ → List (Ended Contents Entry) → List Contents
with_books books [] ended = books
with_books books (k ∷ ks) [] = books
with_books books (k ∷ ks) (e ∷ ended) = with_books (set books k e.state) ks ended

-- with the histories of these posts in their places
abbrev pub round_with : Histories → List ℕ → List (Ended Contents Entry) → Histories
round_with round [] ended = round
round_with round (k ∷ ks) [] = round
round_with round (k ∷ ks) (e ∷ ended) = round_with (set round k e.history) ks ended
