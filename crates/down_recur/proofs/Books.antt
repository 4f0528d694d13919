-- The entries of a book, by its index.
use Rattle.std.proofs.Common.{◌≡◌, ℕ, zero, suc, ◌<◌, ◌≤◌, List, [], ◌∷◌, length, get_or, slice_get, Some, refl, arith}
use Rattle.checkable_core.specs.Contents.{Contents}
use Rattle.run_meaning.specs.Turns.{of_index}
use Rattle.site_posts.specs.Books.{histories_of}

pub book_at : (k : ℕ) (books : List Contents) (d : Contents) → k < length books → slice_get books k ≡ Some (get_or books k d)
book_at k [] d h = absurd (omega arith)
book_at zero (b ∷ bs) d h = refl
book_at (suc k) (b ∷ bs) d h = book_at k bs d (omega arith)

pub behind_all : (k : ℕ) (books : List Contents) → length books ≤ k → of_index k (histories_of books) ≡ []
behind_all k [] h = refl
behind_all zero (b ∷ bs) h = absurd (omega arith)
behind_all (suc k) (b ∷ bs) h = behind_all k bs (omega arith)
