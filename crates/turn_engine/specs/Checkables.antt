-- The checkables with which an engine begins.
use Rattle.std.specs.Prelude.{◌≡◌, ℕ, List, length, slice_get, Some}
use Rattle.checkable_core.specs.Contents.{Contents}
use Rattle.run_meaning.specs.Runs.{no_entries}
use Rattle.site_model.specs.PlainSite.{PlainSite, site_view}
use Rattle.site_posts.specs.Books.{histories_of}

-- it is the checkable of index k
pub record IsOf (s : PlainSite) (k : ℕ) (book : Contents) : Type 0 where
  pub site : site_view book.site ≡ s
  pub index : book.index ≡ k

-- there is one of each checkable of the site, by index
pub record AreOf (s : PlainSite) (books : List Contents) : Type 0 where
  pub whole : length books ≡ length s.checkables
  pub each : (k : ℕ) (book : Contents) → slice_get books k ≡ Some book → IsOf s k book

-- and none has entries
pub record AreEmpty (s : PlainSite) (books : List Contents) : Type 0 where
  pub all_of : AreOf s books
  pub none : histories_of books ≡ no_entries s
