-- The books of a round: the checkables of a site with their entries.
use Rattle.std.specs.Prelude.{◌≡◌, ℕ, ◌≤◌, List, length, map, slice_get, Some}
use Rattle.checkable_core.specs.Contents.{Contents}
use Rattle.run_meaning.specs.Dealing.{last_moment}
use Rattle.run_meaning.specs.Turns.{Histories}
use Rattle.site_model.specs.PlainSite.{PlainSite, site_view}

-- the entries of each, by index
abbrev pub histories_of : List Contents → Histories
histories_of books = map (λ k. k.entries) books

-- it is that of the checkable of index k, and has no entry after this moment
pub record IsBook (s : PlainSite) (now k : ℕ) (book : Contents) : Type 0 where
  pub site : site_view book.site ≡ s
  pub index : book.index ≡ k
  pub moment : last_moment book.entries ≤ now

-- there is one of each checkable
pub record AreBooks (s : PlainSite) (now : ℕ) (books : List Contents) : Type 0 where
  pub whole : length books ≡ length s.checkables
  pub each : (k : ℕ) (book : Contents) → slice_get books k ≡ Some book → IsBook s now k book
