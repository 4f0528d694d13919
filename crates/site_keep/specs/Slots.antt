-- The checkables that are restored so far.
use Rattle.std.specs.Prelude.{◌≡◌, ℕ, List, [], length, map, slice_get, Option, Some}
use Rattle.std.specs.Option.{option_map, unwrap_or}
use Rattle.checkable_core.specs.Contents.{Contents}
use Rattle.site_model.specs.PlainSite.{PlainSite, site_view}
use Rattle.site_model.specs.declared.entry.Entry.{Entry}
use Rattle.site_keep.specs.Reading.{Told}

-- the entries of each that is there
abbrev pub told_of : List (Option Contents) → Told
told_of slots = map (option_map (λ book. book.entries)) slots

-- one that isn't there has none
abbrev pub entries_or : Option Contents → List Entry
entries_or slot = unwrap_or (option_map (λ book. book.entries) slot) []

-- it is the checkable of index k
pub record IsOf (s : PlainSite) (k : ℕ) (book : Contents) : Type 0 where
  pub site : site_view book.site ≡ s
  pub index : book.index ≡ k

-- there is a place for each checkable of the site, and each that is there has its own
pub record AreSlots (s : PlainSite) (slots : List (Option Contents)) : Type 0 where
  pub whole : length slots ≡ length s.checkables
  pub each : (k : ℕ) (book : Contents) → slice_get slots k ≡ Some (Some book) → IsOf s k book

-- there is one of each checkable of the site, by index
pub record AreOf (s : PlainSite) (books : List Contents) : Type 0 where
  pub whole : length books ≡ length s.checkables
  pub each : (k : ℕ) (book : Contents) → slice_get books k ≡ Some book → IsOf s k book
