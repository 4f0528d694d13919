-- What a reader passes of the tokens of a state file, and what is told by it.
use Rattle.std.specs.Prelude.{◌≡◌, ℕ, ◌==◌, ◌<◌, Bool, true, List, [], ◌∷◌, ◌++◌, codes, length, Option, Some, None}
use Rattle.json.specs.Token as token
use Rattle.json.specs.Token.{Token}
use Rattle.serde_json.specs.Data.{array}
use Rattle.log_text.specs.EntryReading.{entry_two_read}
use Rattle.log_text.specs.SiteNames.{PlainNames}
use Rattle.site_model.specs.Names.{place_of}
use Rattle.site_model.specs.PlainSite.{PlainSite}
use Rattle.site_model.specs.declared.entry.Entry.{Entry}
use Rattle.site_keep.specs.Reading.{Told, entries_among, none_told, with_all, with_one}
use Rattle.site_keep.specs.Shape.{Saved, line_items, saved_data, saved_items, state_data}
use Rattle.site_keep.specs.Writing.{tokens_of}

-- entries whose checkable is this one, if there are any, can be those of the checkable of index k
abbrev pub may_be : Option ℕ → ℕ → Bool
may_be None k = true
may_be (Some place) k = place == k

abbrev pub MayBe : Option ℕ → ℕ → Type 0
MayBe place k = may_be place k ≡ true

-- the line of an entry, which is added to earlier ones of the same checkable
pub record PassesLine (names : PlainNames) (before : Option ℕ) (front : List Entry) (after : Option ℕ) (all : List Entry) (old new : List Token) : Type 0 where
  pub line : List ℕ
  pub place : ℕ
  pub entry : Entry
  pub tokens : old ≡ token.string line ∷ new
  pub read : entry_two_read names (line ++ 10 ∷ []) ≡ Some (place, entry)
  pub same : MayBe before place
  pub known : after ≡ Some place
  pub added : all ≡ front ++ entry ∷ []

-- the lines of the entries of one checkable, in an array
pub record PassesLines (names : PlainNames) (place : Option ℕ) (entries : List Entry) (old new : List Token) : Type 0 where
  pub lines : List (List ℕ)
  pub tokens : old ≡ tokens_of (array (line_items lines)) ++ new
  pub read : (k : ℕ) → MayBe place k → entries_among names k (line_items lines) ≡ Some entries

-- the name of the checkable of this index, with which its object ends
pub record PassesName (s : PlainSite) (place : ℕ) (old new : List Token) : Type 0 where
  pub name : List ℕ
  pub tokens : old ≡ token.key (codes "name") ∷ token.string name ∷ token.end_object ∷ new
  pub found : place_of name s.names ≡ Some place
  pub within : place < length s.names

-- a checkable, with which next is told
pub record PassesCheckable (s : PlainSite) (told next : Told) (old new : List Token) : Type 0 where
  pub one : Saved
  pub tokens : old ≡ tokens_of (saved_data one) ++ new
  pub tells : with_one s told (saved_data one) ≡ Some next

-- checkables, in an array
pub record PassesCheckables (s : PlainSite) (next : Told) (old new : List Token) : Type 0 where
  pub all : List Saved
  pub tokens : old ≡ tokens_of (array (saved_items all)) ++ new
  pub tells : with_all s (none_told s) (saved_items all) ≡ Some next

-- the whole text
pub record PassesFile (s : PlainSite) (next : Told) (old : List Token) : Type 0 where
  pub all : List Saved
  pub tokens : old ≡ tokens_of (state_data all)
  pub tells : with_all s (none_told s) (saved_items all) ≡ Some next
