-- Which bytes are a state file of a site, and of which histories.
use Rattle.std.specs.Prelude.{◌≡◌, ◌≢◌, ℕ, List, [], ◌∷◌, ◌++◌, Contains, Some, All, length, map, slice_get}
use Rattle.std.specs.Str.{IsUtf8}
use Rattle.serde_json.specs.Read.{read}
use Rattle.checkable_core.specs.Histories.{IsHistory}
use Rattle.log_text.specs.EntryReading.{entry_two_read}
use Rattle.log_text.specs.SiteNames.{names_of}
use Rattle.run_meaning.specs.Turns.{Histories}
use Rattle.site_model.specs.PlainSite.{PlainSite}
use Rattle.site_model.specs.Sound.{AreDistinct}
use Rattle.site_model.specs.declared.entry.Entry.{Entry}
use Rattle.site_keep.specs.Shape.{Saved, state_data}

-- with their newlines, these lines of version two are those of these entries of the checkable of index k
abbrev pub AreLinesOf : PlainSite → ℕ → List (List ℕ) → List Entry → Type 0
AreLinesOf s k lines h = map (λ line. entry_two_read (names_of s) (line ++ 10 ∷ [])) lines ≡ map (λ e. Some (k, e)) h

-- what is told of a checkable are the lines of its entries
abbrev pub HasLines : PlainSite → Histories → Saved → Type 0
HasLines s hs x = (k : ℕ) (h : List Entry) → slice_get s.names k ≡ Some x.name → slice_get hs k ≡ Some h → AreLinesOf s k x.lines h

-- the bytes are a JSON text of the state file's shape; no name stands twice, and each is one of the site's; and these are histories of
-- the checkables, by index: each that is named has the entries of its lines, and one that isn't named has none
pub record IsState (s : PlainSite) (bytes : List ℕ) (hs : Histories) : Type 0 where
  pub told : List Saved
  pub text : IsUtf8 bytes
  pub shape : read bytes ≡ Some (state_data told)
  pub once : AreDistinct (map (λ x. x.name) told)
  pub own : All (λ x. Contains s.names x.name) told
  pub whole : length hs ≡ length s.checkables
  pub lawful : All (IsHistory s) hs
  pub named : All (HasLines s hs) told
  pub unnamed : (k : ℕ) (name : List ℕ) → slice_get s.names k ≡ Some name → All (λ x. x.name ≢ name) told → slice_get hs k ≡ Some []
