-- The state file of a site's histories.
use Rattle.std.specs.Prelude.{◌≡◌, ℕ, suc, ◌-◌, List, [], ◌∷◌, ◌++◌, length, map, take, slice_get, Some, All}
use Rattle.serde_json.specs.Written.{compact_text}
use Rattle.log_text.specs.EntryTwo.{entry_line_two, FitsEntry}
use Rattle.run_meaning.specs.Turns.{Histories}
use Rattle.site_model.specs.PlainSite.{PlainCheck, PlainSite}
use Rattle.site_model.specs.declared.entry.Entry.{Entry}
use Rattle.site_text.specs.Entries.{IsPrintable}
use Rattle.checkable_core.specs.Histories.{IsHistory}
use Rattle.site_keep.specs.Shape.{Saved, state_data}

-- the line of version two of an entry, without its newline
unfoldable pub saved_line : PlainSite → ℕ → Entry → List ℕ
saved_line s k e = take (length (entry_line_two s k e) - 1) (entry_line_two s k e)

abbrev pub saved : PlainSite → ℕ → PlainCheck → List Entry → Saved
saved s k c h = record { name = c.name; lines = map (saved_line s k) h }

-- each checkable with its entries, from index k on
abbrev pub saved_from : PlainSite → ℕ → List PlainCheck → Histories → List Saved
saved_from s k [] hs = []
saved_from s k (c ∷ cs) [] = []
saved_from s k (c ∷ cs) (h ∷ hs) = saved s k c h ∷ saved_from s (suc k) cs hs

-- the lines of the entries of each checkable, from index k on
abbrev pub lines_from : PlainSite → ℕ → Histories → List (List (List ℕ))
lines_from s k [] = []
lines_from s k (h ∷ hs) = map (saved_line s k) h ∷ lines_from s (suc k) hs

abbrev pub lines_of : PlainSite → Histories → List (List (List ℕ))
lines_of s hs = lines_from s 0 hs

-- the compact JSON text, and a newline
unfoldable pub state_file : PlainSite → Histories → List ℕ
state_file s hs = compact_text (state_data (saved_from s 0 s.checkables hs)) ++ 10 ∷ []

-- there is a history of each checkable, by index, and each of its entries can be printed
pub record ArePrintable (s : PlainSite) (hs : Histories) : Type 0 where
  pub whole : length hs ≡ length s.checkables
  pub each : (k : ℕ) (h : List Entry) → slice_get hs k ≡ Some h → All (IsPrintable s k) h

-- and its entries make it again
pub record AreKept (s : PlainSite) (hs : Histories) : Type 0 where
  pub printable : ArePrintable s hs
  pub fitting : All (All FitsEntry) hs
  pub lawful : All (IsHistory s) hs
