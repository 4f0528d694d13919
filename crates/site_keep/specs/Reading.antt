-- What a state file tells, read step by step.
use Rattle.std.specs.Prelude.{ℕ, ◌==◌, Bool, true, false, List, [], ◌∷◌, ◌++◌, codes, map, slice_get, slice_set, Option, Some, None, if◌then◌else◌}
use Rattle.std.specs.Option.{unwrap_or}
use Rattle.serde_json.specs.Data.{Data, Items, no_items, item}
use Rattle.serde_json.specs.Find.{as_array, as_number, as_str, as_u64}
use Rattle.checkable_core.specs.HistoryTests.{is_history_from}
use Rattle.log_text.specs.EntryReading.{entry_two_read}
use Rattle.log_text.specs.Fronts.{◌>>=◌}
use Rattle.log_text.specs.SiteNames.{PlainNames, names_of}
use Rattle.run_meaning.specs.Turns.{Histories}
use Rattle.site_model.specs.Names.{place_of}
use Rattle.site_model.specs.PlainSite.{PlainSite}
use Rattle.site_model.specs.declared.entry.Entry.{Entry}
use Rattle.site_keep.specs.Shape.{two_members, value_of}

-- Entries.

abbrev pub own : ℕ → ℕ × Entry → Option Entry
own k x = if x.0 == k then Some x.1 else None

-- the entry of this checkable that a line is of, which stands without its newline
abbrev pub line_read : PlainNames → ℕ → List ℕ → Option Entry
line_read names k line = entry_two_read names (line ++ 10 ∷ []) >>= own k

unfoldable pub entry_in : PlainNames → ℕ → Data → Option Entry
entry_in names k d = as_str d >>= line_read names k

abbrev pub before : Entry → List Entry → Option (List Entry)
before e es = Some (e ∷ es)

abbrev pub entries_among : PlainNames → ℕ → Items → Option (List Entry)
entries_among names k no_items = Some []
entries_among names k (item d ds) = entry_in names k d >>= λ e. (entries_among names k ds >>= before e)

unfoldable pub entries_in : PlainNames → ℕ → Data → Option (List Entry)
entries_in names k d = as_array d >>= entries_among names k

-- Checkables.

-- of each checkable, by index, the entries that were told; none if it wasn't named
abbrev pub Told : Type 0
Told = List (Option (List Entry))

-- none is named
abbrev pub none_told : PlainSite → Told
none_told s = map (λ c. None) s.checkables

-- there is a checkable of this index, and it wasn't named
abbrev pub is_untold : Option (Option (List Entry)) → Bool
is_untold None = false
is_untold (Some None) = true
is_untold (Some (Some h)) = false

abbrev pub checked : PlainSite → List Entry → Option (List Entry)
checked s h = if is_history_from s 0 0 h then Some h else None

abbrev pub with_history : Told → ℕ → List Entry → Option Told
with_history told k h = Some (slice_set told k (Some h))

-- with the entries of the checkable of index k
unfoldable pub with_entries : PlainSite → Told → Data → ℕ → Option Told
with_entries s told d k = if is_untold (slice_get told k) then entries_in (names_of s) k d >>= checked s >>= with_history told k else None

-- with this history of the checkable of index k
unfoldable pub with_lawful : PlainSite → Told → ℕ → List Entry → Option Told
with_lawful s told k h = if is_untold (slice_get told k) then checked s h >>= with_history told k else None

abbrev pub with_named : PlainSite → Told → Data → List ℕ → Option Told
with_named s told d name = place_of name s.names >>= with_entries s told d

abbrev pub with_parts : PlainSite → Told → Data × Data → Option Told
with_parts s told x = as_str x.1 >>= with_named s told x.0

-- with one checkable more
unfoldable pub with_one : PlainSite → Told → Data → Option Told
with_one s told d = two_members (codes "entries") (codes "name") d >>= with_parts s told

abbrev pub with_all : PlainSite → Told → Items → Option Told
with_all s told no_items = Some told
with_all s told (item d ds) = with_one s told d >>= λ next. with_all s next ds

-- The state file.

abbrev pub if_first : {A : Type 0} → Option A → ℕ → Option A
if_first x version = if version == 1 then x else None

-- the checkables of version 1
abbrev pub checkables_with : Data × Data → Option Items
checkables_with x = as_number x.1 >>= as_u64 >>= if_first (as_array x.0)

unfoldable pub checkables_in : Data → Option Items
checkables_in d = two_members (codes "checkables") (codes "version") d >>= checkables_with

abbrev pub told_in : PlainSite → Data → Option Told
told_in s d = checkables_in d >>= with_all s (none_told s)

-- the entries that bytes tell, by the checkables of the site
abbrev pub told_read : PlainSite → List ℕ → Option Told
told_read s bytes = value_of bytes >>= told_in s

-- a checkable that wasn't named has no entries
abbrev pub histories_told : Told → Histories
histories_told told = map (λ h. unwrap_or h []) told

abbrev pub histories_of_told : Told → Option Histories
histories_of_told told = Some (histories_told told)

-- the histories that bytes tell, one of each checkable of the site
abbrev pub state_read : PlainSite → List ℕ → Option Histories
state_read s bytes = told_read s bytes >>= histories_of_told
