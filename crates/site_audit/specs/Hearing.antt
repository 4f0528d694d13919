-- What all entries of a block tell.
use Rattle.std.specs.Prelude.{ℕ, nat_lt, List, [], ◌∷◌, ◌++◌, length, get_or, Option, Some, None, if◌then◌else◌}
use Rattle.log_text.specs.Fronts.{◌>>=◌}
use Rattle.site_audit.specs.Spots.{spots_of}
use Rattle.site_audit.specs.Telling.{after_entry, event_said}
use Rattle.site_audit.specs.declared.block.EntryLine.{EntryLine}
use Rattle.site_audit.specs.declared.hearing.Heard.{Heard}
use Rattle.site_audit.specs.declared.telling.Open.{Open}
use Rattle.site_audit.specs.declared.telling.Said.{Said}

-- with what one entry more says, and where it stands
abbrev pub hearing : Heard → EntryLine → Said → Heard
hearing h x s = record { said = h.said ++ s ∷ []; spots = h.spots ++ spots_of (length h.said) x s }

abbrev pub heard_with : Heard → EntryLine → Option Said → Option Heard
heard_with h x None = None
heard_with h x (Some s) = Some (hearing h x s)

-- an entry tells nothing that could have been if its caller is none of so many
abbrev pub entry_said : ℕ → List (List ℕ) → List (Option Open) → EntryLine → Option Said
entry_said callers names os x =
    if nat_lt x.entry.caller callers then event_said (get_or names x.checkable []) (get_or os x.checkable None) x.entry.event else None

abbrev pub one_heard : ℕ → List (List ℕ) → List (Option Open) → Heard → EntryLine → Option Heard
one_heard callers names os h x = heard_with h x (entry_said callers names os x)

-- what all entries say, one after another
abbrev pub entries_heard : ℕ → List (List ℕ) → List (Option Open) → List EntryLine → Heard → Option Heard
entries_heard callers names os [] h = Some h
entries_heard callers names os (x ∷ xs) h = one_heard callers names os h x >>= entries_heard callers names (after_entry os x) xs
