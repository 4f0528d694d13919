-- Rounds whose events are taken in the order that a log tells.
use Rattle.std.specs.Prelude.{◌≡◌, ◌<◌, ◌≤◌, ◌+◌, ◌*◌, ◌^◌, ℕ, suc, List, [], ◌∷◌, ◌++◌, length, map, nat_eq, slice_get, take, Option, Some, None, if◌then◌else◌}
use Rattle.site_model.specs.declared.entry.Entry.{Entry}
use Rattle.run_meaning.specs.Acts.{Rules}
use Rattle.run_meaning.specs.Rounds.{entries_by, events_on}
use Rattle.run_meaning.specs.Turns.{Asked, Histories, from_on, of_index}
use Rattle.site_audit.specs.Spots.{kind_of, spots_of}
use Rattle.audit_laws.specs.Types.{EntryLine, Said, Spot}

-- the entries of a round as the lines of its block have them: by checkable from this index on, and by number
abbrev pub lines_from : ℕ → Histories → List EntryLine
lines_from k [] = []
lines_from k (es ∷ ess) = map (λ e. record { checkable = k; entry = e }) es ++ lines_from (suc k) ess

-- the event of an entry
abbrev pub asked_in : EntryLine → Asked
asked_in x = record { checkable = x.checkable; event = x.entry.event }

-- the events of the entries at these places that one caller made
abbrev pub with_event : ℕ → Option EntryLine → List Asked → List Asked
with_event caller None events = events
with_event caller (Some x) events = if nat_eq x.entry.caller caller then asked_in x ∷ events else events

abbrev pub events_by : List EntryLine → ℕ → List ℕ → List Asked
events_by xs caller [] = []
events_by xs caller (k ∷ ks) = with_event caller (slice_get xs k) (events_by xs caller ks)

-- of each of so many callers
abbrev pub all_events : List EntryLine → ℕ → List ℕ → List (List Asked)
all_events xs callers order = map (λ caller. events_by xs caller order) (from_on 0 callers)

-- the spots of all of these entries, of which the first is the thing of this number, if they say this
abbrev pub spots_from : ℕ → List EntryLine → List Said → List Spot
spots_from k [] ss = []
spots_from k (x ∷ xs) [] = []
spots_from k (x ∷ xs) (s ∷ ss) = spots_of k x s ++ spots_from (suc k) xs ss

-- histories that tracks have room for
pub record HaveRoom (callers : ℕ) (histories : ℕ → List Entry) (checkables : ℕ) : Type 0 where
  pub callers_fit : callers ≤ 64
  pub checkables_fit : checkables ≤ 2 ^ 32
  pub entries_fit : (c : ℕ) → length (histories c) < 2 ^ 64

-- a checkable depends on others of the site, on each once, and not on itself
pub record AreOthers (r : Rules) : Type 0 where
  pub inside : (c i p : ℕ) → slice_get (r.ancestors c) i ≡ Some p → p < length r.site.checkables
  pub once : (c i j p : ℕ) → slice_get (r.ancestors c) i ≡ Some p → slice_get (r.ancestors c) j ≡ Some p → i ≡ j
  pub other : (c i : ℕ) → slice_get (r.ancestors c) i ≡ Some c → ⊥

-- the entry at this place is the one that its caller's event of this index made
pub record IsEventOf (xs : List EntryLine) (events : List (List Asked)) (round : Histories) (t : ℕ) (x : EntryLine) (index : ℕ) : Type 0 where
  pub at : slice_get xs t ≡ Some x
  pub asked : slice_get (of_index x.entry.caller events) index ≡ Some (asked_in x)
  pub made : slice_get (entries_by x.entry.caller (of_index x.checkable round)) (length (events_on x.checkable (take index (of_index x.entry.caller events)))) ≡ Some x.entry

-- along a caller's events lines come first, then reports, and then ticks, as the entries say
pub record AreInKinds (xs : List EntryLine) (events : List (List Asked)) (round : Histories) (said : List Said) : Type 0 where
  pub fit : (t : ℕ) (x : EntryLine) (s : Said) → slice_get xs t ≡ Some x → slice_get said t ≡ Some s → kind_of x.checkable s < 2 ^ 66
  pub rise : (t u i j : ℕ) (x y : EntryLine) (s r : Said)
      → IsEventOf xs events round t x i → IsEventOf xs events round u y j → x.entry.caller ≡ y.entry.caller
      → slice_get said t ≡ Some s → slice_get said u ≡ Some r → i ≤ j → kind_of x.checkable s ≤ kind_of y.checkable r

-- of what is taken in this order the entries of one caller stand before those of the next, and of one caller by their kinds
abbrev pub GoesByKinds : List EntryLine → List Said → List ℕ → Type 0
GoesByKinds xs said order =
    (i j a b : ℕ) (x y : EntryLine) (s r : Said)
    → slice_get order i ≡ Some a → slice_get order j ≡ Some b → slice_get xs a ≡ Some x → slice_get xs b ≡ Some y
    → slice_get said a ≡ Some s → slice_get said b ≡ Some r
    → x.entry.caller * 2 ^ 66 + kind_of x.checkable s < y.entry.caller * 2 ^ 66 + kind_of y.checkable r
    → y.entry.caller * 2 ^ 66 + kind_of y.checkable r < 2 ^ 80 → i < j
