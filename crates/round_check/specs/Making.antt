-- The round that is told of: its entries are made one after another, by who took an event and how far it saw.
use Rattle.std.specs.Prelude.{◌≡◌, ℕ, suc, ◌&&◌, nat_eq, nat_le, Bool, List, [], ◌∷◌, ◌++◌, length, map, filter, drop, slice_get, Option, Some, None, if◌then◌else◌}
use Rattle.std.specs.List.{list_all}
use Rattle.std.specs.Str.{bytes_eq}
use Rattle.site_model.specs.PlainSite.{PlainCheck}
use Rattle.site_model.specs.declared.entry.Entry.{Entry}
use Rattle.site_model.specs.declared.event.Event.{Event}
use Rattle.site_model.specs.declared.sight.Sight.{Sight}
use Rattle.run_meaning.specs.Turns.{Asked, Histories, of_index}
use Rattle.run_meaning.specs.Acts.{Rules, entry_of}
use Rattle.run_meaning.specs.Rounds.{behind, entries_by, events_on, all_seen}
use Rattle.run_meaning.specs.Alone.{with_entry}
use Rattle.round_check.specs.declared.told.Told.{Told}

-- what is told of an entry of the checkable of index c
abbrev pub told_of : ℕ → Entry → Told
told_of c e = record { checkable = c; caller = e.caller; sights = e.sights }

-- what is told of the entries of a round, from this checkable on, by checkable and number
abbrev pub told_from : ℕ → Histories → List Told
told_from k [] = []
told_from k (es ∷ round) = map (told_of k) es ++ told_from (suc k) round

abbrev pub told_in : Histories → List Told
told_in round = told_from 0 round

-- what is told of one checkable
abbrev pub told_on : ℕ → List Told → List Told
told_on c ts = filter (λ t. nat_eq t.checkable c) ts

-- none that stands in such an order is told of before all of those are on which its checkable depends
abbrev pub AreParentsFirst : (ℕ → List ℕ) → List Told → Type 0
AreParentsFirst ancestors order = (i j p : ℕ) (t : Told) → slice_get order i ≡ Some t → slice_get (ancestors t.checkable) j ≡ Some p → told_on p (drop i order) ≡ []

-- the same is told, checkable by checkable
abbrev pub TellAlike : List Told → List Told → Type 0
TellAlike ts us = (c : ℕ) → told_on c ts ≡ told_on c us

-- the next event of a caller on a checkable
abbrev pub event_for : List (List Asked) → Histories → Told → Option Event
event_for events round t = slice_get (events_on t.checkable (of_index t.caller events)) (length (entries_by t.caller (of_index t.checkable round)))

-- a sight of what stands, and of no less than stood before the round
abbrev pub is_sight : Histories → Histories → Sight → Bool
is_sight before round x = nat_le (length (of_index x.checkable before)) x.count && nat_le x.count (length (behind before round x.checkable))

abbrev pub are_sights : Rules → Histories → Histories → Told → Bool
are_sights r before round t = bytes_eq (map (λ x. x.checkable) t.sights) (r.ancestors t.checkable) && list_all (is_sight before round) t.sights

-- the entry that an event makes of what stands, where so much was seen
abbrev pub entry_told : Rules → ℕ → Histories → Histories → Told → PlainCheck → Event → Entry
entry_told r moment before round t check v =
    entry_of r t.checkable check (behind before round t.checkable) (all_seen r.site (behind before round) t.sights)
    (record { caller = t.caller; moment = moment; event = v; sights = t.sights })

-- with the entry that is told, if its caller has an event for it and could see so much
abbrev pub adding_told : Rules → ℕ → Histories → Histories → Told → Option PlainCheck → Option Event → Option Histories
adding_told r moment before round t None v = None
adding_told r moment before round t (Some check) None = None
adding_told r moment before round t (Some check) (Some v) =
    if are_sights r before round t then Some (with_entry t.checkable (entry_told r moment before round t check v) round) else None

abbrev pub made_with : Rules → ℕ → Histories → List (List Asked) → Told → Histories → Option Histories
made_with r moment before events t round = adding_told r moment before round t (slice_get r.site.checkables t.checkable) (event_for events round t)

abbrev pub then_made : Option Histories → (Histories → Option Histories) → Option Histories
then_made None next = None
then_made (Some round) next = next round

-- one after another
abbrev pub made_from : Rules → ℕ → Histories → List (List Asked) → List Told → Histories → Option Histories
made_from r moment before events [] round = Some round
made_from r moment before events (t ∷ ts) round = then_made (made_with r moment before events t round) (made_from r moment before events ts)
