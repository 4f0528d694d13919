-- What is kept of a round in the making.
use Rattle.std.specs.Prelude.{◌≡◌, ◌<◌, ◌+◌, ℕ, suc, Bool, true, false, List, [], ◌∷◌, ◌++◌, Vec, length, map, take, slice_get, Option, Some, None, if◌then◌else◌}
use Rattle.std.specs.declared.alloc.Global.{Global}
use Rattle.jiff_tz.specs.declared.tzif.Tzif.{Tzif}
use Rattle.checkable_core.specs.Contents.{Contents, check_at}
use Rattle.checkable_core.specs.Entries.{rules_in}
use Rattle.run_meaning.specs.Acts.{Rules}
use Rattle.run_meaning.specs.Rounds.{behind, entries_by, events_on}
use Rattle.run_meaning.specs.Runs.{joined}
use Rattle.run_meaning.specs.Turns.{Asked, Histories, of_index}
use Rattle.run_meaning.specs.View.{view_of}
use Rattle.site_model.specs.PlainSite.{PlainCheck, PlainSite}
use Rattle.site_model.specs.declared.entry.Entry.{Entry}
use Rattle.site_model.specs.declared.event.Event.{Event}
use Rattle.site_model.specs.declared.sight.Sight.{Sight}
use Rattle.site_model.specs.declared.view.View.{View}
use Rattle.site_posts.specs.Books.{AreBooks, histories_of}
use Rattle.site_posts.specs.Segments.{segment_of, segments_of}
use Rattle.round_check.specs.declared.making.Making.{Making}
use Rattle.round_check.specs.declared.shelf.Shelf.{Shelf}
use Rattle.round_check.specs.declared.told.Told.{Told}
use Rattle.round_check.specs.declared.walking.Place.{Place}
use Rattle.round_check.specs.Making.{are_sights, is_sight}
use Rattle.round_check.specs.Shelves.{listed}
use Rattle.round_check.specs.Ways.{place_of}

-- what a caller's shelf has of a checkable
abbrev pub shelved : {A : Type 0} → Option (Shelf A) → ℕ → List A
shelved None p = []
shelved (Some shelf) p = listed shelf.lists.entries p

abbrev pub shelf_at : {A : Type 0} → List (Shelf A) → ℕ → ℕ → List A
shelf_at shelves k p = shelved (slice_get shelves k) p

-- what a checkable showed before each of these entries, behind others
abbrev pub views_before : PlainCheck → List Entry → List Entry → List View
views_before check history [] = []
views_before check history (e ∷ es) = view_of check history ∷ views_before check (history ++ e ∷ []) es

-- the next event that is wanted of the caller that is told
abbrev pub next_wanted : List (Shelf Event) → List (Shelf Place) → Told → Option Event
next_wanted wanted own t = slice_get (shelf_at wanted t.caller t.checkable) (length (shelf_at own t.caller t.checkable))

-- what was seen at a sight
abbrev pub view_at : PlainSite → Histories → Histories → Sight → View
view_at s before round x = view_of (check_at s x.checkable) (take x.count (behind before round x.checkable))

abbrev pub seen_told : PlainSite → Histories → Histories → List Sight → List (ℕ × View)
seen_told s before round xs = map (λ x. (x.checkable, view_at s before round x)) xs

-- the views stand for a round in the making
abbrev pub AreViews : PlainSite → Histories → Histories → List (ℕ × Vec View Global) → Type 0
AreViews s before round views = (p : ℕ) → listed views p ≡ views_before (check_at s p) (of_index p before) (of_index p round)

-- each caller has its own events on each checkable
abbrev pub AreWanted : List (List Asked) → List (Shelf Event) → Type 0
AreWanted events wanted = (k p : ℕ) → shelf_at wanted k p ≡ events_on p (of_index k events)

-- what is kept stands for a round in the making behind these entries, with so many callers
pub record IsMaking (s : PlainSite) (now : ℕ) (before : Histories) (callers : ℕ) (round : Histories) (m : Making) (books : List Contents) : Type 0 where
  pub whole : length round ≡ length s.checkables
  pub segments : map segment_of m.gathered.entries ≡ segments_of round
  pub views : AreViews s before round m.views.lists.entries
  pub each_caller : length m.own.items ≡ callers
  pub own : (k p : ℕ) → k < callers → shelf_at m.own.items k p ≡ map place_of (entries_by k (of_index p round))
  pub numbers : (p j : ℕ) (e : Entry) → slice_get (of_index p round) j ≡ Some e → e.number ≡ length (of_index p before) + suc j
  pub stand : histories_of books ≡ joined before round
  pub are : AreBooks s now books

-- it was told whether there is such a round, and if there is, it is kept
abbrev pub MadeSo : (Histories → Type 0) → Option Histories → Bool → Type 0
MadeSo Kept None made = made ≡ false
MadeSo Kept (Some round) made = (made ≡ true) × Kept round

-- what is told is of checkables of the site
abbrev pub AreWithin : PlainSite → List Told → Type 0
AreWithin s told = (i : ℕ) (t : Told) → slice_get told i ≡ Some t → t.checkable < length s.checkables

-- nothing is kept, of so many callers
pub record IsBegun (callers : ℕ) (m : Making) : Type 0 where
  pub gathered : m.gathered.entries ≡ []
  pub views : (p : ℕ) → listed m.views.lists.entries p ≡ []
  pub callers_are : length m.own.items ≡ callers
  pub own : (k p : ℕ) → shelf_at m.own.items k p ≡ []

-- all was made, and is kept
abbrev pub MadeAll : PlainSite → ℕ → Histories → ℕ → List Contents → Option Histories → Option Making → Type 0
MadeAll s now before callers books None r = r ≡ None
MadeAll s now before callers books (Some round) None = ⊥
MadeAll s now before callers books (Some round) (Some m) = IsMaking s now before callers round m books
