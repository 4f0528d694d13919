-- What an evaluation gives where its syntax stands at other places.
use Rattle.std.specs.Prelude.{◌≡◌, ◌⊎◌, ℕ, List, slice_get}
use Rattle.site_base.specs.declared.diag_kind.DiagKind.TheVariants.{Duplicate}
use Rattle.site_base.specs.declared.place.Place.{Place}
use Rattle.eval_meaning.specs.Registered.{PlainFile}
use Rattle.eval_meaning.specs.States.{Outcome, gives, faults, blocked}
use Rattle.eval_meaning.specs.Registration.{is_of_library}
use Rattle.eval_meaning.specs.declared.flow.Flow.{Flow}
use Rattle.eval_meaning.specs.declared.flow.Flow.TheVariants.{On, Returned, Broken, Continued}
use Rattle.place_laws.specs.MovedStates.{moved_state}

-- a `break` or a `continue` has its place
abbrev pub moved_flow : (Place → Place) → Flow → Flow
moved_flow move On = On
moved_flow move (Returned v) = Returned v
moved_flow move (Broken l) = Broken (move l)
moved_flow move (Continued l) = Continued (move l)

-- The same value is given, with the same cells, reads and budget, and the functions of the store stand at other places. A fault is of the same
-- kind and text, and stands at another place. What is blocked is so on the same read.
abbrev pub moved_outcome : {A : Type 0} → (Place → Place) → Outcome A → Outcome A
moved_outcome move (gives a s) = gives a (moved_state move s)
moved_outcome move (faults l k t rs) = faults (move l) k t rs
moved_outcome move (blocked r rs) = blocked r rs

-- ---- loads

-- A load looks at places in two ways: an item is one of the library where it stands in a file of the library, and a template that is there
-- twice is a fault whose text has the place of the first one.

-- what is in a file of the library stays in one, and what isn't doesn't come into one
abbrev pub KeepsLibrary : (Place → Place) → List PlainFile → Type 0
KeepsLibrary move files = (l : Place) → is_of_library (slice_get files (move l).file) ≡ is_of_library (slice_get files l.file)

-- the outcome at other places, but for the text of such a fault
abbrev pub IsMoved : {A : Type 0} → (Place → Place) → Outcome A → Outcome A → Type 0
IsMoved move (gives a s) y = y ≡ gives a (moved_state move s)
IsMoved move (faults l k t rs) y = (u : List ℕ) × (y ≡ faults (move l) k u rs) × ((u ≡ t) ⊎ (k ≡ Duplicate))
IsMoved move (blocked r rs) y = y ≡ blocked r rs
