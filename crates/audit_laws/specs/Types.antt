-- The types of what a block tells, which site_audit keeps within itself: each is what one of its definitions takes.
use Rattle.std.specs.Prelude.{[], None}
use Rattle.site_audit.specs.Filling.{one_filled}
use Rattle.site_audit.specs.Hearing.{hearing}
use Rattle.site_audit.specs.Spots.{kind_of, spots_of}
use Rattle.site_audit.specs.Telling.{after_order, report_of}
use Rattle.site_audit.specs.Told.{orders_after}
use Rattle.site_audit.specs.Tracks.{track_of}

abbrev taken_by : {A B : Type 0} → (A → B) → Type 0
taken_by {A} f = A

abbrev pub EntryLine : Type 0
EntryLine = taken_by (spots_of 0)

abbrev pub Said : Type 0
Said = taken_by (kind_of 0)

abbrev pub Spot : Type 0
Spot = taken_by track_of

abbrev pub Heard : Type 0
Heard = taken_by hearing

abbrev pub Open : Type 0
Open = taken_by report_of

abbrev pub RefusedLine : Type 0
RefusedLine = taken_by (one_filled (λ f. None))

abbrev pub OrderLine : Type 0
OrderLine = taken_by (after_order [])

abbrev pub Block : Type 0
Block = taken_by (orders_after [])
