-- What the entries of a block tell: command lines and reports.
use Rattle.std.specs.Prelude.{ℕ, Bool, true, false, List, [], ◌∷◌, slice_set, Option, Some, None, if◌then◌else◌}
use Rattle.std.specs.Option.{option_map}
use Rattle.site_model.specs.declared.event.Event.{Event}
use Rattle.site_model.specs.declared.event.Event.TheVariants as event
use Rattle.site_audit.specs.Commands.{line_for, output_text}
use Rattle.site_audit.specs.declared.block.EntryLine.{EntryLine}
use Rattle.site_audit.specs.declared.block.OrderLine.{OrderLine}
use Rattle.site_audit.specs.declared.telling.Open.{Open}
use Rattle.site_audit.specs.declared.telling.Said.{Said}
use Rattle.site_audit.specs.declared.telling.Said.TheVariants as said

-- a result is that of the order that its checkable has, for which a macro may be missing; without one nothing is told at all
abbrev pub report_of : Open → ℕ → List ℕ → List ℕ → Said
report_of o status output perf = if o.missing then said.Lacking o.number else said.Report (record { order = o.number; status = status; output = output_text output perf })

abbrev pub result_said : Option Open → ℕ → List ℕ → List ℕ → Option Said
result_said None status output perf = None
result_said (Some o) status output perf = Some (report_of o status output perf)

-- what an event of a checkable of this name tells, whose order is this one; every other one than a result and a tick tells a line
abbrev pub event_said : List ℕ → Option Open → Event → Option Said
event_said name o (event.Result status false output perf) = result_said o status output perf
event_said name o (event.Result status true output perf) = option_map said.Line (line_for name (event.Result status true output perf))
event_said name o event.Tick = Some said.Tick
event_said name o e = option_map said.Line (line_for name e)

abbrev pub is_report : Event → Bool
is_report (event.Result status passive output perf) = if passive then false else true
is_report e = false

-- the orders after an entry: that of its checkable has its result
abbrev pub after_entry : List (Option Open) → EntryLine → List (Option Open)
after_entry os x = if is_report x.entry.event then slice_set os x.checkable None else os

abbrev pub after_entries : List (Option Open) → List EntryLine → List (Option Open)
after_entries os [] = os
after_entries os (x ∷ xs) = after_entries (after_entry os x) xs

-- and after an order
abbrev pub after_order : List (Option Open) → OrderLine → List (Option Open)
after_order os o = slice_set os o.checkable (Some (record { number = o.number; missing = o.missing }))

abbrev pub after_orders : List (Option Open) → List OrderLine → List (Option Open)
after_orders os [] = os
after_orders os (o ∷ more) = after_orders (after_order os o) more
