-- What hosts and services show, column by column.
use Rattle.std.specs.Prelude.{ℕ, Bool, true, false, List}
use Rattle.std.specs.Option.{is_none, unwrap_or}
use Rattle.run_meaning.specs.Downtimes.{in_effect}
use Rattle.run_meaning.specs.View.{is_on, view_of}
use Rattle.site_model.specs.PlainSite.{PlainCheck}
use Rattle.site_model.specs.declared.entry.Entry.{Entry}
use Rattle.site_model.specs.declared.state.State.{State}
use Rattle.site_model.specs.declared.state.State.TheVariants as state
use Rattle.site_model.specs.declared.view.View.{View}
use Rattle.site_query.specs.declared.cell.Cell.{Cell}
use Rattle.site_query.specs.declared.cell.Cell.TheVariants as cell
use Rattle.site_query.specs.declared.column.Column.{Column}
use Rattle.site_query.specs.declared.column.Column.TheVariants as column
use Rattle.site_query.specs.declared.filter.FilterValue.{FilterValue}
use Rattle.site_query.specs.declared.filter.FilterValue.TheVariants as value
use Rattle.site_query.specs.declared.shown.Shown.{Shown}

-- whether it is a host, its full name, its view, and the number of the downtime in effect, or 0
pub record PlainShown : Type 0 where
  pub host : Bool
  pub name : List ℕ
  pub view : View
  pub downtime : ℕ

-- what a checkable with these entries shows at a moment; a service has a host
abbrev pub shown : PlainCheck → List Entry → ℕ → PlainShown
shown check history moment = record {
  host = is_none check.host;
  name = check.name;
  view = view_of check history;
  downtime = unwrap_or (in_effect check history moment) 0;
}

-- a service's from 0 to 3, a host's 0 or 1
abbrev pub state_number : State → ℕ
state_number state.Okay = 0
state_number state.Warning = 1
state_number state.Critical = 2
state_number state.Unknown = 3
state_number state.Up = 0
state_number state.Down = 1

abbrev pub bit : Bool → ℕ
bit true = 1
bit false = 0

-- what stands in a column
abbrev pub value_in : Column → PlainShown → FilterValue
value_in column.Name s = value.Words s.name
value_in column.State s = value.Count (state_number s.view.state)
value_in column.Hard s = value.Count (bit s.view.hard)
value_in column.HasResult s = value.Count (bit s.view.has_result)
value_in column.Acknowledged s = value.Count (bit (is_on s.view.ack))
value_in column.Flapping s = value.Count (bit s.view.flapping)
value_in column.Attempt s = value.Count s.view.attempt
value_in column.Change s = value.Count s.view.change
value_in column.Count s = value.Count s.view.count
value_in column.Downtime s = value.Count s.downtime

-- the plain values of what the code lends
abbrev pub shown_view : Shown → PlainShown
shown_view s = record { host = s.host; name = s.name.now; view = s.view; downtime = s.downtime }

abbrev pub cell_view : Cell → FilterValue
cell_view (cell.Words text) = value.Words text.now
cell_view (cell.Count n) = value.Count n
