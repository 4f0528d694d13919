-- The states so far, and those of what is left, are all that are named.
use Rattle.std.proofs.Common.{◌≡◌, ◌++◌, drop}
use Rattle.std.specs.List.{filter}
use Rattle.site_base.specs.View.{items_view}
use Rattle.object_values.specs.Filters.{names_state}
use Rattle.object_values.proofs.SetLaws.{all_states}
use Rattle.object_values.proofs.filters.states_named.Given as goal

abbrev pub invariant-loop-state : goal.invariant-loop-state
invariant-loop-state l =
    l.list.items ++ filter (names_state (items_view l.items)) (drop l.state-index all_states) ≡ filter (names_state (items_view l.items)) all_states
