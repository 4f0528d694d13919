use Rattle.std.proofs.Common.{ap, ◌∙◌}
use Rattle.std.specs.List.{filter}
use Rattle.site_base.specs.View.{items_view}
use Rattle.object_values.specs.Filters.{has_text, names_state}
use Rattle.object_values.proofs.SetLaws.{states_are, kept_all, kept_at, all_states}
use Rattle.object_values.proofs.filters.states_named.Goals as goal

pub loop-state-preserved : goal.loop-state-preserved
loop-state-preserved c =
    let items = items_view c.args.items.now in
    kept_at (names_state items) all_states c.loop-state.state-index _ c.has_text.result c.loop-state.list.items c.push_state.new.list.items (filter (names_state items) all_states) c.loop-state-test.true
    (c.has_text.ensures ∙ ap (λ name. has_text name items) c.state_name.ensures) c.in_ok-push_state.ensures c.loop-state.invariant

pub returns : goal.returns
returns c =
    let holds = names_state (items_view c.args.items.now) in
    states_are holds c.of.result c.deref.result.now
    (c.deref.ensures.value ∙ kept_all holds all_states c.loop-state.state-index c.loop-state.list.items (filter holds all_states) c.loop-state-test.false c.loop-state.invariant) c.of.ensures
