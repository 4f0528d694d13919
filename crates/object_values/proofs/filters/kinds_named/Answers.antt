use Rattle.std.proofs.Common.{ap, ◌∙◌}
use Rattle.std.specs.List.{filter}
use Rattle.site_base.specs.View.{items_view}
use Rattle.object_values.specs.Filters.{has_text, names_kind}
use Rattle.object_values.proofs.SetLaws.{kinds_are, kept_all, kept_at, all_kinds}
use Rattle.object_values.proofs.filters.kinds_named.Goals as goal

pub loop-kind-preserved : goal.loop-kind-preserved
loop-kind-preserved c =
    let items = items_view c.args.items.now in
    kept_at (names_kind items) all_kinds c.loop-kind.kind-index _ c.has_text.result c.loop-kind.list.items c.push_kind.new.list.items (filter (names_kind items) all_kinds) c.loop-kind-test.true
    (c.has_text.ensures ∙ ap (λ name. has_text name items) c.kind_name.ensures) c.in_ok-push_kind.ensures c.loop-kind.invariant

pub returns : goal.returns
returns c =
    let holds = names_kind (items_view c.args.items.now) in
    kinds_are holds c.of.result c.deref.result.now
    (c.deref.ensures.value ∙ kept_all holds all_kinds c.loop-kind.kind-index c.loop-kind.list.items (filter holds all_kinds) c.loop-kind-test.false c.loop-kind.invariant) c.of.ensures
