-- The kinds so far, and those of what is left, are all that are named.
use Rattle.std.proofs.Common.{◌≡◌, ◌++◌, drop}
use Rattle.std.specs.List.{filter}
use Rattle.site_base.specs.View.{items_view}
use Rattle.object_values.specs.Filters.{names_kind}
use Rattle.object_values.proofs.SetLaws.{all_kinds}
use Rattle.object_values.proofs.filters.kinds_named.Given as goal

abbrev pub invariant-loop-kind : goal.invariant-loop-kind
invariant-loop-kind l =
    l.list.items ++ filter (names_kind (items_view l.items)) (drop l.kind-index all_kinds) ≡ filter (names_kind (items_view l.items)) all_kinds
