use Rattle.std.proofs.Common.{◌≡◌, drop}
use Rattle.site_base.specs.View.{pairs_view}
use Rattle.object_types.specs.Checks.{sets}
use Rattle.object_types.proofs.value_kind.SchemaRow.is_set.Given as goal

abbrev pub invariant-loop-name : goal.invariant-loop-name
invariant-loop-name l = sets l.self (pairs_view (drop l.name-index l.pairs)) ≡ sets l.self (pairs_view l.pairs)
