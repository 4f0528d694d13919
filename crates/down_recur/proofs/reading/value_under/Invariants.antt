use Rattle.std.proofs.Common.{◌≡◌, drop}
use Rattle.site_base.specs.View.{pairs_view}
use Rattle.object_values.specs.Attributes.{value_under}
use Rattle.down_recur.proofs.reading.value_under.Given as goal

abbrev pub invariant-loop-key : goal.invariant-loop-key
invariant-loop-key l = value_under l.name (pairs_view (drop l.key-index l.pairs)) ≡ value_under l.name (pairs_view l.pairs)
