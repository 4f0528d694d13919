use Rattle.std.proofs.Common.{◌≡◌, drop}
use Rattle.site_base.specs.View.{pairs_view}
use Rattle.object_types.specs.Values.{are_limits}
use Rattle.object_types.proofs.values.are_limits.Given as goal

abbrev pub invariant-loop-key : goal.invariant-loop-key
invariant-loop-key l = are_limits (pairs_view (drop l.key-index l.pairs)) ≡ are_limits (pairs_view l.pairs)
