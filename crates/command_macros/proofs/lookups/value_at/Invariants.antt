use Rattle.std.proofs.Common.{◌≡◌, drop}
use Rattle.site_base.specs.View.{pairs_view}
use Rattle.command_macros.specs.Lookups.{value_at}
use Rattle.command_macros.proofs.lookups.value_at.Given as goal

abbrev pub invariant-loop-pair : goal.invariant-loop-pair
invariant-loop-pair l = value_at l.key (pairs_view (drop l.pair-index l.pairs)) ≡ value_at l.key (pairs_view l.pairs)
