use Rattle.std.proofs.Common.{◌≡◌, length}
use denote.Shadow.{shadow}
use denote.Text.{Utf8}
use Rattle.site_base.specs.View.{pairs_view}
use Rattle.command_macros.specs.Lookups.{value_along, parts}
use Rattle.command_macros.proofs.lookups.value_along.Given as goal

abbrev pub invariant-loop-key : goal.invariant-loop-key
invariant-loop-key l = shadow (Utf8 l.path) × (value_along (parts l.path) (pairs_view l.pairs) ≡ value_along (parts l.fn.path) (pairs_view l.fn.pairs))

abbrev pub decreases-loop-key : goal.decreases-loop-key
decreases-loop-key l = length l.path
