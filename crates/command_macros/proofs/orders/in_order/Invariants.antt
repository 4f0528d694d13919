use Rattle.std.proofs.Common.{◌≡◌, [], drop}
use Rattle.site_base.specs.View.{pairs_view}
use Rattle.command_macros.specs.Sorted.{places_from}
use Rattle.command_macros.proofs.orders.in_order.Given as goal

-- the places so far, with those that are left put in, are all of them
abbrev pub invariant-loop-place : goal.invariant-loop-place
invariant-loop-place l = places_from (pairs_view (drop l.place l.arguments)) l.place l.places.entries ≡ places_from (pairs_view l.arguments) 0 []
