-- The ways of those that are left can be followed where those of all can.
use Rattle.std.proofs.Common.{◌≡◌, map, drop}
use Rattle.site_posts.specs.Many.{asked_in}
use Rattle.round_check.specs.Ways.{are_ways}
use Rattle.round_check.proofs.checking.are_ways.Given as goal

abbrev pub invariant-loop-caller : goal.invariant-loop-caller
invariant-loop-caller l = are_ways (drop l.caller l.own) (map asked_in (drop l.caller l.lists)) ≡ are_ways l.own (map asked_in l.lists)
