-- The lines of the hosts so far.
use Rattle.std.proofs.Common.{◌≡◌, map}
use Rattle.run_meaning.specs.Turns.{from_on}
use Rattle.site_gen.specs.Turns.{result_line}
use Rattle.site_gen.proofs.turns.turn_of.Given as goal

abbrev pub invariant-loop-host : goal.invariant-loop-host
invariant-loop-host l = l.lines ≡ map (result_line l.number) (from_on 0 l.host)
