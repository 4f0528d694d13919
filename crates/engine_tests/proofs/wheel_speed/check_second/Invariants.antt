use Rattle.std.proofs.Common.{◌≡◌}
use Rattle.wheel_links.specs.Members.{capacity_of}
use Rattle.engine_tests.proofs.wheel_speed.check_second.Given as goal

abbrev pub invariant-loop : goal.invariant-loop
invariant-loop g l = capacity_of l.wheel ≡ 100000
