use Rattle.std.proofs.Common.{◌≡◌}
use Rattle.wheel_links.specs.Members.{capacity_of}
use Rattle.engine_tests.proofs.wheel_speed.check_hour.Given as goal

abbrev pub invariant-loop-now : goal.invariant-loop-now
invariant-loop-now g l = capacity_of l.wheel ≡ 100000
