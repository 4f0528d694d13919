use Rattle.std.proofs.Common.{◌≡◌}
use Rattle.wheel_links.specs.Members.{capacity_of}
use Rattle.engine_tests.proofs.wheel_speed.place_all.Given as goal

abbrev pub invariant-loop-place : goal.invariant-loop-place
invariant-loop-place g l = capacity_of l.wheel ≡ 100000
