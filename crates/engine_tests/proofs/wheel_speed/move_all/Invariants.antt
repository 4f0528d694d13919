use Rattle.std.proofs.Common.{◌≡◌}
use Rattle.wheel_links.specs.Members.{capacity_of}
use Rattle.engine_tests.proofs.wheel_speed.move_all.Given as goal

abbrev pub invariant-loop-turn : goal.invariant-loop-turn
invariant-loop-turn g l = capacity_of l.wheel ≡ 100000
