use Rattle.std.proofs.Common.{◌≡◌}
use Rattle.wheel_links.specs.Members.{capacity_of}
use Rattle.ground_cases.proofs.wheels.push_all.Given as goal

-- the wheel keeps its capacity
abbrev pub invariant-loop-step : goal.invariant-loop-step
invariant-loop-step g l = capacity_of l.wheel ≡ l.fn.capacity
