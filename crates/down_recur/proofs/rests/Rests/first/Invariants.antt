use Rattle.std.proofs.Common.{◌≤◌, ◌-◌, length}
use Rattle.down_recur.specs.Rests.{RestFrom}
use Rattle.down_recur.proofs.rests.Rests.first.Given as goal

abbrev pub invariant-loop-place : goal.invariant-loop-place
invariant-loop-place l = record { behind : l.from ≤ l.place; rest : RestFrom l.moment l.from l.place l.self }

abbrev pub decreases-loop-place : goal.decreases-loop-place
decreases-loop-place l = length l.self - l.place
