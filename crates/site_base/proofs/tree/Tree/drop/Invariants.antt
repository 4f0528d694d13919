use Rattle.std.proofs.Common.{◌+◌}
use Rattle.site_base.specs.Weight.{weight}
use Rattle.site_base.proofs.Weights.{triangle}
use Rattle.site_base.proofs.tree.Tree.drop.Given as goal

-- each exchange goes down one level, and each turn without one lets a value go
abbrev pub decreases-loop-self : goal.decreases-loop-self
decreases-loop-self l = triangle (weight l.self + weight l.part) + weight l.part
