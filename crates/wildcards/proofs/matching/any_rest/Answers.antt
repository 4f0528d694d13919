use Rattle.std.proofs.Common.{rules, ◌∙◌}
use Rattle.std.specs.Str.{chars}
use Rattle.wildcards.specs.Wildcards.{describes}
use Rattle.wildcards.proofs.Along.{whole_passes, greedy}
use Rattle.wildcards.proofs.matching.any_rest.Goals as goal

pub returns-in-Passed : goal.returns-in-Passed
returns-in-Passed c = whole_passes (describes (chars c.loop-others.parts.now)) (chars c.loop-others.rest.now) _ c.in-Passed.ensures c.loop-others.invariant.2

pub loop-others-preserved : goal.loop-others-preserved
loop-others-preserved c = (search rules, search rules, greedy _ _ _ _ c.in-Star.ensures ∙ c.loop-others.invariant.2)
