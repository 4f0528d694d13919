use Rattle.std.proofs.Common.{◌≡◌, arith, Some, None}
use Rattle.std.proofs.lemmas.Grind.{common_steps}
use Rattle.dsl_depth.specs.Depth.{deep_at}
use Rattle.dsl_depth.proofs.DepthLaw.{found_first}
use Rattle.dsl_depth.proofs.depth.too_deep.Goals as goal

pub returns-then-len-gt-MOST_OPEN-clause-first : goal.returns-then-len-gt-MOST_OPEN-clause-first
returns-then-len-gt-MOST_OPEN-clause-first c =
    let e : Some c.loop-index.index ≡ deep_at c.args.tokens.now = grind (arith, common_steps) in found_first c.args.tokens.now (Some c.loop-index.index) e

pub returns-clause-first : goal.returns-clause-first
returns-clause-first c = let e : None ≡ deep_at c.args.tokens.now = grind (arith, common_steps) in found_first c.args.tokens.now None e
