use Rattle.std.proofs.Common.{arith}
use Rattle.dsl_parts.proofs.Climbing.{none_out, none_spent, some_higher, some_same}
use Rattle.dsl_parts.proofs.levels.climbed.Goals as goal

pub returns-then-found-climb : goal.returns-then-found-climb
returns-then-found-climb c =
    none_out c.args.most c.args.level c.args.climb c.args.tokens.now c.requires.within (λ j x y e. omega (arith, x, y, e, c.level_of-found.ensures, c.if-found-climb.true))

pub returns-then-level-found : goal.returns-then-level-found
returns-then-level-found c =
    none_out c.args.most c.args.level c.args.climb c.args.tokens.now c.requires.within (λ j x y e. omega (arith, x, y, e, c.level_of-found.ensures, c.if-level-found.true))

pub returns-then-climb-found : goal.returns-then-climb-found
returns-then-climb-found c =
    some_higher c.args.most c.args.level c.level_of-found.result c.args.climb c.args.tokens.now c.requires.within c.requires.some c.level_of-found.ensures (omega (arith, c.if-climb-found.true)) (omega (arith, c.if-level-found.false))

pub returns-then-climb-eq0 : goal.returns-then-climb-eq0
returns-then-climb-eq0 c =
    none_spent c.args.most c.args.level c.args.climb c.args.tokens.now c.requires.within (omega (arith, c.if-climb-eq0.true)) (omega (arith, c.level_of-found.ensures, c.if-found-climb.false, c.if-climb-found.false))

pub returns : goal.returns
returns c =
    some_same c.args.most c.args.level c.args.climb c.args.tokens.now c.requires.within (omega (arith, c.level_of-found.ensures, c.if-found-climb.false, c.if-climb-found.false)) (omega (arith, c.if-level-found.false, c.if-climb-found.false, c.if-found-climb.false)) (omega (arith, c.if-climb-eq0.false))
