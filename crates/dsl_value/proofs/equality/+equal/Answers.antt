use Rattle.std.proofs.Common.{sym, ◌∙◌, arith}
use Rattle.dsl_value.proofs.Levels.{no_level, a_level}
use Rattle.dsl_value.proofs.equality.+equal.Goals as goal

pub values-returns-then-levels-eq0-clause-equal : goal.values-returns-then-levels-eq0-clause-equal
values-returns-then-levels-eq0-clause-equal t c = c.scalars.ensures ∙ sym (no_level _ c.args.store.now.cells c.args.left.now c.args.right.now (omega (arith, c.if-levels-eq0.true)))

pub values-returns-clause-equal : goal.values-returns-clause-equal
values-returns-clause-equal t c = c.inside.ensures.equal ∙ sym (a_level _ c.args.store.now.cells c.args.left.now c.args.right.now (omega (arith, c.if-levels-eq0.false)))
