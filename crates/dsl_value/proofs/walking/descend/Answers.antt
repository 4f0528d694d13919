use Rattle.std.proofs.Common.{◌<◌, ◌≤◌, ◌+◌, length, map, sym, ap, ◌∙◌, arith}
use Rattle.dsl_value.specs.Walks.{most, outcome}
use Rattle.dsl_value.specs.Paths.{below_of, entered}
use Rattle.dsl_value.specs.Entering.{frame}
use Rattle.dsl_value.proofs.Steps.{at_open, cell_over, entered_going}
use Rattle.dsl_value.proofs.walking.descend.Goals as goal

pub returns-then-is_inside-clause-gives : goal.returns-then-is_inside-clause-gives
returns-then-is_inside-clause-gives c =
    let few : length (below_of c.args.path) < most = omega (arith, c.requires.path.levels, c.requires.path.within) in
    ap outcome (at_open c.args.store.now.cells (below_of c.args.path) (frame c.args.path.top) few c.args.cell c.args.path.cost (sym c.is_inside.ensures ∙ c.if-is_inside.true))

pub returns-in_default-clause-gives : goal.returns-in_default-clause-gives
returns-in_default-clause-gives c =
    let few : length (below_of c.args.path) < most = omega (arith, c.requires.path.levels, c.requires.path.within) in
    ap outcome (cell_over c.args.store.now.cells (below_of c.args.path) (frame c.args.path.top) few c.args.cell c.args.path.cost (sym c.is_inside.ensures ∙ c.if-is_inside.false) c.in_default.ensures.over)

pub returns-clause-gives : goal.returns-clause-gives
returns-clause-gives c =
    let few : length (below_of c.args.path) < most = omega (arith, c.requires.path.levels, c.requires.path.within) in
    let within : c.args.path.cost + 1 ≤ most = omega (arith, c.in-Some.ensures.within.0, c.in-Some.ensures.within.1) in
    entered_going c.args.store.now.cells (below_of c.args.path) _ (frame c.args.path.top) (frame c.in_ok-top.top) c.args.cell c.args.path.cost c.in-Some.cost few (sym c.is_inside.ensures ∙ c.if-is_inside.false) within
    (ap (map frame) c.in_ok-below.ensures) (c.in_ok-top.ensures ∙ ap (entered c.args.cell) c.cell.ensures.cell) c.in-Some.ensures.within.0
