use Rattle.std.proofs.Common.{◌≡◌, ◌<◌, [], length, map, sym, ap, subst, ◌∙◌, arith}
use Rattle.std.specs.List.{AllByRecursion}
use Rattle.dsl_value.specs.Contents.{cell_at}
use Rattle.dsl_value.specs.Walks.{is_open}
use Rattle.dsl_value.specs.Paths.{entered}
use Rattle.dsl_value.specs.Entering.{frame, cell_of}
use Rattle.dsl_value.proofs.Steps.{begun_going, cell_of_entered}
use Rattle.dsl_value.proofs.walking.walk_cell.Goals as goal

pub loop-next-init : goal.loop-next-init
loop-next-init c =
    let first : frame c.in_ok-top.top ≡ entered c.args.cell (cell_at c.args.store.now.cells c.args.cell) = c.in_ok-top.ensures ∙ ap (entered c.args.cell) c.cell.ensures.cell in
    let none : map frame c.new-below.result ≡ [] = ap (map frame) c.new-below.ensures in
    let there : cell_of (frame c.in_ok-top.top) ≡ c.args.cell = ap cell_of first ∙ cell_of_entered c.args.cell (cell_at c.args.store.now.cells c.args.cell) in (
      record {
        top = subst (λ k. k < length c.args.store.now.cells) (sym there) c.requires;
        below = subst (AllByRecursion (λ f. cell_of f < length c.args.store.now.cells)) (sym none) tt;
        within = omega arith;
        apart = ap (λ fs. is_open (cell_of (frame c.in_ok-top.top)) (map cell_of fs)) none;
        levels = subst (λ fs. length fs < 1) (sym none) (omega arith);
      },
      begun_going c.args.store.now.cells (map frame c.new-below.result) (frame c.in_ok-top.top) c.args.cell none first,
    )
