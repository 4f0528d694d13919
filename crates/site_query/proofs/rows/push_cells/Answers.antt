use Rattle.std.proofs.Common.{◌++◌, ap}
use Rattle.site_query.specs.Shown.{shown_view}
use Rattle.site_query.proofs.RowLaws.{cells_joined}
use Rattle.site_query.proofs.rows.push_cells.Goals as goal

pub loop-i-init : goal.loop-i-init
loop-i-init c = ap (λ xs. c.args.out.now ++ xs) (cells_joined (shown_view c.args.shown.now) c.args.columns.now)
