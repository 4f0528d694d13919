use Rattle.std.proofs.Common.{◌≡◌, ◌++◌, nat_lt, drop, map}
use Rattle.std.specs.List.{join_with_byte}
use Rattle.site_query.specs.Answers.{cell_text}
use Rattle.site_query.specs.Shown.{shown_view}
use Rattle.site_query.proofs.RowLaws.{cells_text}
use Rattle.site_query.proofs.rows.push_cells.Given as goal

-- what stands so far and what the rest gives are the whole
abbrev pub invariant-loop-i : goal.invariant-loop-i
invariant-loop-i l =
    l.out ++ cells_text (nat_lt 0 l.i) (shown_view l.shown) (drop l.i l.columns) ≡ l.fn.out ++ join_with_byte 59 (map (cell_text (shown_view l.shown)) l.columns)
