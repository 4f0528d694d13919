use Rattle.std.proofs.Common.{◌≡◌, ◌++◌, map, drop}
use Rattle.site_text.specs.Diags.{diag_line}
use Rattle.site_replies.proofs.replies.push_diags.Given as goal

-- what stands and the lines of the rest are all
abbrev pub invariant-loop-diag : goal.invariant-loop-diag
invariant-loop-diag l = l.lines ++ map (diag_line l.files) (drop l.diag-index l.list) ≡ l.fn.lines ++ map (diag_line l.files) l.list
