use Rattle.std.proofs.Common.{◌≡◌, ◌++◌, drop}
use Rattle.site_audit.proofs.filling.add_all.Given as goal

-- the lines with the rest are the lines with all
abbrev pub invariant-loop-line : goal.invariant-loop-line
invariant-loop-line l = l.lines ++ drop l.line-index l.more ≡ l.fn.lines ++ l.more
