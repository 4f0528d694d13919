use Rattle.std.proofs.Common.{◌≡◌, ◌++◌, drop}
use Rattle.site_audit.specs.Told.{lines_at}
use Rattle.site_audit.proofs.picking.pick_lines.Given as goal

-- the lines so far, and those at the other places
abbrev pub invariant-loop-place : goal.invariant-loop-place
invariant-loop-place l = l.lines ++ lines_at l.said (drop l.place-index l.order) ≡ lines_at l.said l.order
