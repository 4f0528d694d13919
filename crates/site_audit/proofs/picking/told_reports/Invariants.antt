use Rattle.std.proofs.Common.{◌≡◌, ◌++◌, drop}
use Rattle.site_audit.specs.Told.{reports_at}
use Rattle.site_audit.proofs.picking.told_reports.Given as goal

-- the reports so far, and those at the other places
abbrev pub invariant-loop-place : goal.invariant-loop-place
invariant-loop-place l = l.reports ++ reports_at l.said (drop l.place-index l.order) ≡ reports_at l.said l.order
