use Rattle.std.proofs.Common.{◌≡◌, ◌++◌, drop, map}
use Rattle.site_audit.specs.Told.{refused_report, reports_with}
use Rattle.site_audit.proofs.picking.pick_reports.Given as goal

-- the reports so far, and those that are refused of the other orders
abbrev pub invariant-loop-number : goal.invariant-loop-number
invariant-loop-number l = l.reports ++ map refused_report (drop l.number-index l.refused) ≡ reports_with l.refused l.said l.order
