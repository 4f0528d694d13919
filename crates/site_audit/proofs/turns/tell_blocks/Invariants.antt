use Rattle.std.proofs.Common.{◌≡◌, ◌≤◌, ◌++◌, length, map}
use Rattle.log_text.specs.SiteNames.{names_of}
use Rattle.site_model.specs.PlainSite.{site_view}
use Rattle.site_audit.specs.Blocks.{blocks_of, lines_of}
use Rattle.site_audit.specs.ByCallers.{turn_of}
use Rattle.site_audit.specs.Told.{turns_from}
use Rattle.site_audit.proofs.TurnLaws.{TellAll}
use Rattle.site_audit.proofs.turns.tell_blocks.Given as goal

-- the turns so far, and those of the rest; of several callers the rounds so far, and those of the rest
abbrev pub invariant-loop-rest : goal.invariant-loop-rest
invariant-loop-rest l =
    (map turn_of l.turns.items ++ turns_from l.callers (site_view l.site) l.style l.orders.items (blocks_of (lines_of l.rest)) ≡ turns_from l.callers (site_view l.site) l.style l.fn.orders.items (blocks_of (lines_of l.log)))
    × (2 ≤ l.callers → TellAll l.style (names_of (site_view l.site)) l.turns.items (blocks_of (lines_of l.rest)) (blocks_of (lines_of l.log)))

abbrev pub decreases-loop-rest : goal.decreases-loop-rest
decreases-loop-rest l = length l.rest
