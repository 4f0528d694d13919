use Rattle.std.proofs.Common.{◌≡◌, IfOk, List, Option, map, subst}
use Rattle.site_model.specs.PlainSite.{site_view}
use Rattle.site_audit.specs.Blocks.{blocks_of, lines_of}
use Rattle.site_audit.specs.ByCallers.{turn_of}
use Rattle.site_audit.specs.Told.{turns_from}
use Rattle.site_audit.specs.declared.telling.Open.{Open}
use Rattle.site_audit.proofs.turns.first_turns.Goals as goal

pub returns-clause-turns : goal.returns-clause-turns
returns-clause-turns c =
    subst (λ (os : List (Option Open)). IfOk c.tell_blocks.result (λ turns. map turn_of turns.items ≡ turns_from c.args.callers (site_view c.args.site.now) c.args.style os (blocks_of (lines_of c.args.log.now)))) c.in_ok-orders.ensures c.tell_blocks.ensures.turns
