-- So many blocks agree, and with as many of the rest as agree these are as many as agree of all.
use Rattle.std.proofs.Common.{◌≡◌, ◌≤◌, ◌+◌, List, false, length, map}
use Rattle.std.specs.Vec.Iter.{into_iter_items}
use Rattle.log_text.specs.SiteNames.{names_of}
use Rattle.run_meaning.specs.Turns.{Begun}
use Rattle.run_text.specs.TurnReading.{turn_read}
use Rattle.site_model.specs.PlainSite.{site_view}
use Rattle.turn_engine.specs.Stages.{basis_of_site, stage_of}
use Rattle.site_audit.specs.Blocks.{blocks_of, lines_of}
use Rattle.site_audit.specs.ByCallers.{AreToldIn, round_of, turn_of}
use Rattle.site_audit.proofs.AgreeLaws.{GoesOn}
use Rattle.site_audit.proofs.agreeing.agreed.Given as goal

abbrev pub invariant-loop-told : goal.invariant-loop-told
invariant-loop-told l =
    let r = l.fn.engine.run in
    let s = site_view r.site in
    let left = into_iter_items l.told-iterator in
    let blocks = blocks_of (lines_of l.rest) in
    record {
      fresh : l.engine.spent ≡ false;
      site : l.engine.run.site ≡ r.site;
      zone : l.engine.run.zone ≡ r.zone;
      count : l.count + length left ≡ length l.fn.turns.items;
      rounds : 2 ≤ l.callers → AreToldIn l.style (names_of s) (map round_of left) blocks;
      agree : (begun : List Begun) → (now : List Begun) ×
          GoesOn l.style (basis_of_site s r.zone) l.callers (stage_of l.engine.run now) (map (turn_read s) (map turn_of left)) blocks l.count (stage_of r begun) (map (turn_read s) (map turn_of l.fn.turns.items)) (blocks_of (lines_of l.log));
    }
