use Rattle.std.proofs.Common.{[]}
use Rattle.site_text.specs.ScriptReading.{script_from}
use Rattle.site_text.proofs.ScriptLaws.{script_next}
use Rattle.site_text.proofs.scripts.read_lines.Goals as goal

pub loop-rest-preserved : goal.loop-rest-preserved
loop-rest-preserved c =
    let line = rw c.in-Some.is at c.in_ok-line.ensures.value in
    let taken = rw c.if-not-branch.false at c.in_ok-take_line.ensures in
    script_next c.loop-rest.turns.items c.take_line.new.turns.items c.loop-rest.number c.saturating_add-number.result c.loop-rest.rest.now c.in-Some.behind.now c.in-Some.line
    (script_from [] 0 c.args.bytes.now) line taken c.saturating_add-number.ensures c.loop-rest.invariant
