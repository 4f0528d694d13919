use Rattle.std.proofs.Common.{[]}
use Rattle.site_text.specs.Scripts.{Has}
use Rattle.site_text.specs.ScriptReading.{script_from}
use Rattle.site_text.proofs.ScriptLaws.{judged, has_read, tells, gives}
use Rattle.site_text.proofs.scripts.read_script.Goals as goal

pub returns-clause-told : goal.returns-clause-told
returns-clause-told c = tells (Has c.args.bytes.now) c.read_lines.result (script_from [] 0 c.args.bytes.now) c.read_lines.ensures (judged c.args.bytes.now)

pub returns-clause-only : goal.returns-clause-only
returns-clause-only c = λ a h. gives c.read_lines.result (script_from [] 0 c.args.bytes.now) a c.read_lines.ensures (has_read c.args.bytes.now a h)
