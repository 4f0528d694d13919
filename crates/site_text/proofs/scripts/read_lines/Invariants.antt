use Rattle.std.proofs.Common.{◌≡◌, [], length}
use Rattle.site_text.specs.ScriptReading.{script_from}
use Rattle.site_text.proofs.scripts.read_lines.Given as goal

-- what the rest tells behind the lines so far is what the whole tells
abbrev pub invariant-loop-rest : goal.invariant-loop-rest
invariant-loop-rest l = script_from l.turns.items l.number l.rest ≡ script_from [] 0 l.bytes

abbrev pub decreases-loop-rest : goal.decreases-loop-rest
decreases-loop-rest l = length l.rest
