use Rattle.std.proofs.Common.{◌≡◌, ◌≤◌, length}
use Rattle.site_text.specs.ScriptReading.{with_front, body_of}
use Rattle.site_text.proofs.unquoting.read_body.Given as goal

-- what was read, and what the rest gives, is all
abbrev pub invariant-loop-rest : goal.invariant-loop-rest
invariant-loop-rest l = record {
  within : length l.rest ≤ length l.bytes;
  reads : with_front l.text.items (body_of l.rest) ≡ body_of l.bytes;
}

abbrev pub decreases-loop-rest : goal.decreases-loop-rest
decreases-loop-rest l = length l.rest
