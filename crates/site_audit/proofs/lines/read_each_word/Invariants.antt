use Rattle.std.proofs.Common.{◌≡◌, ◌-◌, length}
use Rattle.site_audit.specs.LineReading.{words_within}
use Rattle.site_audit.proofs.lines.read_each_word.Given as goal

-- what the rest gives is what all gives
abbrev pub invariant-loop : goal.invariant-loop
invariant-loop l = words_within (length l.bytes - l.counter) l.rest ≡ words_within (length l.bytes) l.bytes
