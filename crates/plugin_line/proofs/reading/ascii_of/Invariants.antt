use Rattle.std.proofs.Common.{◌≡◌, ◌++◌, drop, map}
use Rattle.plugin_line.specs.Output.{in_ascii}
use Rattle.plugin_line.proofs.reading.ascii_of.Given as goal

-- what was written, and what the rest gives, is all
abbrev pub invariant-loop-byte : goal.invariant-loop-byte
invariant-loop-byte l = l.text ++ map in_ascii (drop l.byte-index l.bytes) ≡ map in_ascii l.bytes
