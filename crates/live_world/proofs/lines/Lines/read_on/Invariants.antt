use Rattle.std.proofs.Common.{◌≡◌, drop}
use Rattle.live_world.specs.Lines.{read_on}
use Rattle.live_world.proofs.lines.Lines.read_on.Given as goal

-- the bytes that are left lead to the same lines
abbrev pub invariant-loop-byte : goal.invariant-loop-byte
invariant-loop-byte l = read_on l.self (drop l.byte-index l.bytes) ≡ read_on l.fn.self l.bytes
