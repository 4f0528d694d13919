use Rattle.std.proofs.Common.{◌≡◌, ◌++◌, drop}
use Rattle.site_audit.specs.Tracks.{things_of}
use Rattle.site_audit.proofs.tracks.things_of.Given as goal

-- the things so far, and those of the rest
abbrev pub invariant-loop-k : goal.invariant-loop-k
invariant-loop-k l = l.things.items ++ things_of l.gates (drop l.k-index l.order) ≡ things_of l.gates l.order
