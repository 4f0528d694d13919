use Rattle.std.proofs.Common.{◌≡◌, ◌++◌, drop, map}
use Rattle.site_audit.specs.ByCallers.{told_by}
use Rattle.site_audit.proofs.rounds.all_told.Given as goal

-- what was told so far, and what the rest tells
abbrev pub invariant-loop-entry : goal.invariant-loop-entry
invariant-loop-entry l = l.round.items ++ map told_by (drop l.entry-index l.entries) ≡ map told_by l.entries
