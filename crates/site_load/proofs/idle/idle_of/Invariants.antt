use Rattle.std.proofs.Common.{◌≡◌, ◌++◌, drop}
use Rattle.site_load.specs.Idle.{idle_among}
use Rattle.site_load.proofs.idle.idle_of.Given as goal

-- with those of the rest they are all
abbrev pub invariant-loop-rule : goal.invariant-loop-rule
invariant-loop-rule l = l.places ++ idle_among (drop l.rule-index l.rules) l.sources.keys ≡ idle_among l.rules l.sources.keys
