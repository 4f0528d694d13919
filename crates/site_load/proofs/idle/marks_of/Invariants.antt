use Rattle.std.proofs.Common.{◌≡◌, ◌++◌, map, drop}
use Rattle.eval_work.specs.Works.{plain_rule}
use Rattle.site_load.specs.Idle.{mark_of}
use Rattle.site_load.proofs.idle.marks_of.Given as goal

-- with those of the rest they are all
abbrev pub invariant-loop-rule : goal.invariant-loop-rule
invariant-loop-rule l = l.marks.items ++ map mark_of (map plain_rule (drop l.rule-index l.rules)) ≡ map mark_of (map plain_rule l.rules)
