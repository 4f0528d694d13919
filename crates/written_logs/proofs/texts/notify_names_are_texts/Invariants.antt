use Rattle.std.proofs.Common.{IsUtf8, drop, map}
use Rattle.std.specs.List.{AllByRecursion}
use Rattle.written_logs.proofs.texts.notify_names_are_texts.Given as goal

-- if those of the rest are, all are
abbrev pub invariant-loop-notify : goal.invariant-loop-notify
invariant-loop-notify l = AllByRecursion IsUtf8 (map (λ n. n.name) (drop l.notify-index l.notifies)) → AllByRecursion IsUtf8 (map (λ n. n.name) l.notifies)
