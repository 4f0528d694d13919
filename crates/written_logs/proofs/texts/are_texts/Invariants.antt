use Rattle.std.proofs.Common.{IsUtf8, drop}
use Rattle.std.specs.List.{AllByRecursion}
use Rattle.written_logs.proofs.texts.are_texts.Given as goal

-- if those of the rest are, all are
abbrev pub invariant-loop-text : goal.invariant-loop-text
invariant-loop-text l = AllByRecursion IsUtf8 (drop l.text-index l.texts) → AllByRecursion IsUtf8 l.texts
