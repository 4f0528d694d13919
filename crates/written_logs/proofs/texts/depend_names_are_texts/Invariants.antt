use Rattle.std.proofs.Common.{IsUtf8, drop, map}
use Rattle.std.specs.List.{AllByRecursion}
use Rattle.written_logs.proofs.texts.depend_names_are_texts.Given as goal

-- if those of the rest are, all are
abbrev pub invariant-loop-depend : goal.invariant-loop-depend
invariant-loop-depend l = AllByRecursion IsUtf8 (map (λ d. d.name) (drop l.depend-index l.depends)) → AllByRecursion IsUtf8 (map (λ d. d.name) l.depends)
