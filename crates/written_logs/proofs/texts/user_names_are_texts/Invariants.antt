use Rattle.std.proofs.Common.{IsUtf8, drop, map}
use Rattle.std.specs.List.{AllByRecursion}
use Rattle.written_logs.proofs.texts.user_names_are_texts.Given as goal

-- if those of the rest are, all are
abbrev pub invariant-loop-user : goal.invariant-loop-user
invariant-loop-user l = AllByRecursion IsUtf8 (map (λ u. u.name) (drop l.user-index l.users)) → AllByRecursion IsUtf8 (map (λ u. u.name) l.users)
