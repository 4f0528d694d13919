-- What is left comes behind the answers so far.
use Rattle.std.proofs.Common.{◌≡◌, ◌++◌, map, Ok}
use Rattle.std.specs.Vec.Iter.{into_iter_items}
use Rattle.post_rounds.proofs.work.all_or_none.Given as goal

abbrev pub invariant-loop-answer : goal.invariant-loop-answer
invariant-loop-answer g l = map (λ x. Ok x) l.all.items ++ into_iter_items l.answer-iterator ≡ l.fn.answers.items
