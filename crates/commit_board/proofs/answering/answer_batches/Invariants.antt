-- The one wave of the course has these batches.
use Rattle.std.proofs.Common.{◌≡◌, Some, IsSomeAnd, length, slice_get}
use Rattle.std.specs.List.{AllZip}
use Rattle.commit_board.proofs.answering.answer_batches.Given as goal

abbrev pub ghosts-answer_course : goal.ghosts-answer_course
ghosts-answer_course g a = record {
  size = λ w. length a.batches.items;
  asks = λ w k ts. slice_get a.batches.items k ≡ Some ts;
  gives = λ w k xs. IsSomeAnd (slice_get a.batches.items k) (λ ts. AllZip (g.E.Evaluate.gives a.evaluate.now) ts.items xs.items);
}
