-- The answers of the one wave are those of its tasks.
use Rattle.std.proofs.Common.{ℕ, IsSomeAnd, length, slice_get}
use Rattle.std.proofs.lemmas.Result.{IfOk-weaker}
use Rattle.std.specs.List.{AllZip}
use Rattle.commit_board.specs.Boards.{AreAnswers}
use Rattle.commit_board.specs.Work.{all_in}
use Rattle.commit_board.proofs.Zipped.{serves, zip_all, zipped}
use Rattle.commit_board.proofs.answering.answer_batches.Goals as goal

pub answer_course-requires-clause-serves : goal.answer_course-requires-clause-serves
answer_course-requires-clause-serves g c κs within = serves (g.E.Evaluate.fits c.args.evaluate.now) (g.E.Evaluate.gives c.args.evaluate.now) c.args.batches.items c.requires

pub returns : goal.returns
returns g c =
    let gives = g.E.Evaluate.gives c.args.evaluate.now in
    let bs = c.args.batches.items in
    IfOk-weaker c.answer_course.result (λ xss. (w : ℕ) × AreAnswers (length bs) (λ k xs. IsSomeAnd (slice_get bs k) (λ ts. AllZip gives ts.items xs.items)) xss.items)
    (λ xss. AllZip gives (all_in bs) (all_in xss.items)) (λ xss h. zip_all gives bs xss.items (zipped (λ ts xs. AllZip gives ts.items xs.items) bs xss.items h.1)) c.answer_course.ensures
