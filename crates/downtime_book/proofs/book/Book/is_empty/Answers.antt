-- None is kept exactly where none is live by the look back.
use Rattle.std.proofs.Common.{◌==◌, List, length, sym, ap, ◌∙◌}
use Rattle.downtime_book.specs.declared.downtime.Downtime.{Downtime}
use Rattle.downtime_book.specs.Contents.{Contents}
use Rattle.downtime_book.proofs.Together.{nothing}
use Rattle.downtime_book.proofs.Steps.{length-kept}
use Rattle.downtime_book.proofs.book.Book.is_empty.Goals as goal

pub returns-clause-kept : goal.returns-clause-kept
returns-clause-kept c =
    let here = ap (λ n. n == 0) (c.self.invariant ∙ ap (λ (b : Contents). length b.downtimes) c.self.view_is) in
    ((λ t. nothing c.args.self.now.downtimes (sym here ∙ t)), (λ e. here ∙ ap (λ (l : List Downtime). length l == 0) e))

pub returns-clause-live : goal.returns-clause-live
returns-clause-live c = λ calls s.
    ap (λ n. n == 0) (c.self.invariant ∙ ap (λ (b : Contents). length b.downtimes) c.self.view_is ∙ length-kept c.args.self.now calls s)
