-- As many downtimes are kept as are live by the look back.
use Rattle.std.proofs.Common.{length, ap, ◌∙◌}
use Rattle.downtime_book.specs.Contents.{Contents}
use Rattle.downtime_book.proofs.Steps.{length-kept}
use Rattle.downtime_book.proofs.book.Book.len.Goals as goal

pub returns-clause-kept : goal.returns-clause-kept
returns-clause-kept c = c.self.invariant ∙ ap (λ (b : Contents). length b.downtimes) c.self.view_is

pub returns-clause-live : goal.returns-clause-live
returns-clause-live c = λ calls s.
    c.self.invariant ∙ ap (λ (b : Contents). length b.downtimes) c.self.view_is ∙ length-kept c.args.self.now calls s
