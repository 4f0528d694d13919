use Rattle.std.proofs.Common.{refl, sym}
use Rattle.notify_rules.proofs.Noting.{noted_nothing}
use Rattle.notify_rules.proofs.sent_book.SentBook.note_one.Goals as goal

pub returns-in-None-clause-notes : goal.returns-in-None-clause-notes
returns-in-None-clause-notes c = λ once distinct. sym (noted_nothing c.args.moment c.args.decision.now c.args.self.now.notes c.in-None.ensures)

pub returns-in-Some-clause-notes : goal.returns-in-Some-clause-notes
returns-in-Some-clause-notes c = λ once distinct. c.take_one.ensures.notes c.args.decision.now refl c.in-Some.ensures once distinct
