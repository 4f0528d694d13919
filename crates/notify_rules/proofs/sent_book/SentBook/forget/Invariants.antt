use Rattle.std.proofs.Common.{◌≡◌, ◌++◌, map, take, drop}
use Rattle.notify_rules.specs.Sent.{forgetting}
use Rattle.notify_rules.proofs.sent_book.SentBook.forget.Given as goal

abbrev pub invariant-loop-note : goal.invariant-loop-note
invariant-loop-note l = l.note-items ≡ map forgetting (take l.note-index l.fn.self.notes) ++ drop l.note-index l.fn.self.notes
