use Rattle.std.proofs.Common.{set, ap, ◌∙◌, arith}
use Rattle.notify_rules.specs.Sent.{forgetting}
use Rattle.notify_rules.specs.declared.sent_note.SentNote.{SentNote}
use Rattle.notify_rules.proofs.Lists.{met_step}
use Rattle.notify_rules.proofs.sent_book.SentBook.forget.Goals as goal

pub loop-note-preserved : goal.loop-note-preserved
loop-note-preserved c =
    let now = c.loop-note.note-items in
    let i = c.loop-note.note-index in
    ap (λ (r : SentNote). set now i r) c.forget.ensures
    ∙ met_step forgetting c.args.self.now.notes now i c.note-item.result c.loop-note.invariant (omega arith)
