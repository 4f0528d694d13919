use Rattle.std.proofs.Common.{◌≡◌, List, map, true, false, sym, ap, ◌∙◌}
use Rattle.std.proofs.lemmas.Simd.{map-map}
use Rattle.site_model.specs.declared.decision.Decision.{Decision}
use Rattle.notify_rules.specs.Sent.{noted, forgetting}
use Rattle.notify_rules.proofs.Standing.{distinct_notes, stands_noted}
use Rattle.notify_rules.proofs.sent_book.SentBook.note.Goals as goal

pub returns-then-is_well : goal.returns-then-is_well
returns-then-is_well c = λ s k check h stands follows.
    let e = c.args.entry.now in
    let old = c.args.self.now in
    let sent = c.note_sent.ensures.notes (distinct_notes old s k check h stands) stands.once ∙ ap (λ (ds : List Decision). map (noted e.moment ds) old.notes) c.as_slice.ensures in
    let opened : c.self.inside.host ≡ c.note_sent.new.self.host = cc in
    stands_noted old c.forget.new.self s k check h e true stands follows
    (sym c.if-is_well.true ∙ c.is_well.ensures check (opened ∙ c.note_sent.ensures.host ∙ stands.host))
    (c.forget.ensures.host ∙ c.note_sent.ensures.host)
    (c.forget.ensures.notes ∙ ap (map forgetting) sent ∙ map-map forgetting (noted e.moment e.decisions) old.notes)

pub returns-else-is_well : goal.returns-else-is_well
returns-else-is_well c = λ s k check h stands follows.
    let e = c.args.entry.now in
    let old = c.args.self.now in
    let sent = c.note_sent.ensures.notes (distinct_notes old s k check h stands) stands.once ∙ ap (λ (ds : List Decision). map (noted e.moment ds) old.notes) c.as_slice.ensures in
    let opened : c.self.inside.host ≡ c.note_sent.new.self.host = cc in
    stands_noted old c.note_sent.new.self s k check h e false stands follows
    (sym c.if-is_well.false ∙ c.is_well.ensures check (opened ∙ c.note_sent.ensures.host ∙ stands.host))
    c.note_sent.ensures.host sent
