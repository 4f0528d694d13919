use Rattle.std.proofs.Common.{◌≡◌, ◌+◌, List, [], ◌∷◌, map, drop, sym, ap, ◌∙◌, subst}
use Rattle.site_model.specs.Sound.{AreDistinct}
use Rattle.site_model.specs.declared.decision.Decision.{Decision}
use Rattle.notify_rules.specs.Sent.{number_of, noted, HaveDistinct}
use Rattle.notify_rules.specs.declared.sent_note.SentNote.{SentNote}
use Rattle.notify_rules.proofs.Lists.{drop_next, drop_past}
use Rattle.notify_rules.proofs.Noting.{all_noted_more, all_noted_none, numbers_kept, distinct_kept}
use Rattle.notify_rules.proofs.sent_book.SentBook.note_sent.Goals as goal

pub loop-decision-preserved : goal.loop-decision-preserved
loop-decision-preserved c = record {
  within = c.note_one-from.ensures.within;
  host = c.note_one-from.ensures.host ∙ c.loop-decision.invariant.host;
  notes = λ once distinct.
      let before = c.loop-decision.invariant.notes once distinct in
      let m = c.args.moment in
      let ds = c.args.decisions.now in
      let i = c.loop-decision.decision-index in
      let d = c.decision-item.result in
      let old = c.loop-decision.self.notes in
      let made : c.note_one-from.new.self.notes ≡ map (noted m (d ∷ [])) old = c.note_one-from.ensures.notes before.0 before.1 in
      let next : drop i ds ≡ d ∷ drop (i + 1) ds = drop_next i ds d c.loop-decision-test.true ∙ ap (λ (x : Decision). x ∷ drop (i + 1) ds) (sym c.decision-item.is) in (
        subst (λ (rs : List SentNote). AreDistinct (map number_of rs)) (sym made) (subst AreDistinct (sym (numbers_kept m (d ∷ []) old)) before.0),
        subst HaveDistinct (sym made) (distinct_kept m (d ∷ []) old before.1),
        ap (map (noted m (drop (i + 1) ds))) made ∙ all_noted_more m d (drop (i + 1) ds) old ∙ ap (λ xs. map (noted m xs) old) (sym next) ∙ before.2,
      );
}

pub returns-clause-notes : goal.returns-clause-notes
returns-clause-notes c = λ once distinct.
    let before = c.loop-decision.invariant.notes once distinct in
    let past : drop c.loop-decision.decision-index c.args.decisions.now ≡ [] = drop_past c.loop-decision.decision-index c.args.decisions.now c.loop-decision-test.false in
    sym (all_noted_none c.args.moment c.loop-decision.self.notes) ∙ ap (λ xs. map (noted c.args.moment xs) c.loop-decision.self.notes) (sym past) ∙ before.2
