-- A notification goes to the row of its checkable, and to no other.
use Rattle.std.proofs.Common.{◌≡◌, ◌<◌, ◌++◌, ◌∷◌, [], List, length, get_or, set, drop, sym, ap, ◌∙◌, subst, arith, append-nil, length-set}
use Rattle.std.proofs.lemmas.List.{length-map}
use Rattle.site_model.specs.PlainSite.{check_view, site_view}
use Rattle.site_model.specs.declared.notify_spec.NotifySpec.{NotifySpec}
use Rattle.run_meaning.specs.Turns.{of_index}
use Rattle.notify_rules.specs.Sent.{notes_from}
use Rattle.notify_rules.proofs.Indexing.{row_kept, row_more}
use Rattle.notify_rules.proofs.Lists.{drop_past}
use Rattle.notify_rules.proofs.note_index.NoteIndex.of.Goals as goal
use Rattle.notify_rules.proofs.note_index.NoteIndex.of.Goals.{then-checkable-len+in_ok-add, else-checkable-len}

pub loop-place-preserved : goal.loop-place-preserved
loop-place-preserved c =
    let i = c.loop-place.place in
    let ns = c.args.site.now.notifies in
    let note = c.note-item.result in
    let rows = c.loop-place.rows.items in
    let l : i < length ns = subst (λ (xs : List NotifySpec). i < length xs) c.as_slice-note-items.ensures c.loop-place-test.true in
    let at : note ≡ get_or ns i note = c.note-item.is ∙ ap (λ (xs : List NotifySpec). get_or xs i note) c.as_slice-note-items.ensures in
    let many = c.loop-place.invariant.many in
    elim c.if-checkable-len.branch [
      | then-checkable-len+in_ok-add w ↦
          let put : c.if-checkable-len.rows.items ≡ set rows note.checkable (of_index note.checkable rows ++ i ∷ []) = ap (λ v. v.items) w.rows-is ∙ w.in_ok-add.ensures in
          let inside = w.if-checkable-len.true in
          record {
            many = ap length put ∙ length-set rows note.checkable (of_index note.checkable rows ++ i ∷ []) ∙ many;
            rows = λ k h. row_more rows c.if-checkable-len.rows.items k i ns note _ l at (omega (arith, inside)) put (c.loop-place.invariant.rows k h);
          }
      | else-checkable-len w ↦
          let same = ap (λ v. v.items) w.rows-is in
          let beyond = w.if-checkable-len.false in
          record {
            many = ap length same ∙ many;
            rows = λ k h. row_kept rows c.if-checkable-len.rows.items k i ns note _ l at (omega (arith, h, many)) (omega (arith, beyond)) same (c.loop-place.invariant.rows k h);
          }
    ]

pub returns : goal.returns
returns c =
    let site = c.args.site.now in
    let rows = c.loop-place.rows.items in
    let i = c.loop-place.place in
    let many = length-map site.checkables check_view in
    let past : drop i site.notifies ≡ [] = drop_past i site.notifies (omega (arith, ap length c.as_slice-note-items.ensures)) in
    record {
      many = c.loop-place.invariant.many ∙ sym many;
      own = λ k h. sym (append-nil (of_index k rows)) ∙ ap (λ (ns : List NotifySpec). of_index k rows ++ notes_from k i ns) (sym past) ∙ c.loop-place.invariant.rows k (omega (arith, h, many));
    }
