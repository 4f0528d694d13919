-- A checkable is put into its place.
use Rattle.std.proofs.Common.{◌≡◌, set, Some, Err, sym, ap, ◌∙◌, subst, arith}
use Rattle.std.proofs.lemmas.Result.{err_from_is_err_and}
use Rattle.checkable_core.specs.Contents.{Contents}
use Rattle.checkable_core.specs.Histories.{IsHistory}
use Rattle.run_meaning.proofs.Lists.{length_map}
use Rattle.site_model.specs.PlainSite.{check_view, site_view}
use Rattle.site_keep.specs.Slots.{told_of, AreSlots}
use Rattle.site_keep.proofs.SlotLaws.{at_good, fault_fails, is_free, slots_set, told_set}
use Rattle.site_keep.proofs.slots.restore_at.Goals as goal

pub returns-in_err-checkable-clause-told : goal.returns-in_err-checkable-clause-told
returns-in_err-checkable-clause-told c =
    let s = site_view c.args.site.now in
    let slots = c.args.slots.now.items in
    let k = c.args.place in
    let p = err_from_is_err_and c.from_residual.result c.from_residual.ensures.1 in
    let free = is_free slots k c.index.result.now (omega (arith, c.requires.place, c.requires.are.whole, length_map check_view c.args.site.now.checkables)) c.index.ensures (sym c.is_some.ensures ∙ c.if-is_some.false) in
    rw (p.1, p.2) (fault_fails s (told_of slots) k c.args.entries.now c.in_err-checkable.field-0.0 free (λ e h. c.in_err-checkable.ensures.bad (ap Err e) h))

pub returns-clause-told : goal.returns-clause-told
returns-clause-told c =
    let s = site_view c.args.site.now in
    let slots = c.args.slots.now.items in
    let k = c.args.place in
    let book = c.in_ok-checkable.checkable in
    let free = is_free slots k c.index.result.now (omega (arith, c.requires.place, c.requires.are.whole, length_map check_view c.args.site.now.checkables)) c.index.ensures (sym c.is_some.ensures ∙ c.if-is_some.false) in
    let own : book.entries ≡ c.args.entries.now = ap (λ (b : Contents). b.entries) c.in_ok-checkable.ensures.ok.0 in
    at_good s (told_of slots) k c.args.entries.now free c.in_ok-checkable.ensures.ok.1 ∙ ap Some (sym (ap told_of c.put.ensures ∙ told_set slots k book ∙ ap (λ h. set (told_of slots) k (Some h)) own))

pub returns-clause-are : goal.returns-clause-are
returns-clause-are c =
    let s = site_view c.args.site.now in
    let book = c.in_ok-checkable.checkable in
    subst (AreSlots s) (sym c.put.ensures)
    (slots_set s c.args.slots.now.items c.args.place book c.requires.are
    (record { site = ap (λ (b : Contents). site_view b.site) c.in_ok-checkable.ensures.ok.0; index = ap (λ (b : Contents). b.index) c.in_ok-checkable.ensures.ok.0 }))
