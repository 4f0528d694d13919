-- The entries are those of the value.
use Rattle.std.proofs.Common.{◌≡◌, Some, sym, subst}
use Rattle.std.proofs.lemmas.Result.{err_from_is_err_and}
use Rattle.serde_json.specs.View.{view}
use Rattle.site_model.specs.PlainSite.{site_view}
use Rattle.site_keep.specs.Given.{Fails, GivesNext}
use Rattle.site_keep.specs.Reading.{entries_in, with_lawful}
use Rattle.site_keep.specs.Slots.{told_of}
use Rattle.site_keep.proofs.SlotLaws.{entries_given, lines_fail}
use Rattle.site_keep.proofs.any_order.restore_entries.Goals as goal

pub returns-in_err-entries-clause-told : goal.returns-in_err-entries-clause-told
returns-in_err-entries-clause-told c =
    let s = site_view c.args.site.now in
    let d = view c.args.entries.now in
    let e = c.in_err-entries.field-0.0 in
    let p = err_from_is_err_and c.from_residual.result c.from_residual.ensures.1 in
    rw (p.1, p.2) (lines_fail s (told_of c.args.slots.now.items) d c.args.place e (subst (λ ns. Fails e (entries_in ns c.args.place d)) c.requires.names c.in_err-entries.ensures))

pub returns-clause-told : goal.returns-clause-told
returns-clause-told c =
    let s = site_view c.args.site.now in
    let d = view c.args.entries.now in
    let h = c.in_ok-entries.entries.items in
    let read = subst (λ ns. entries_in ns c.args.place d ≡ Some h) c.requires.names c.in_ok-entries.ensures in
    subst (GivesNext c.restore_at.result (told_of c.restore_at.new.slots.items)) (sym (entries_given s (told_of c.args.slots.now.items) d c.args.place h read))
    (subst (λ es. GivesNext c.restore_at.result (told_of c.restore_at.new.slots.items) (with_lawful s (told_of c.args.slots.now.items) c.args.place es)) c.as_slice.ensures.value c.restore_at.ensures.told)
