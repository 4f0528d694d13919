-- The value is that of the bytes.
use Rattle.std.proofs.Common.{sym, subst}
use Rattle.serde_json.specs.View.{items_view, view}
use Rattle.site_model.specs.PlainSite.{site_view}
use Rattle.site_keep.specs.Given.{Gives}
use Rattle.site_keep.specs.Reading.{none_told, with_all}
use Rattle.site_keep.specs.Slots.{told_of}
use Rattle.site_keep.proofs.SlotLaws.{told_is}
use Rattle.site_keep.proofs.any_order.read_in_any_order.Goals as goal

pub returns-clause-told : goal.returns-clause-told
returns-clause-told c =
    let s = site_view c.args.site.now in
    subst (Gives (λ slots. told_of slots.items) c.read_checkables.result) (sym (told_is s c.args.bytes.now (view c.in_ok-value.value) (items_view c.in_ok-checkables.checkables.now.items) c.in_ok-value.ensures c.in_ok-checkables.ensures))
    (subst (λ xs. Gives (λ slots. told_of slots.items) c.read_checkables.result (with_all s (none_told s) (items_view xs))) c.deref.ensures.value c.read_checkables.ensures.told)
