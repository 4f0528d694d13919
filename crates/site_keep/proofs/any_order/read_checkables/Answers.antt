-- At first no checkable is told.
use Rattle.std.proofs.Common.{◌≡◌, length, ap, arith}
use Rattle.serde_json.specs.View.{items_view}
use Rattle.run_meaning.proofs.Lists.{length_map}
use Rattle.site_model.specs.PlainSite.{check_view, site_view}
use Rattle.site_keep.specs.Reading.{with_all}
use Rattle.site_keep.proofs.SlotLaws.{slots_none}
use Rattle.site_keep.proofs.any_order.read_checkables.Goals as goal

pub loop-checkable-init : goal.loop-checkable-init
loop-checkable-init c =
    let s = site_view c.args.site.now in
    let many : length c.in_ok-slots.slots.items ≡ length s.checkables = omega (arith, c.in_ok-slots.ensures.length, c.len.ensures, length_map check_view c.args.site.now.checkables) in
    let none = slots_none s c.in_ok-slots.slots.items c.in_ok-slots.ensures.empty many in
    (ap (λ t. with_all s t (items_view c.args.checkables.now)) none.0, none.1)
