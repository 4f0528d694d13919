-- One checkable after the other.
use Rattle.std.proofs.Common.{◌≡◌, ◌<◌, Some, length, sym, subst, arith}
use Rattle.json.specs.Json.{after_end_array}
use Rattle.run_meaning.proofs.Lists.{length_map}
use Rattle.site_model.specs.PlainSite.{check_view, site_view}
use Rattle.site_keep.specs.Slots.{told_of}
use Rattle.site_keep.proofs.PassLaws.{begin_checkables, checkable_passed, checkable_shorter, checkables_passed, CheckablesSoFar}
use Rattle.site_keep.proofs.SlotLaws.{slots_none}
use Rattle.site_keep.proofs.in_order.take_checkables.Goals as goal

pub checkables-init : goal.checkables-init
checkables-init c =
    let s = site_view c.args.site.now in
    let many : length c.in_ok-slots.slots.items ≡ length s.checkables = omega (arith, c.in_ok-slots.ensures.length, c.len.ensures, length_map check_view c.args.site.now.checkables) in
    let none = slots_none s c.in_ok-slots.slots.items c.in_ok-slots.ensures.empty many in
    (begin_checkables s c.open_array.new.reader (told_of c.in_ok-slots.slots.items) none.0, none.1)

pub checkables-preserved : goal.checkables-preserved
checkables-preserved c =
    let l = c.checkables in
    let s = site_view c.args.site.now in
    let start = c.open_array.new.reader in
    let told = told_of l.slots.items in
    let going : c.take_end_array.new.self ≡ l.reader = grind arith in (
      checkable_passed s start c.take_end_array.new.self c.take_checkable.new.reader told (told_of c.take_checkable.new.slots.items) (subst (λ ts. CheckablesSoFar s start ts told) (sym going) l.invariant.0)
          c.in_ok-take_checkable.ensures.told,
      c.in_ok-take_checkable.ensures.are,
    )

pub returns-clause-told : goal.returns-clause-told
returns-clause-told c =
    let l = c.checkables in
    let end : after_end_array l.reader ≡ Some c.take_end_array.new.self = grind arith in
    checkables_passed (site_view c.args.site.now) c.args.reader.now c.open_array.new.reader l.reader c.take_end_array.new.self (told_of l.slots.items) c.in_ok-open_array.ensures l.invariant.0 end
