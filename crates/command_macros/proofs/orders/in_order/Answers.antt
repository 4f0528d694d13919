use Rattle.std.proofs.Common.{◌+◌, drop, sym, ap, ◌∙◌, rules, SFits, w64}
use Rattle.std.proofs.lemmas.Int.{to_z-of_z}
use Rattle.std.specs.BTreeMap.{insert_entry}
use Rattle.site_base.specs.View.{pairs_view}
use Rattle.command_macros.specs.Sorted.{place_cmp, places_from}
use Rattle.command_macros.proofs.OrderLaws.{places_next}
use Rattle.command_macros.proofs.orders.in_order.Goals as goal

pub loop-place-preserved : goal.loop-place-preserved
loop-place-preserved c =
    let left = pairs_view (drop (c.loop-place.place + 1) c.args.arguments.now) in
    let fits : SFits w64 c.order_of.result = search rules in
    ap (places_from left (c.loop-place.place + 1)) c.in_ok-insert.ensures.entries
    ∙ (ap (λ o. places_from left (c.loop-place.place + 1) (insert_entry place_cmp c.loop-place.places.entries (o, c.loop-place.place) tt)) (to_z-of_z w64 c.order_of.result fits ∙ c.order_of.ensures)
    ∙ (sym (places_next c.args.arguments.now c.loop-place.place c.index-arguments-place.result c.loop-place.places.entries c.loop-place-test.true c.index-arguments-place.is)
    ∙ c.loop-place.invariant))
