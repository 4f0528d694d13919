-- The turn's line, what is refused, the entries' lines and those of the orders stand one behind another.
use Rattle.std.proofs.Common.{List, ◌<◌, All, length, subst, sym, [], ◌∷◌, ◌++◌, map, ap, ◌∙◌}
use Rattle.std.specs.List.{flat_map}
use Rattle.site_model.specs.PlainSite.{check_view, site_view}
use Rattle.run_meaning.proofs.Lists.{length_map}
use Rattle.run_text.specs.LogText.{ordered_line, refusal_line}
use Rattle.turn_deal.specs.Dealt.{refusal_of}
use Rattle.turn_engine.specs.Orders.{order_as}
use Rattle.engine_log.specs.TurnLines.{segment_lines}
use Rattle.site_posts.specs.declared.segment.Segment.{Segment}
use Rattle.site_text.specs.Entries.{IsPrintable}
use Rattle.turn_engine.specs.declared.order_out.OrderOut.{OrderOut}
use Rattle.engine_log.proofs.OnSite.{entries_are, orders_are}
use Rattle.engine_log.proofs.Telling.{told}
use Rattle.engine_log.proofs.many.turn_lines_by_many.Goals as goal

pub add_by_parts-requires-clause-printable : goal.add_by_parts-requires-clause-printable
add_by_parts-requires-clause-printable g c κs within =
    let s = site_view c.args.site.now in
    subst (λ (xs : List Segment). All (λ x. All (IsPrintable s x.checkable) x.entries) xs) (sym c.as_slice-2.ensures) (entries_are s c.args.turn.now c.requires.sound c.requires.turn)

pub add_orders-requires : goal.add_orders-requires
add_orders-requires g c =
    let s = site_view c.args.site.now in
    let n = length_map check_view c.args.site.now.checkables in
    subst (λ (os : List OrderOut). All (λ o. o.checkable < length c.args.site.now.checkables) os) (sym c.as_slice-3.ensures.value)
    (subst (λ m. All (λ (o : OrderOut). o.checkable < m) c.args.turn.now.orders.items) n (orders_are s c.args.turn.now c.requires.sound c.requires.turn))

pub returns : goal.returns
returns g c l tells =
    let s = site_view c.args.site.now in
    let out = c.args.turn.now in
    let refused = map refusal_line (map refusal_of out.refusals.items) in
    let entries = flat_map (segment_lines c.args.style s) out.segments in
    c.in_ok-add_orders.ensures
    ∙ ap (λ os. c.add_by_parts.new.lines ++ map (ordered_line c.args.style s) (map order_as os)) c.as_slice-3.ensures.value
    ∙ ap (λ ls. ls ++ map (ordered_line c.args.style s) (map order_as out.orders.items))
    (c.in_ok-add_by_parts.ensures
    ∙ ap (λ xs. c.add_refusals.new.lines ++ flat_map (segment_lines c.args.style s) xs) c.as_slice-2.ensures
    ∙ ap (λ ls. ls ++ entries)
    (c.in_ok-add_refusals.ensures
    ∙ ap (λ rs. c.push.new.self ++ map refusal_line (map refusal_of rs)) c.as_slice.ensures.value
    ∙ ap (λ ls. ls ++ refused)
    (c.in_ok-push.ensures.ok ∙ ap (λ ls. ls ++ c.in_ok-print_turn.field-0 ∷ []) c.new-lines.ensures ∙ ap (λ t. t ∷ []) c.in_ok-print_turn.ensures)))
    ∙ told c.args.style s out l tells
