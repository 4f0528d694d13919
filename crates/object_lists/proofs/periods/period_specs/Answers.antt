-- Each period has its own spans.
use Rattle.std.proofs.Common.{◌<◌, length, map, get_or, sym, ap, ◌∙◌, arith}
use Rattle.object_lists.specs.Listed.{lent_view}
use Rattle.object_lists.specs.Periods.{own_spans}
use Rattle.object_lists.proofs.PeriodLaws.{own_at}
use Rattle.object_lists.proofs.periods.period_specs.Goals as goal

pub period_spec-requires : goal.period_spec-requires
period_spec-requires c =
    let inside : c.loop-place.place < length c.args.listed.now.objects.items = omega (arith, c.len-place-end.ensures) in
    own_at c.args.listed.now.objects.items c.in_ok-own.own.items c.loop-place.place c.index-period.result.now c.in_ok-spans.spans
    (c.in_ok-own.ensures ∙ ap (λ ps. map own_spans (lent_view ps)) c.deref.ensures.value) inside c.index-period.ensures
    (c.in_ok-spans.ensures ∙ c.index.ensures ∙ ap (get_or c.in_ok-own.own.items c.loop-place.place) (sym c.in_ok-spans.ensures))
