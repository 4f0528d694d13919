-- One segment after the other.
use Rattle.std.proofs.Common.{◌<◌, ◌+◌, ◌∷◌, length, drop, refl, sym, ap, ◌∙◌, subst, subst₂, length-set}
use Rattle.std.proofs.lemmas.List.{drop_all}
use Rattle.notify_rules.proofs.Lists.{drop_next}
use Rattle.site_model.specs.PlainSite.{check_view, site_view}
use Rattle.check_slots.specs.Watches.{watch_as}
use Rattle.check_plan.specs.Followed.{followed}
use Rattle.check_plan.specs.Shown.{AreShown}
use Rattle.check_plan.proofs.BySegments.{all_on}
use Rattle.check_plan.proofs.Holding.{spec_at}
use Rattle.run_meaning.specs.Schedule.{watch_from}
use Rattle.check_plan.proofs.Watching.{none_followed_yet, one_followed}
use Rattle.check_plan.proofs.following.follow.Goals as goal

pub loop-segment-init : goal.loop-segment-init
loop-segment-init c = record {
  many = refl;
  so_far = λ before round many is all. none_followed_yet (site_view c.args.site.now) before round c.args.segments.now c.args.watches.now (many ∙ sym c.requires.whole) is all;
}

pub loop-segment-preserved : goal.loop-segment-preserved
loop-segment-preserved c =
    let s = site_view c.args.site.now in
    let i = c.loop-segment.segment-index in
    let xs = c.args.segments.now in
    let x = c.segment-item.result in
    let ws = c.loop-segment.watches in
    let within : x.checkable < length s.checkables = subst (λ y. y.checkable < length s.checkables) (sym c.segment-item.is) (c.requires.within i x c.loop-segment-test.true) in
    let spec = spec_at c.args.site.now c.as_slice.result.now x.checkable c.index-as_slice-segment.result c.as_slice.ensures within c.index-as_slice-segment.is in
    record {
      many = ap length c.set.ensures ∙ length-set ws x.checkable (watch_as c.after_all.result) ∙ c.loop-segment.invariant.many;
      so_far = λ before round many is all.
          one_followed s before x (drop (i + 1) xs) (drop i xs) ws c.set.new.self (followed s before round c.args.watches.now) (watch_as c.at-watch.result) (watch_as c.after_all.result)
          (drop_next i xs x c.loop-segment-test.true ∙ ap (λ y. y ∷ drop (i + 1) xs) (sym c.segment-item.is))
          c.at-watch.ensures
          (λ h shown.
          c.after_all.ensures h (subst₂ (λ d es. AreShown d h es) (sym spec) (sym c.as_slice-in-loop-segment.ensures) shown)
          ∙ ap (λ es. watch_from (check_view c.index-as_slice-segment.result) h es (watch_as c.at-watch.result)) c.as_slice-in-loop-segment.ensures
          ∙ ap (λ d. watch_from d h x.entries (watch_as c.at-watch.result)) spec)
          c.set.ensures
          (c.loop-segment.invariant.so_far before round many is all);
    }

pub returns-clause-followed : goal.returns-clause-followed
returns-clause-followed c = λ before round many is all.
    let s = site_view c.args.site.now in
    let so_far = c.loop-segment.invariant.so_far before round many is all in
    sym (ap (λ xs. all_on s before xs c.loop-segment.watches) (drop_all c.loop-segment.segment-index c.args.segments.now c.loop-segment-test.false)) ∙ so_far.on
