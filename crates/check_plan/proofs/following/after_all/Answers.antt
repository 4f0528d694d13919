-- One entry after the other.
use Rattle.std.proofs.Common.{◌+◌, ◌∷◌, drop, refl, sym, ap, ◌∙◌}
use Rattle.std.proofs.lemmas.List.{drop_all}
use Rattle.notify_rules.proofs.Lists.{drop_next}
use Rattle.site_model.specs.PlainSite.{check_view}
use Rattle.run_meaning.specs.Schedule.{watch_from}
use Rattle.check_slots.specs.Watches.{watch_as}
use Rattle.check_plan.proofs.Watching.{one_watched}
use Rattle.check_plan.proofs.following.after_all.Goals as goal

pub loop-entry-init : goal.loop-entry-init
loop-entry-init c = λ history shown. record { before = history; shown = shown; on = refl }

pub loop-entry-preserved : goal.loop-entry-preserved
loop-entry-preserved c = λ history shown.
    let i = c.loop-entry.entry-index in
    let es = c.args.entries.now in
    let e = c.entry-item.result in
    let k = check_view c.args.spec.now in
    one_watched k e (drop (i + 1) es) (drop i es) (watch_as c.loop-entry.watch) (watch_as c.after-watch.result) (watch_from k history es (watch_as c.args.watch))
    (drop_next i es e c.loop-entry-test.true ∙ ap (λ y. y ∷ drop (i + 1) es) (sym c.entry-item.is))
    c.after-watch.ensures
    (c.loop-entry.invariant history shown)

pub returns : goal.returns
returns c = λ history shown.
    let so_far = c.loop-entry.invariant history shown in
    ap (λ es. watch_from (check_view c.args.spec.now) so_far.before es (watch_as c.loop-entry.watch)) (sym (drop_all c.loop-entry.entry-index c.args.entries.now c.loop-entry-test.false)) ∙ so_far.on
