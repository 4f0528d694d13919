-- One report more was dealt.
use Rattle.std.proofs.Common.{◌+◌, ◌++◌, ◌∷◌, [], map, drop, sym, ap, ◌∙◌}
use Rattle.notify_rules.proofs.Lists.{drop_next}
use Rattle.run_meaning.specs.Dealing.{report_refusals, still, taken_reports}
use Rattle.run_text.specs.TurnReading.{report_read}
use Rattle.turn_deal.specs.Dealt.{refusal_of, taken_of, with_outstanding}
use Rattle.turn_deal.proofs.Reporting.{events_step, refusals_step, still_step}
use Rattle.turn_deal.proofs.reports.deal_reports.Goals as goal

pub loop-report-preserved : goal.loop-report-preserved
loop-report-preserved c =
    let i = c.loop-report.report-index in
    let xs = c.args.reports.now in
    let x = c.report-item.result in
    let l = c.loop-report in
    let os = l.plan.orders.outstanding in
    let rest = map report_read (drop (i + 1) xs) in
    let left = map report_read (drop i xs) in
    let is = ap (map report_read) (drop_next i xs x c.loop-report-test.true ∙ ap (λ y. y ∷ drop (i + 1) xs) (sym c.report-item.is)) in
    let now = c.in_ok-deal_report.ensures.plan in
    record {
      events =
          ap (λ ps. map taken_of c.deal_report.new.acts.items ++ taken_reports ps rest) (ap (λ p. p.orders.outstanding) now)
          ∙ events_step (report_read x) rest left os (map taken_of l.acts.items) _ _ is c.in_ok-deal_report.ensures.events l.invariant.events;
      refusals =
          ap (λ ps. map refusal_of c.deal_report.new.refusals.items ++ report_refusals ps rest) (ap (λ p. p.orders.outstanding) now)
          ∙ refusals_step (report_read x) rest left os (map refusal_of l.refusals.items) _ _ is c.in_ok-deal_report.ensures.refusals l.invariant.refusals;
      still = ap (still rest) (ap (λ p. p.orders.outstanding) now) ∙ still_step (report_read x) rest left os _ is l.invariant.still;
      plan = now ∙ ap (λ p. with_outstanding (still (report_read x ∷ []) os) p) l.invariant.plan ∙ ap (λ ps. with_outstanding ps c.args.plan.now) (sym (ap (λ p. p.orders.outstanding) now));
    }
