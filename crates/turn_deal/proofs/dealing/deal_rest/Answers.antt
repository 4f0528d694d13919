-- Reports of orders that weren't started come before the turn's.
use Rattle.std.proofs.Common.{◌++◌, map, sym, ap, ◌∙◌}
use Rattle.run_meaning.specs.Dealing.{report_refusals, still, taken_reports}
use Rattle.run_text.specs.TurnReading.{report_read}
use Rattle.site_posts.specs.Made.{asked_of}
use Rattle.turn_deal.specs.Dealt.{refusal_of, taken_of, tick_of, with_outstanding}
use Rattle.turn_deal.proofs.Reporting.{refusals_both, still_both, taken_both}
use Rattle.turn_deal.proofs.dealing.deal_rest.Goals as goal

pub returns-clause-reports : goal.returns-clause-reports
returns-clause-reports c =
    let os = c.args.plan.now.orders.outstanding in
    let rs = map report_read c.args.not_started.now in
    let qs = map report_read c.as_slice.result.now in
    c.in_ok-deal_reports-2.ensures.events
    ∙ ap (λ p. map taken_of c.deal_reports.new.acts.items ++ taken_reports p.orders.outstanding qs) c.in_ok-deal_reports.ensures.plan
    ∙ ap (λ xs. xs ++ taken_reports (still rs os) qs) (c.in_ok-deal_reports.ensures.events ∙ ap (λ xs. map taken_of xs ++ taken_reports os rs) c.new-reports.ensures.items)
    ∙ sym (taken_both rs qs os)
    ∙ ap (λ xs. taken_reports os (rs ++ map report_read xs)) c.as_slice.ensures

pub returns-clause-ticks : goal.returns-clause-ticks
returns-clause-ticks c =
    c.in_ok-add_ticks.ensures
    ∙ ap (λ xs. map asked_of xs ++ map tick_of c.as_slice-2.result.now) c.new-ticks.ensures.items
    ∙ ap (map tick_of) (c.as_slice-2.ensures.value ∙ c.in_ok-late.ensures)

pub returns-clause-refusals : goal.returns-clause-refusals
returns-clause-refusals c =
    let os = c.args.plan.now.orders.outstanding in
    let rs = map report_read c.args.not_started.now in
    let qs = map report_read c.as_slice.result.now in
    let lines = map refusal_of c.args.lines.refusals.items in
    c.in_ok-deal_reports-2.ensures.refusals
    ∙ ap (λ p. map refusal_of c.deal_reports.new.refusals.items ++ report_refusals p.orders.outstanding qs) c.in_ok-deal_reports.ensures.plan
    ∙ ap (λ xs. xs ++ report_refusals (still rs os) qs) c.in_ok-deal_reports.ensures.refusals
    ∙ refusals_both lines rs qs os
    ∙ ap (λ xs. lines ++ report_refusals os (rs ++ map report_read xs)) c.as_slice.ensures

pub returns-clause-plan : goal.returns-clause-plan
returns-clause-plan c =
    let os = c.args.plan.now.orders.outstanding in
    let rs = map report_read c.args.not_started.now in
    c.in_ok-deal_reports-2.ensures.plan
    ∙ ap (λ p. with_outstanding (still (map report_read c.as_slice.result.now) p.orders.outstanding) p) c.in_ok-deal_reports.ensures.plan
    ∙ ap (λ xs. with_outstanding (still (map report_read xs) (still rs os)) c.args.plan.now) c.as_slice.ensures
    ∙ ap (λ ps. with_outstanding ps c.args.plan.now) (sym (still_both rs (map report_read c.args.turn.now.reports) os))
