-- What was dealt so far, followed by what the rest gives, is all.
use Rattle.std.proofs.Common.{◌≡◌, ◌++◌, map, drop}
use Rattle.run_meaning.specs.Dealing.{report_refusals, still, taken_reports}
use Rattle.run_text.specs.TurnReading.{report_read}
use Rattle.turn_deal.specs.Dealt.{refusal_of, taken_of, with_outstanding}
use Rattle.turn_deal.proofs.reports.deal_reports.Given as goal

abbrev pub invariant-loop-report : goal.invariant-loop-report
invariant-loop-report l =
    let os = l.plan.orders.outstanding in
    let first = l.initial.plan.orders.outstanding in
    let left = map report_read (drop l.report-index l.reports) in
    let all = map report_read l.reports in
    record {
      events : map taken_of l.acts.items ++ taken_reports os left ≡ map taken_of l.initial.acts.items ++ taken_reports first all;
      refusals : map refusal_of l.refusals.items ++ report_refusals os left ≡ map refusal_of l.initial.refusals.items ++ report_refusals first all;
      still : still left os ≡ still all first;
      plan : l.plan ≡ with_outstanding os l.initial.plan;
    }
