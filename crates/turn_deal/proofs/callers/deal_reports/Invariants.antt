-- The lists, with what each caller takes of the reports that are left, come to what they have to.
use Rattle.std.proofs.Common.{length, map}
use Rattle.std.specs.Vec.Iter.{into_iter_items}
use Rattle.site_posts.specs.Many.{asked_in}
use Rattle.turn_deal.specs.Dealt.{taken_of}
use Rattle.turn_deal.proofs.ByCaller.{AreGiven}
use Rattle.turn_deal.proofs.callers.deal_reports.Given as goal

abbrev pub invariant-loop-report : goal.invariant-loop-report
invariant-loop-report l =
    AreGiven (λ t. t.order) (λ t. t.asked) (length l.fn.lists.items) (map asked_in l.fn.lists.items) (map asked_in l.lists.items) (map taken_of (into_iter_items l.report-iterator)) (map taken_of l.fn.reports.items)
