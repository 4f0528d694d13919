-- The acts so far, followed by those of the rest of the reports, are those of the lines and of all reports.
use Rattle.std.proofs.Common.{◌≡◌, ◌++◌, map}
use Rattle.std.specs.Vec.Iter.{into_iter_items}
use Rattle.site_posts.specs.Made.{asked_of}
use Rattle.turn_deal.specs.Dealt.{taken_of}
use Rattle.turn_deal.proofs.dealt.Acts.for_one.Given as goal

abbrev pub invariant-loop-report : goal.invariant-loop-report
invariant-loop-report l = map asked_of l.acts.items ++ map (λ t. t.asked) (map taken_of (into_iter_items l.report-iterator)) ≡ map asked_of l.fn.self.lines.items ++ map (λ t. t.asked) (map taken_of l.fn.self.reports.items)
