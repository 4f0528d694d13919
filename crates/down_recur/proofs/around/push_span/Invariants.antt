use Rattle.std.proofs.Common.{◌≡◌, ◌+◌, ◌-◌, ◌++◌}
use Rattle.down_recur.specs.Segments.{on_days}
use Rattle.down_recur.proofs.around.push_span.Given as goal

abbrev pub invariant-loop-step : goal.invariant-loop-step
invariant-loop-step l = l.out.items ++ on_days l.zone l.span (l.day + l.step) (7 - l.step) ≡ l.fn.out.items ++ on_days l.zone l.span l.day 7
