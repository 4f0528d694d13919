-- The lists so far are those of the first callers.
use Rattle.std.proofs.Common.{◌≡◌, map}
use Rattle.run_meaning.specs.Dealing.{lines_to}
use Rattle.run_meaning.specs.Turns.{from_on}
use Rattle.site_posts.specs.Made.{asked_of}
use Rattle.site_posts.specs.Many.{asked_in}
use Rattle.turn_deal.proofs.callers.lists_with.Given as goal

abbrev pub invariant-loop-caller : goal.invariant-loop-caller
invariant-loop-caller l = map asked_in l.lists.items ≡ map (λ k. lines_to k (map asked_of l.fn.lines.items)) (from_on 0 l.caller)
