-- The lists, with what each caller takes of the ticks that are left, come to what they have to.
use Rattle.std.proofs.Common.{length, map}
use Rattle.std.specs.Vec.Iter.{into_iter_items}
use Rattle.site_posts.specs.Made.{asked_of}
use Rattle.site_posts.specs.Many.{asked_in}
use Rattle.turn_deal.proofs.ByCaller.{AreGiven}
use Rattle.turn_deal.proofs.callers.deal_ticks.Given as goal

abbrev pub invariant-loop-tick : goal.invariant-loop-tick
invariant-loop-tick l =
    AreGiven (λ a. a.checkable) (λ a. a) (length l.fn.lists.items) (map asked_in l.fn.lists.items) (map asked_in l.lists.items) (map asked_of (into_iter_items l.tick-iterator)) (map asked_of l.fn.ticks.items)
