-- The ticks so far.
use Rattle.std.proofs.Common.{◌≡◌, ◌++◌, map, take}
use Rattle.site_posts.specs.Made.{asked_of}
use Rattle.turn_deal.specs.Dealt.{tick_of}
use Rattle.turn_deal.proofs.ticks.add_ticks.Given as goal

abbrev pub invariant-loop-checkable : goal.invariant-loop-checkable
invariant-loop-checkable l = map asked_of l.acts.items ≡ map asked_of l.initial.acts.items ++ map tick_of (take l.checkable-index l.late)
