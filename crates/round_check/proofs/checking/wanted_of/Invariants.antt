-- The events of the callers so far.
use Rattle.std.proofs.Common.{◌≡◌, length, map, take}
use Rattle.site_posts.specs.Many.{asked_in}
use Rattle.round_check.specs.Kept.{AreWanted}
use Rattle.round_check.proofs.checking.wanted_of.Given as goal

abbrev pub invariant-loop-list : goal.invariant-loop-list
invariant-loop-list l = (length l.wanted.items ≡ l.list-index) × AreWanted (map asked_in (take l.list-index l.lists)) l.wanted.items
