-- The sights so far can be seen.
use Rattle.std.proofs.Common.{◌≡◌, drop}
use Rattle.std.specs.List.{list_all}
use Rattle.round_check.specs.Shelves.{counted, listed}
use Rattle.round_check.specs.Ways.{sees}
use Rattle.round_check.proofs.walking.Way.sees_all.Given as goal

abbrev pub invariant-loop-sight : goal.invariant-loop-sight
invariant-loop-sight l =
    list_all (sees (listed l.own.lists.entries) (counted l.self.done.counts.entries) (counted l.self.last.counts.entries)) (drop l.sight-index l.sights)
    ≡ list_all (sees (listed l.own.lists.entries) (counted l.self.done.counts.entries) (counted l.self.last.counts.entries)) l.sights
