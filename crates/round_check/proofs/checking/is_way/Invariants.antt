-- What is left is followed as all acts are from the beginning.
use Rattle.std.proofs.Common.{◌≡◌, map, drop}
use Rattle.site_posts.specs.Made.{asked_of}
use Rattle.round_check.specs.Shelves.{counted, listed}
use Rattle.round_check.specs.Ways.{is_way}
use Rattle.round_check.proofs.checking.is_way.Given as goal

abbrev pub invariant-loop-act : goal.invariant-loop-act
invariant-loop-act l =
    is_way (listed l.own.lists.entries) (counted l.way.done.counts.entries) (counted l.way.last.counts.entries) (map asked_of (drop l.act-index l.acts))
    ≡ is_way (listed l.own.lists.entries) (λ _. 0) (λ _. 0) (map asked_of l.acts)
