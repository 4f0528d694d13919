-- What was ranked so far and what is left are all.
use Rattle.std.proofs.Common.{◌≡◌, ◌++◌, map}
use Rattle.std.specs.Vec.Iter.{into_iter_items}
use Rattle.site_model.specs.PlainSite.{site_view}
use Rattle.round_check.specs.Ordered.{AreRanked, told_by_rank}
use Rattle.round_check.proofs.ordering.with_ranks.Given as goal

abbrev pub invariant-loop-told : goal.invariant-loop-told
invariant-loop-told l = AreRanked (site_view l.site) l.list.items × (map told_by_rank l.list.items ++ into_iter_items l.told-iterator ≡ l.fn.told.items)
