use Rattle.std.proofs.Common.{◌≡◌, drop}
use Rattle.site_base.specs.View.{pairs_view}
use Rattle.commit_meaning.specs.Groups.{items_under}
use Rattle.group_growth.proofs.growing.list_under.Given as goal

abbrev pub invariant-loop-pair : goal.invariant-loop-pair
invariant-loop-pair l = items_under l.key (pairs_view (drop l.pair-index l.pairs)) ≡ items_under l.key (pairs_view l.pairs)
