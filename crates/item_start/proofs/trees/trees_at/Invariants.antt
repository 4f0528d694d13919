use Rattle.std.proofs.Common.{◌≡◌, [], drop, map}
use Rattle.eval_work.specs.Works.{state_of, plain_pair}
use Rattle.commit_meaning.specs.Starts.{trees_at}
use Rattle.item_start.proofs.trees.trees_at.Given as goal

abbrev pub invariant-loop-name : goal.invariant-loop-name
invariant-loop-name l =
    trees_at l.place (drop l.name-index l.pairs) (map plain_pair l.trees.items) (state_of l.work) ≡ trees_at l.place l.pairs [] (state_of l.work)
