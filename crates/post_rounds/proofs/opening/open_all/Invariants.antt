-- The first posts are made, and each caller has its pass of each of them.
use Rattle.std.proofs.Common.{◌≡◌, ◌++◌, length, map}
use Rattle.std.specs.Prelude.{All}
use Rattle.std.specs.Vec.Iter.{into_iter_items}
use Rattle.post_turn.specs.Passes.{callers_of}
use Rattle.post_rounds.specs.Hands.{AreCallers, base_of}
use Rattle.post_rounds.proofs.opening.open_all.Given as goal

abbrev pub invariant-loop-base : goal.invariant-loop-base
invariant-loop-base g l = record {
  bases : map base_of l.posts.items ++ into_iter_items l.base-iterator ≡ l.fn.bases.items;
  starts : All (λ base. g.M.Machine.fit base.machine base.start) (into_iter_items l.base-iterator);
  count : l.count ≡ length l.fn.lists.items;
  counts : All (λ post. callers_of post ≡ length l.fn.lists.items) l.posts.items;
  callers : AreCallers l.posts.items l.fn.lists.items l.callers.items;
}
