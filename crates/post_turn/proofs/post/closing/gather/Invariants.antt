use Rattle.std.proofs.Common.{◌≡◌, [], ◌++◌}
use Rattle.std.specs.Prelude.{All}
use Rattle.post_turn.specs.Turns.{resting}
use Rattle.post_turn.specs.Passes.{IsOn, callers_on}
use Rattle.post_turn.proofs.post.closing.gather.Given as goal

abbrev pub invariant-loop-place : goal.invariant-loop-place
invariant-loop-place g l = record {
  place : l.all.table_id ≡ l.lock.shared.table_id;
  me : l.all.me ≡ (resting l.all.me.0.callers, []);
  others : All (IsOn l.lock.shared.table_id) l.passes.items;
  together : callers_on l.passes.items ++ l.all.me.0.callers ≡ callers_on l.fn.passes;
}

abbrev pub decreases-loop-place : goal.decreases-loop-place
decreases-loop-place g l = goal.left-loop-place g l
