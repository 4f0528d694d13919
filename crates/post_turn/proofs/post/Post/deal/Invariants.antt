use Rattle.std.proofs.Common.{◌≡◌, ◌-◌, [], length}
use Rattle.post_turn.specs.Turns.{newcomers, resting}
use Rattle.post_turn.specs.Passes.{start_of, AreDealt}
use Rattle.post_turn.proofs.post.Post.deal.Given as goal

abbrev pub invariant-loop-caller : goal.invariant-loop-caller
invariant-loop-caller g l = record {
  place : l.place.table_id ≡ l.self.lock.shared.table_id;
  me : l.place.me ≡ (resting (newcomers l.self.machine (start_of l.self) l.caller (l.callers - l.caller)), []);
  count : length l.passes ≡ l.caller;
  dealt : AreDealt l.self l.passes;
}
