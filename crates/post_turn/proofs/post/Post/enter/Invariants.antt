use Rattle.std.proofs.Common.{◌≡◌, []}
use Rattle.post_turn.specs.Turns.{caller, waiting}
use Rattle.post_turn.specs.Passes.{start_of, seen_of, mine_of}
use Rattle.post_turn.proofs.post.Post.enter.Given as goal

abbrev pub invariant-loop : goal.invariant-loop
invariant-loop g l = record {
  place : l.pass.place.table_id ≡ l.self.lock.shared.table_id;
  whose : l.pass.caller ≡ l.fn.pass.caller;
  me : l.pass.place.me ≡ (waiting l.ticket (caller l.self.machine (start_of l.self) l.fn.pass.caller (seen_of l.fn.pass) (mine_of l.fn.pass)), []);
}
