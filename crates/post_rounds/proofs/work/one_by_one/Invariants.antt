-- The callers so far have ended, and those that are left may begin.
use Rattle.std.proofs.Common.{◌≡◌, ◌++◌}
use Rattle.std.specs.Prelude.{All}
use Rattle.std.specs.List.{AllZip}
use Rattle.std.specs.Vec.Iter.{into_iter_items}
use Rattle.post_rounds.proofs.work.one_by_one.Given as goal

abbrev pub invariant-loop-caller : goal.invariant-loop-caller
invariant-loop-caller g l = record {
  whole : l.yielded ++ into_iter_items l.caller-iterator ≡ l.fn.callers.items;
  left : All (g.W.Work.ready l.work) (into_iter_items l.caller-iterator);
  ended : AllZip (g.W.Work.ended l.work) l.yielded l.hands.items;
}
