-- The lines so far are those of the entries of the turns that were taken.
use Rattle.std.specs.Vec.Iter.{into_iter_items}
use Rattle.kept_runs.specs.Keeping.{Keeps}
use Rattle.kept_runs.proofs.keeping.take_turns.Given as goal

abbrev pub invariant-loop-turn : goal.invariant-loop-turn
invariant-loop-turn g l = Keeps (g.C.Workers.callers l.workers) l.fn.engine.run l.fn.turns (into_iter_items l.turn-iterator) l.engine l.lines.items
