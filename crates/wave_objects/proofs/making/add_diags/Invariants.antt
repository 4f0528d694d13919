use Rattle.std.proofs.Common.{◌≡◌, ◌++◌}
use Rattle.std.specs.Vec.Iter.{into_iter_items}
use Rattle.wave_objects.proofs.making.add_diags.Given as goal

abbrev pub invariant-loop-diag : goal.invariant-loop-diag
invariant-loop-diag l = l.out ++ into_iter_items l.diag-iterator ≡ l.fn.out ++ l.fn.more
