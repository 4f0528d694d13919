-- What is told so far, with what is wrong with the attributes that are left, is all.
use Rattle.std.proofs.Common.{◌≡◌, ◌++◌, drop}
use Rattle.site_base.specs.View.{pairs_view}
use Rattle.object_types.specs.Checks.{set_faults}
use Rattle.object_types.proofs.checking.push_set_faults.Given as goal

abbrev pub invariant-loop-name : goal.invariant-loop-name
invariant-loop-name l =
    l.out ++ set_faults l.item l.kind (pairs_view (drop l.name-index l.pairs)) ≡ l.fn.out ++ set_faults l.item l.kind (pairs_view l.pairs)
