-- What is told so far, with what the attributes that are left name, is all.
use Rattle.std.proofs.Common.{◌≡◌, ◌++◌, drop}
use Rattle.site_base.specs.View.{pairs_view}
use Rattle.conf_check.specs.Keys.{in_keys}
use Rattle.conf_check.specs.References.{pairs_faults}
use Rattle.conf_check.proofs.names.push_pairs.Given as goal

abbrev pub invariant-loop-name : goal.invariant-loop-name
invariant-loop-name l =
    l.out ++ pairs_faults (in_keys l.keys) l.item l.kind (pairs_view l.pairs) (pairs_view (drop l.name-index l.pairs))
    ≡ l.fn.out ++ pairs_faults (in_keys l.keys) l.item l.kind (pairs_view l.pairs) (pairs_view l.pairs)
