use Rattle.std.proofs.Common.{◌≡◌, [], ◌++◌}
use Rattle.std.specs.Vec.Iter.{into_iter_items}
use Rattle.dsl_value.specs.Pairs.{dict_of}
use Rattle.dsl_value.proofs.pairs.pairs_by_key.Given as goal

-- the pairs so far, with those that are left put in, are all of them
abbrev pub invariant-loop-key : goal.invariant-loop-key
invariant-loop-key l = dict_of (into_iter_items l.key-iterator) l.by_key.entries ≡ dict_of l.fn.pairs.items []

abbrev pub invariant-loop-pair : goal.invariant-loop-pair
invariant-loop-pair l = l.sorted.items ++ l.pair-iterator ≡ dict_of l.fn.pairs.items []
