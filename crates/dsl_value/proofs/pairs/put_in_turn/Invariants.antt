use Rattle.std.proofs.Common.{◌≡◌, [], T}
use Rattle.std.specs.Vec.Iter.{into_iter_items}
use Rattle.dsl_value.specs.Pairs.{dict_of, is_sorted}
use Rattle.dsl_value.proofs.pairs.put_in_turn.Given as goal

-- the pairs so far rise, and with those that are left put in they are all of them
abbrev pub invariant-loop-key : goal.invariant-loop-key
invariant-loop-key l = T (is_sorted l.sorted.items) × (dict_of (into_iter_items l.key-iterator) l.sorted.items ≡ dict_of l.fn.pairs.items [])
