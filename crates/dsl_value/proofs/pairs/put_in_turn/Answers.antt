use Rattle.std.proofs.Common.{T, rules, sym, subst}
use Rattle.dsl_value.specs.Pairs.{is_sorted}
use Rattle.dsl_value.proofs.Places.{sorted_put}
use Rattle.dsl_value.proofs.pairs.put_in_turn.Goals as goal

pub loop-key-preserved-in_ok-put_pair : goal.loop-key-preserved-in_ok-put_pair
loop-key-preserved-in_ok-put_pair c =
    let put_is = c.in_ok-put_pair.ensures.ok in
    (subst (λ ps. T (is_sorted ps)) (sym put_is) (sorted_put c.in-Some.key c.in-Some.value c.loop-key.sorted.items c.loop-key.invariant.0), rw put_is (search rules))

pub loop-key-preserved : goal.loop-key-preserved
loop-key-preserved c =
    let put_is = c.in_ok-put_pair.ensures.ok in
    (subst (λ ps. T (is_sorted ps)) (sym put_is) (sorted_put c.in-Some.key c.in-Some.value c.loop-key.sorted.items c.loop-key.invariant.0), rw put_is (search rules))
