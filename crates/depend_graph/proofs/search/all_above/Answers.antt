use Rattle.std.proofs.Common.{◌≡◌, ◌+◌, ◌<◌, length, ap, ◌∙◌, arith, sym, subst, IsPermutation}
use Rattle.std.proofs.lemmas.List.{length_push}
use Rattle.depend_graph.proofs.Pushing.{above_pushed, rises_pushed}
use Rattle.depend_graph.proofs.Sorting.{above_sorted}
use Rattle.depend_graph.proofs.search.all_above.Goals as goal

pub loop-checkable-preserved : goal.loop-checkable-preserved
loop-checkable-preserved c =
    let row = c.in_ok-ascending.field-0 in
    let same : IsPermutation c.in_ok-found.found row = subst (λ xs. IsPermutation xs row) c.as_slice.ensures c.in_ok-ascending.ensures.same in
    record {
      many = ap length c.in_ok-add.ensures.ok ∙ length_push c.loop-checkable.lists row ∙ ap (λ n. n + 1) c.loop-checkable.invariant.many;
      long = c.above.ensures.length;
      most = λ k d h. c.above.ensures.marked k d h;
      above = λ s are k l. above_pushed s c.loop-checkable.lists c.add.new.self row c.loop-checkable.checkable k c.loop-checkable.invariant.many c.in_ok-add.ensures.ok (c.loop-checkable.invariant.above s are)
          (above_sorted s c.loop-checkable.checkable c.in_ok-found.found row same c.in_ok-ascending.ensures.rising (c.in_ok-found.ensures.above s are)) l;
      rising = rises_pushed c.loop-checkable.lists c.add.new.self row c.in_ok-add.ensures.ok c.loop-checkable.invariant.rising c.in_ok-ascending.ensures.rising;
    }

pub returns-clause-above : goal.returns-clause-above
returns-clause-above c = λ s are. record {
  above = λ k l.
      let past = c.loop-checkable-test.false in
      let e = c.len-count.ensures in
      let m = are.many in
      c.loop-checkable.invariant.above s are k (omega (arith, past, e, m, l));
}
