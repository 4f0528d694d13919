use Rattle.std.proofs.Common.{◌≡◌, ◌<◌, [], length, All, sym, ap, ◌∙◌, subst, arith, get_or}
use Rattle.std.proofs.lemmas.List.{get_or_read}
use Rattle.run_meaning.specs.Turns.{of_index}
use Rattle.depend_graph.specs.Search.{added, AreAbove, AreMarked}
use Rattle.depend_graph.proofs.Marking.{added_longer, few_marked, none_marked}
use Rattle.depend_graph.proofs.Searching.{above_first, above_more, all_above, begun_first, begun_more, closed_more}
use Rattle.depend_graph.proofs.search.above.Goals as goal

pub add_unmarked-requires-clause-marked : goal.add_unmarked-requires-clause-marked
add_unmarked-requires-clause-marked c =
    subst (λ xs. AreMarked c.args.mark xs c.args.marks.now.items) (sym c.new-found.ensures.items) (none_marked c.args.mark c.args.marks.now.items c.requires.unmarked)

pub loop-next-init : goal.loop-next-init
loop-next-init c =
    let is : c.add_unmarked.new.found.items ≡ added [] (of_index c.args.checkable c.args.parents.now) =
    c.in_ok-add_unmarked.ensures.found ∙ ap (λ xs. added xs c.at.result.now) c.new-found.ensures.items ∙ ap (added []) c.at.ensures in
    record {
      long = c.in_ok-add_unmarked.ensures.length ∙ c.requires.length;
      marked = c.in_ok-add_unmarked.ensures.marked;
      most = c.in_ok-add_unmarked.ensures.most (λ k d l. let h = c.requires.unmarked k d l in omega (arith, h));
      within = omega arith;
      begun = begun_first c.add_unmarked.new.found.items (of_index c.args.checkable c.args.parents.now) is;
      closed = λ k q h. absurd (omega (arith, h));
      above = λ s are. above_first c.args.parents.now s c.args.checkable c.add_unmarked.new.found.items are c.requires.checkable is;
    }

pub loop-next-smaller : goal.loop-next-smaller
loop-next-smaller c =
    let a = c.loop-next.invariant.marked.few in
    let b = few_marked c.args.mark c.loop-next.marks.items in
    let d = c.loop-next.invariant.long in
    let e = c.loop-next-test.true in
    let f = c.len.ensures in
    omega (arith, a, b, d, e, f)

pub loop-next-preserved : goal.loop-next-preserved
loop-next-preserved c =
    let e = c.loop-next-test.true in
    let f = c.len.ensures in
    let low : c.loop-next.next < length c.loop-next.found.items = omega (arith, e, f) in
    let row = of_index (get_or c.loop-next.found.items c.loop-next.next 0) c.args.parents.now in
    let is : c.add_unmarked-in-loop-next.new.found.items ≡ added c.loop-next.found.items row =
    c.in_ok-add_unmarked-2.ensures.found ∙ ap (added c.loop-next.found.items) c.at-in-loop-next.ensures
    ∙ ap (λ k. added c.loop-next.found.items (of_index k c.args.parents.now)) (get_or_read c.loop-next.found.items c.loop-next.next c.index.result.now low c.index.ensures 0) in
    let inside : get_or c.loop-next.found.items c.loop-next.next 0 < length c.args.parents.now =
    (let h = c.loop-next.invariant.marked.below c.loop-next.next 0 low in let g = c.loop-next.invariant.long in omega (arith, h, g)) in
    record {
      long = c.in_ok-add_unmarked-2.ensures.length ∙ c.loop-next.invariant.long;
      marked = c.in_ok-add_unmarked-2.ensures.marked;
      most = c.in_ok-add_unmarked-2.ensures.most c.loop-next.invariant.most;
      within = (let g = added_longer c.loop-next.found.items row in let h = ap length is in omega (arith, low, g, h));
      begun = begun_more c.loop-next.found.items c.add_unmarked-in-loop-next.new.found.items row (of_index c.args.checkable c.args.parents.now) is c.loop-next.invariant.begun;
      closed = closed_more c.args.parents.now c.loop-next.found.items c.add_unmarked-in-loop-next.new.found.items c.loop-next.next low is c.loop-next.invariant.closed;
      above = λ s are. above_more c.args.parents.now s c.args.checkable c.loop-next.found.items c.add_unmarked-in-loop-next.new.found.items c.loop-next.next are low inside is (c.loop-next.invariant.above s are);
    }

pub returns-clause-above : goal.returns-clause-above
returns-clause-above c = λ s are.
    let e = c.loop-next-test.false in
    let f = c.len.ensures in
    subst (AreAbove s c.args.checkable) (sym c.from.ensures)
    (all_above c.args.parents.now s c.args.checkable c.loop-next.found.items c.loop-next.next are c.requires.checkable
    (subst (λ n. All (λ p. p < n) c.loop-next.found.items) c.loop-next.invariant.long c.loop-next.invariant.marked.below)
    c.loop-next.invariant.marked.once (omega (arith, e, f)) c.loop-next.invariant.begun c.loop-next.invariant.closed (c.loop-next.invariant.above s are))
