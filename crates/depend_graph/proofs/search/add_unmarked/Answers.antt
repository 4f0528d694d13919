use Rattle.std.proofs.Common.{◌≡◌, ◌≢◌, ◌<◌, ◌≤◌, ◌++◌, ◌∷◌, [], length, get_or, set, nat_eq, All, sym, ap, ◌∙◌, subst, arith, eq-eqb, length-set}
use Rattle.std.proofs.lemmas.List.{get_or_read}
use Rattle.std.proofs.lemmas.List.Elements.{All-set}
use Rattle.depend_graph.specs.Parents.{has}
use Rattle.depend_graph.specs.Search.{AreMarked}
use Rattle.depend_graph.proofs.Has.{eq_apart}
use Rattle.depend_graph.proofs.Marking.{mark_more, rest_new, rest_seen}
use Rattle.depend_graph.proofs.search.add_unmarked.Goals as goal
use Rattle.depend_graph.proofs.search.add_unmarked.Goals.{then-index-mark+in_ok-push, else-index-mark}

pub loop-parent-preserved : goal.loop-parent-preserved
loop-parent-preserved c =
    let l = c.loop-parent-test.true in
    let found = c.loop-parent.found.items in
    let marks = c.loop-parent.marks.items in
    let p = get_or c.args.parents.now c.loop-parent.parent-index 0 in
    let inside : p < length marks = (let h = c.requires.below c.loop-parent.parent-index 0 l in let e = c.loop-parent.invariant.long in omega (arith, h, e)) in
    let read : c.index.result.now ≡ get_or marks p 0 = get_or_read marks p c.index.result.now inside c.index.ensures 0 in
    let mine : nat_eq (get_or marks p 0) c.args.mark ≡ has p found = c.loop-parent.invariant.marked.marked p inside in
    elim c.if-index-mark.branch [
      | then-index-mark+in_ok-push w ↦
          let apart : get_or marks p 0 ≢ c.args.mark = λ e. w.if-index-mark.true (read ∙ e) in
          let grown : c.if-index-mark.found.items ≡ found ++ p ∷ [] = ap (λ v. v.items) w.found-is ∙ w.in_ok-push.ensures.items in
          let marked : c.if-index-mark.marks.items ≡ set marks p c.args.mark = ap (λ v. v.items) w.marks-is in
          record {
            rest = rest_new found c.if-index-mark.found.items c.args.parents.now c.loop-parent.parent-index _ l (sym mine ∙ eq_apart (get_or marks p 0) c.args.mark apart) grown c.loop-parent.invariant.rest;
            marked = subst (λ xs. AreMarked c.args.mark xs c.if-index-mark.marks.items) (sym grown) (subst (λ ms. AreMarked c.args.mark (found ++ p ∷ []) ms) (sym marked) (mark_more c.args.mark found marks p inside apart c.loop-parent.invariant.marked));
            long = ap length marked ∙ length-set marks p c.args.mark ∙ c.loop-parent.invariant.long;
            most = λ f. subst (All (λ m. m ≤ c.args.mark)) (sym marked) (All-set (λ m. m ≤ c.args.mark) marks p c.args.mark (omega arith) (c.loop-parent.invariant.most f));
          }
      | else-index-mark w ↦
          let kept : c.if-index-mark.found.items ≡ found = ap (λ v. v.items) w.found-is in
          let same : c.if-index-mark.marks.items ≡ marks = ap (λ v. v.items) w.marks-is in
          record {
            rest = rest_seen found c.if-index-mark.found.items c.args.parents.now c.loop-parent.parent-index _ l (sym mine ∙ eq-eqb (get_or marks p 0) c.args.mark (sym read ∙ w.if-index-mark.false)) kept c.loop-parent.invariant.rest;
            marked = subst (λ xs. AreMarked c.args.mark xs c.if-index-mark.marks.items) (sym kept) (subst (λ ms. AreMarked c.args.mark found ms) (sym same) c.loop-parent.invariant.marked);
            long = ap length same ∙ c.loop-parent.invariant.long;
            most = λ f. subst (All (λ m. m ≤ c.args.mark)) (sym same) (c.loop-parent.invariant.most f);
          }
    ]
