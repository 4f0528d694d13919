-- One list more has its caller.
use Rattle.std.proofs.Common.{rules, ◌++◌, [], ◌∷◌, refl, sym, ap, ◌∙◌, subst, append_assoc}
use Rattle.std.specs.Vec.Iter.{into_iter_items}
use Rattle.post_rounds.specs.Hands.{AreCallers}
use Rattle.post_rounds.proofs.Dealing.{callers_more}
use Rattle.post_rounds.proofs.opening.callers_with.Goals as goal

pub loop-jobs-preserved : goal.loop-jobs-preserved
loop-jobs-preserved g c =
    let before = c.loop-jobs.invariant in
    let step = c.in-Some.ensures.steps.0 in
    let lists = c.loop-jobs.yielded in
    record {
      whole = append_assoc lists (c.in-Some.jobs ∷ []) (into_iter_items c.next.new.self) ∙ ap (λ js. lists ++ js) (sym step) ∙ before.whole;
      are = subst (AreCallers [] (lists ++ c.in-Some.jobs ∷ [])) (sym c.in_ok-push.ensures.items) (callers_more lists c.loop-jobs.callers.items c.in-Some.jobs _ before.are (search rules) refl (search rules));
    }
