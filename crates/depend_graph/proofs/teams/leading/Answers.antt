use Rattle.std.proofs.Common.{◌<◌, ◌++◌, length, drop, sym, ap, ◌∙◌, subst, arith, length-set}
use Rattle.site_model.specs.declared.depend_spec.DependSpec.{DependSpec}
use Rattle.run_meaning.specs.Turns.{of_index}
use Rattle.depend_graph.specs.Teams.{leading}
use Rattle.depend_graph.proofs.Pushing.{leading_skip, leading_step}
use Rattle.depend_graph.proofs.teams.leading.Goals as goal
use Rattle.depend_graph.proofs.teams.leading.Goals.{then-leaders-place+in_ok-push, else-leaders-place}

pub loop-place-preserved : goal.loop-place-preserved
loop-place-preserved c =
    let l = c.loop-place-test.true in
    let m = c.requires.length in
    let e = c.loop-place.invariant.long in
    let h = c.requires.children c.loop-place.place c.index-depends-place.result l in
    let inside : c.index-depends-place.result.child < length c.loop-place.rows = subst (λ (d : DependSpec). d.child < length c.loop-place.rows) (sym c.index-depends-place.is) (omega (arith, h, e)) in
    elim c.if-leaders-place.branch [
      | then-leaders-place+in_ok-push w ↦ record {
        long = ap length (w.rows-is ∙ w.in_ok-push.ensures.ok) ∙ length-set c.loop-place.rows _ _ ∙ c.loop-place.invariant.long;
        rows = λ k. leading_step c.loop-place.rows c.if-leaders-place.rows k c.args.depends.now c.args.leaders.now c.loop-place.place c.index-depends-place.result _ l (omega (arith, l, m)) c.index-depends-place.is inside
            w.if-leaders-place.true (w.rows-is ∙ w.in_ok-push.ensures.ok) (c.loop-place.invariant.rows k);
      }
      | else-leaders-place w ↦ record {
        long = ap length w.rows-is ∙ c.loop-place.invariant.long;
        rows = λ k. leading_skip c.if-leaders-place.rows k c.args.depends.now c.args.leaders.now c.loop-place.place _ l (omega (arith, l, m)) w.if-leaders-place.false
            (ap (λ rs. of_index k rs ++ leading c.loop-place.place k (drop c.loop-place.place c.args.depends.now) (drop c.loop-place.place c.args.leaders.now)) w.rows-is ∙ c.loop-place.invariant.rows k);
      }
    ]
