use Rattle.std.proofs.Common.{◌++◌, length, drop, ap, ◌∙◌, arith, length-set}
use Rattle.run_meaning.specs.Turns.{of_index}
use Rattle.depend_graph.specs.Teams.{following}
use Rattle.depend_graph.proofs.Pushing.{following_skip, following_step}
use Rattle.depend_graph.proofs.teams.following.Goals as goal
use Rattle.depend_graph.proofs.teams.following.Goals.{then-leader-place+in_ok-push, else-leader-place}

pub loop-place-preserved : goal.loop-place-preserved
loop-place-preserved c =
    let l = c.loop-place-test.true in
    let e = c.loop-place.invariant.long in
    let h = c.requires.leaders c.loop-place.place 0 l in
    elim c.if-leader-place.branch [
      | then-leader-place+in_ok-push w ↦ record {
        long = ap length (w.rows-is ∙ w.in_ok-push.ensures.ok) ∙ length-set c.loop-place.rows _ _ ∙ c.loop-place.invariant.long;
        rows = λ k. following_step c.loop-place.rows c.if-leader-place.rows k c.args.leaders.now c.loop-place.place _ l (omega (arith, h, e)) w.if-leader-place.true (w.rows-is ∙ w.in_ok-push.ensures.ok) (c.loop-place.invariant.rows k);
      }
      | else-leader-place w ↦ record {
        long = ap length w.rows-is ∙ c.loop-place.invariant.long;
        rows = λ k. following_skip c.if-leader-place.rows k c.args.leaders.now c.loop-place.place _ l w.if-leader-place.false
            (ap (λ rs. of_index k rs ++ following c.loop-place.place k (drop c.loop-place.place c.args.leaders.now)) w.rows-is ∙ c.loop-place.invariant.rows k);
      }
    ]
