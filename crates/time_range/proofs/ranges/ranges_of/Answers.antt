-- A pair that is no range ends the loop with its key.
use Rattle.std.proofs.Common.{◌∙◌, ap, sym, subst, Err}
use Rattle.site_base.specs.View.{view}
use Rattle.time_range.specs.Spans.{IsPushed}
use Rattle.time_range.specs.Ranges.{range_of}
use Rattle.time_range.proofs.RangeLemmas.{loop_refused, loop_taken, loop_ended}
use Rattle.time_range.proofs.ranges.ranges_of.Goals as goal

pub returns-then-not-branch : goal.returns-then-not-branch
returns-then-not-branch c =
    let pushed = subst (λ b. IsPushed b c.loop-key.ranges c.push_range.new.out (range_of c.loop-key-item.result.0 (view c.loop-key-item.result.1))) c.if-not-branch.true (c.in_ok-push_range.ensures {u = tt}) in
    loop_refused c.loop-key.ranges c.push_range.new.out c.args.pairs.now c.loop-key.key-index c.loop-key-item.result _ c.loop-key-test.true c.loop-key-item.is c.loop-key.invariant pushed
    ∙ ap Err (sym (c.in_ok-clone.ensures {u = tt}).cases)

pub loop-key-preserved : goal.loop-key-preserved
loop-key-preserved c =
    let pushed = subst (λ b. IsPushed b c.loop-key.ranges c.push_range.new.out (range_of c.loop-key-item.result.0 (view c.loop-key-item.result.1))) c.if-not-branch.false (c.in_ok-push_range.ensures {u = tt}) in
    loop_taken c.loop-key.ranges c.push_range.new.out c.args.pairs.now c.loop-key.key-index c.loop-key-item.result _ c.loop-key-test.true c.loop-key-item.is c.loop-key.invariant pushed

pub returns : goal.returns
returns c = loop_ended c.loop-key.ranges c.args.pairs.now c.loop-key.key-index _ c.loop-key-test.false c.loop-key.invariant
