-- The event of one act more.
use Rattle.std.proofs.Common.{◌≡◌, rules}
use Rattle.round_check.specs.Shelves.{listed}
use Rattle.round_check.proofs.LoopLaws.{events_more}
use Rattle.round_check.proofs.Stepping.{at_is}
use Rattle.round_check.proofs.checking.events_in.Goals as goal

pub loop-act-preserved : goal.loop-act-preserved
loop-act-preserved c = λ p.
    let i = c.loop-act.act-index in
    let acts = c.args.acts.now in
    let a = c.act-item.result in
    let event : c.in_ok-clone.field-0 ≡ a.event = search rules in
    events_more i acts a c.in_ok-clone.field-0 p (listed c.loop-act.events.lists.entries p) (listed c.push.new.self.lists.entries p) (at_is i acts a c.loop-act-test.true c.act-item.is) event (c.loop-act.invariant p) (c.in_ok-push.ensures p)
