-- What is dealt opens the turn.
use Rattle.turn_engine.proofs.Rounding.{opened}
use Rattle.turn_engine.proofs.turns.deal_turn.Goals as goal

pub returns : goal.returns
returns c =
    let deals = c.in_ok-dealt.ensures in
    opened {w = c.args.state.now} {turn = c.args.turn.now} c.as_slice.result.now c.as_slice.ensures.value c.requires c.later_of-moment.ensures deals.lines deals.reports deals.ticks deals.refusals deals.plan
