-- Who doesn't stand on the wheel waits.
use Rattle.std.proofs.Common.{◌≡◌, length, rules}
use Rattle.check_slots.proofs.OnWheel.{waiting_is}
use Rattle.check_slots.proofs.watches.Watches.waiting.Goals as goal

pub returns : goal.returns
returns c =
    let all : c.len.result ≡ length c.self.inside.each.items = search rules in
    waiting_is _ _ _ _ _ c.self.invariant c.self.view_is all c.len-2.ensures
