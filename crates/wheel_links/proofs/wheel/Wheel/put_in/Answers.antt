use Rattle.std.proofs.Common.{◌≡◌, ◌+◌, ◌%◌, ◌<◌, length, None, ap, sym, subst, ◌∙◌, arith}
use Rattle.std.proofs.Math.Nat.{mod-lt}
use Rattle.wheel_links.specs.Inside.{IsWheel}
use Rattle.wheel_links.specs.Links.{IsAppended}
use Rattle.wheel_links.specs.Members.{moment_of}
use Rattle.wheel_links.proofs.Changes.{before_within, wheel-insert}
use Rattle.wheel_links.proofs.Slots.{slot-head}
use Rattle.wheel_links.proofs.wheel.Wheel.put_in.Goals as goal

pub append-requires-clause-last : goal.append-requires-clause-last
append-requires-clause-last g c =
    let w = c.self.inside in
    let a = c.self.invariant.slotted in
    let s = c.secs.result % w.slots in
    before_within w.slots w.moments w.links s s a (slot-head w.slots w.moments s (mod-lt c.secs.result a.some_slots))

pub invariant_of-self : goal.invariant_of-self
invariant_of-self g c =
    let w = c.self.inside in
    let n = w.slots in
    let m = c.args.moment in
    let id = c.args.id in
    let at : moment_of w.moments id ≡ None = ap (λ k. moment_of k id) c.self.view_is ∙ c.requires.absent in
    let len : length w.moments ≡ length c.args.self.now = ap length c.self.view_is in
    let within : id < length w.moments = omega arith in
    let cell : IsAppended w.links c.append.new.self (c.secs.result % n) (n + id) = subst (λ k. IsAppended w.links c.append.new.self (c.secs.result % n) (n + k)) c.from.ensures c.append.ensures.appended in
    let app : IsAppended w.links c.append.new.self (m % n) (n + id) = subst (λ k. IsAppended w.links c.append.new.self (k % n) (n + id)) c.secs.ensures.value cell in
    subst (λ z. IsWheel n z c.append.new.self (w.count + 1)) (sym c.set.ensures)
    (wheel-insert n w.moments w.links c.append.new.self w.count id m c.self.invariant within at c.append.ensures.length app)
