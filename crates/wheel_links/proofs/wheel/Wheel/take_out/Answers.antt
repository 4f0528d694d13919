use Rattle.std.proofs.Common.{◌≡◌, ◌+◌, ◌-◌, ◌%◌, ◌<◌, length, Some, ap, sym, subst, ◌∙◌}
use Rattle.wheel_links.specs.Inside.{IsWheel}
use Rattle.wheel_links.specs.Links.{before_at, after_at, IsUnlinked}
use Rattle.wheel_links.specs.Members.{moment_of}
use Rattle.wheel_links.proofs.Changes.{before_within, after_within, wheel-remove}
use Rattle.wheel_links.proofs.Members.{member_at}
use Rattle.wheel_links.proofs.Slots.{slot-member}
use Rattle.wheel_links.proofs.wheel.Wheel.take_out.Goals as goal

pub unlink-requires-clause-before : goal.unlink-requires-clause-before
unlink-requires-clause-before g c =
    let w = c.self.inside in
    let m = member_at c.args.self.now c.args.id c.requires.member in
    let at : moment_of w.moments c.args.id ≡ Some m.0 = ap (λ ms. moment_of ms c.args.id) c.self.view_is ∙ m.1 in
    subst (λ k. before_at w.links k < length w.links) (sym (ap (λ k. w.slots + k) c.from.ensures))
    (before_within w.slots w.moments w.links (w.slots + c.args.id) (m.0 % w.slots) c.self.invariant.slotted (slot-member w.slots w.moments c.args.id m.0 at))

pub unlink-requires-clause-after : goal.unlink-requires-clause-after
unlink-requires-clause-after g c =
    let w = c.self.inside in
    let m = member_at c.args.self.now c.args.id c.requires.member in
    let at : moment_of w.moments c.args.id ≡ Some m.0 = ap (λ ms. moment_of ms c.args.id) c.self.view_is ∙ m.1 in
    subst (λ k. after_at w.links k < length w.links) (sym (ap (λ k. w.slots + k) c.from.ensures))
    (after_within w.slots w.moments w.links (w.slots + c.args.id) (m.0 % w.slots) c.self.invariant.slotted (slot-member w.slots w.moments c.args.id m.0 at))

pub invariant_of-self : goal.invariant_of-self
invariant_of-self g c =
    let w = c.self.inside in
    let n = w.slots in
    let m = member_at c.args.self.now c.args.id c.requires.member in
    let at : moment_of w.moments c.args.id ≡ Some m.0 = ap (λ ms. moment_of ms c.args.id) c.self.view_is ∙ m.1 in
    let un : IsUnlinked w.links c.unlink.new.self (n + c.args.id) = subst (λ k. IsUnlinked w.links c.unlink.new.self (n + k)) c.from.ensures c.unlink.ensures.unlinked in
    subst (λ z. IsWheel n z c.unlink.new.self (w.count - 1)) (sym c.set.ensures)
    (wheel-remove n w.moments w.links c.unlink.new.self w.count c.args.id m.0 c.self.invariant at c.unlink.ensures.length un)
