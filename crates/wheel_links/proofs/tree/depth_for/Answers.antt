use Rattle.std.proofs.Common.{◌≡◌, ◌+◌, ◌*◌, ◌-◌, ◌^◌, ◌≤◌, sym, subst, arith}
use Rattle.std.specs.Int.Count.{count_leading_zeros}
use Rattle.std.proofs.lemmas.Nat.{leading_length}
use Rattle.wheel_links.proofs.tree.depth_for.Goals as goal

pub returns-clause-leaves : goal.returns-clause-leaves
returns-clause-leaves c =
    let h = leading_length 32 c.saturating_sub.result (omega arith) in
    let e : 32 - count_leading_zeros 32 c.saturating_sub.result ≡ h.0 = omega (arith, h.1) in
    subst (λ z. c.args.capacity ≤ 2 ^ z) (sym e) (omega (arith, h.2))

pub returns-clause-least : goal.returns-clause-least
returns-clause-least c =
    let h = leading_length 32 c.saturating_sub.result (omega arith) in
    let e : 32 - count_leading_zeros 32 c.saturating_sub.result ≡ h.0 = omega (arith, h.1) in
    subst (λ z. 2 ^ z ≤ 2 * (c.args.capacity - 1) + 1) (sym e) (omega (arith, h.3))
