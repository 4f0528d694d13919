use Rattle.std.proofs.Common.{◌≡◌, ◌+◌, length, sym, subst, arith}
use Rattle.wheel_links.specs.Inside.{IsWheel}
use Rattle.wheel_links.proofs.Changes.{wheel-empty}
use Rattle.wheel_links.proofs.wheel.Wheel.new.Goals as goal

pub invariant_of-result : goal.invariant_of-result
invariant_of-result c =
    let cells : length c.in_ok-links.links ≡ c.from-3.result + c.args.capacity = omega (arith, c.in_ok-links.ensures.length) in
    subst (λ ms. IsWheel c.from-3.result ms c.in_ok-links.links 0) (sym c.in_ok-moments.ensures)
    (wheel-empty c.from-3.result c.args.capacity c.in_ok-links.links (omega arith) (omega arith) c.requires.capacity cells c.in_ok-links.ensures.alone)
