-- A wave begins with all of its tasks open.
use Rattle.std.proofs.Common.{rules, ◌≡◌, ℕ, ◌≤◌, ap, ◌∙◌, arith, length, map, vec_capacity}
use Rattle.commit_board.specs.declared.slot.Slot.TheVariants.{Open}
use Rattle.commit_board.specs.Places.{below, times}
use Rattle.commit_board.proofs.Keeping.{starts}
use Rattle.commit_board.proofs.board.Board.start.Goals as goal

pub invariant_of-self : goal.invariant_of-self
invariant_of-self g c =
    let ts = c.args.tasks.items in
    let free = c.in_ok-free.free in
    let n : c.len-count.result ≡ length ts = search rules in
    let slots : c.in_ok-slots.slots.items ≡ map (λ t. Open t) ts = search rules in
    let listed : (k : ℕ) → times k free.items ≡ below k c.len-count.result = c.in_ok-free.ensures.each in
    let many : length free.items ≡ c.len-count.result = search rules in
    let room : c.len-count.result ≤ vec_capacity free = search rules in
    rw (slots, n) (starts g.L.Course.size g.L.Course.asks g.L.Course.gives c.args.wave ts free c.requires.size c.requires.asked (λ k. listed k ∙ ap (below k) n) (many ∙ n) (omega (arith, n, room)))
