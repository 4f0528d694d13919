-- The first that isn't past knows the first that is in effect.
use Rattle.std.proofs.Common.{◌≡◌, ◌<◌, length, drop, filter, refl, ap, ◌∙◌, arith}
use Rattle.downtime_book.specs.declared.placed.Placed.{Placed}
use Rattle.downtime_book.specs.Downtime.{is_live}
use Rattle.downtime_book.specs.Firsts.{downtimes_of, first_of, firsts_of, starts}
use Rattle.downtime_book.proofs.Order.{told_at}
use Rattle.downtime_book.proofs.sorted_run.SortedRun.first_in_effect.Goals as goal

pub returns-in-Some : goal.returns-in-Some
returns-in-Some c =
    let m = c.args.moment in
    let ps = c.self.inside.placed.items in
    let k = c.first_live.result in
    let one = c.in-Some.first.now in
    let below = c.in-Some.ensures.variant.0 refl in
    let long = c.self.inside.placed.ok.0 in
    let within : k < length ps = omega (arith, long, below) in
    let told : one.firsts ≡ firsts_of (downtimes_of (drop k ps)) = ap (λ (p : Placed). p.firsts) c.in-Some.ensures.lookup ∙ told_at ps k one c.self.invariant.told within in
    c.in_effect.ensures (downtimes_of (drop k ps)) told ∙ ap (first_of (starts m c.args.problem)) (c.first_live.ensures.live ∙ ap (filter (is_live m)) c.self.view_is)
