-- The first knows the first of those that wait; if that hasn't started, a problem triggers none.
use Rattle.std.proofs.Common.{◌≡◌, ◌<◌, length, None, refl, sym, ap, ◌∙◌, arith}
use Rattle.downtime_book.specs.declared.firsts.Firsts.{Firsts}
use Rattle.downtime_book.specs.declared.placed.Placed.{Placed}
use Rattle.downtime_book.specs.Firsts.{downtimes_of, first_of, firsts_of, is_waiting}
use Rattle.downtime_book.specs.Naming.{started}
use Rattle.downtime_book.proofs.Order.{none_of, told_at}
use Rattle.downtime_book.proofs.Starts.{none_triggered}
use Rattle.downtime_book.proofs.keeping.waits.Goals as goal

pub returns-in-Some : goal.returns-in-Some
returns-in-Some c = λ no told.
    let m = c.args.moment in
    let ps = c.args.placed.now.items in
    let one = c.in-Some.first.now in
    let below = c.in-Some.ensures.variant.0 refl in
    let long = c.args.placed.now.ok.0 in
    let within : 0 < length ps = omega (arith, long, below) in
    let firsts : one.firsts ≡ firsts_of (downtimes_of ps) = ap (λ (p : Placed). p.firsts) c.in-Some.ensures.lookup ∙ told_at ps 0 one told within in
    let none : started m (first_of is_waiting (downtimes_of ps)) ≡ None =
    sym (c.started.ensures ∙ ap (λ (f : Firsts). started m f.waiting) firsts) ∙ none_of c.started.result (sym c.is_some.ensures ∙ no) in
    none_triggered m (downtimes_of ps) none
