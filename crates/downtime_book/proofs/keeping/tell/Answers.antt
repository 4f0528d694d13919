-- Each turn tells one more.
use Rattle.std.proofs.Common.{◌≡◌, ℕ, ◌-◌, ◌+◌, ◌<◌, ◌∷◌, List, length, get_or, set, drop, refl, sym, ap, ◌∙◌, subst, arith}
use Rattle.std.proofs.lemmas.List.{length-map, map-set, length-set}
use Rattle.downtime_book.specs.declared.downtime.Downtime.{Downtime}
use Rattle.downtime_book.specs.declared.placed.Placed.{Placed}
use Rattle.downtime_book.specs.Firsts.{AreTold, downtimes_of, firsts_of}
use Rattle.downtime_book.proofs.Lists.{set_same}
use Rattle.downtime_book.proofs.Order.{at_place, drop_whole, same_at, tell_more}
use Rattle.downtime_book.proofs.keeping.tell.Goals as goal

pub loop-place-init : goal.loop-place-init
loop-place-init c =
    let none = drop_whole c.args.placed.now in
    record {
      same = refl;
      place = omega arith;
      firsts = c.none-firsts.ensures ∙ ap (λ (l : List Placed). firsts_of (downtimes_of l)) (sym none);
      told = subst AreTold (sym none) tt;
    }

pub loop-place-preserved : goal.loop-place-preserved
loop-place-preserved c =
    let ps = c.loop-place.placed in
    let place = c.loop-place.place in
    let n = place - 1 in
    let next : n + 1 ≡ place = omega (arith, c.loop-place-test.true) in
    let within : n < length ps = omega (arith, next, c.loop-place.invariant.place) in
    let x = c.index-placed-place-in-loop-place.result in
    let is = c.index-placed-place-in-loop-place.is in
    let d = (get_or ps n x).downtime in
    let y : Placed = record { downtime = d; firsts = c.with-firsts.result } in
    let given = c.with-firsts.ensures (downtimes_of (drop place ps)) c.loop-place.invariant.firsts in
    let one = same_at ps n c.index-placed-place.result x within in
    let first = c.index-placed-place.is in
    let told : c.with-firsts.result ≡ firsts_of (d ∷ downtimes_of (drop place ps)) = cc in
    let more = tell_more ps place n y next within told c.loop-place.invariant.told in
    let stands = ap (λ (p : Placed). p.downtime) is in
    let long = length-map ps (λ (p : Placed). p.downtime) in
    let same = set_same (downtimes_of ps) n x.downtime (omega (arith, long, within)) (stands ∙ sym (at_place ps n x)) in
    record {
      same = map-set (λ (p : Placed). p.downtime) ps n y ∙ ap (λ (z : Downtime). set (downtimes_of ps) n z) (sym stands) ∙ same ∙ c.loop-place.invariant.same;
      place = omega (arith, within, length-set ps n y);
      firsts = more.0;
      told = more.1;
    }

pub returns-clause-same : goal.returns-clause-same
returns-clause-same c = c.loop-place.invariant.same

pub returns-clause-told : goal.returns-clause-told
returns-clause-told c =
    let first : c.loop-place.place ≡ 0 = omega (arith, c.loop-place-test.false) in
    subst (λ (k : ℕ). AreTold (drop k c.loop-place.placed)) first c.loop-place.invariant.told
