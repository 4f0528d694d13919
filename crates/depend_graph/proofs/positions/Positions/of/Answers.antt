use Rattle.std.proofs.Common.{take, sym, subst, arith}
use Rattle.std.proofs.lemmas.List.{length-take-le, take_more}
use Rattle.depend_graph.specs.Positions.{HasPlaces}
use Rattle.depend_graph.proofs.positions.Positions.of.Goals as goal

pub loop-place-preserved : goal.loop-place-preserved
loop-place-preserved c =
    let l = c.loop-place-test.true in
    subst (HasPlaces c.add.new.by_number) (sym (take_more c.args.numbers.now c.loop-place.place 0 l))
    (c.in_ok-add.ensures (take c.loop-place.place c.args.numbers.now) (length-take-le c.loop-place.place c.args.numbers.now (omega (arith, l))) c.loop-place.invariant)
