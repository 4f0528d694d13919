use Rattle.std.proofs.Common.{◌≡◌, ◌+◌, nat_eq, cond, length, Some, sym, ap, ◌∙◌, arith}
use Rattle.depend_graph.specs.Positions.{last_place}
use Rattle.depend_graph.proofs.LastPlaces.{place_push}
use Rattle.depend_graph.proofs.positions.add.Goals as goal

pub returns : goal.returns
returns c = λ ns long places n.
    let here : c.args.place ≡ 0 + length ns = omega (arith, long) in
    c.in_ok-insert.ensures.updates.0 n ∙ ap (λ o. cond (nat_eq c.args.number n) (Some c.args.place) o) (places n)
    ∙ ap (λ k. cond (nat_eq c.args.number n) (Some k) (last_place n 0 ns)) here ∙ sym (place_push n c.args.number 0 ns)
