use Rattle.std.proofs.Common.{◌+◌, ◌*◌, length, ap, arith}
use Rattle.std.proofs.lemmas.List.{length_push}
use Rattle.depend_graph.specs.Clearing.{IsClimb, left}
use Rattle.depend_graph.proofs.Freed.{all_rest, last_of}
use Rattle.depend_graph.proofs.clearing.clear_begun.Goals as goal

pub climb_on-requires-clause-climb : goal.climb_on-requires-clause-climb
climb_on-requires-clause-climb c =
    last_of (IsClimb c.args.parents.now c.loop-climb.cleared.items) c.loop-climb.begun.items c.pop.new.self.items c.in-Some.climb c.in-Some.ensures.items c.loop-climb.invariant.climbs

pub climb_on-requires-clause-before : goal.climb_on-requires-clause-before
climb_on-requires-clause-before c = record {
  many = c.loop-climb.invariant.many;
  free = c.loop-climb.invariant.free;
  climbs = all_rest (IsClimb c.args.parents.now c.loop-climb.cleared.items) c.loop-climb.begun.items c.pop.new.self.items c.in-Some.climb c.in-Some.ensures.items c.loop-climb.invariant.climbs;
}

pub loop-climb-preserved : goal.loop-climb-preserved
loop-climb-preserved c = c.in_ok-climb_on.ensures.after

pub loop-climb-smaller : goal.loop-climb-smaller
loop-climb-smaller c =
    let e = ap length c.in-Some.ensures.items in
    let f = length_push c.pop.new.self.items c.in-Some.climb in
    let g = c.in_ok-climb_on.ensures.less in
    omega (arith, e, f, g)
