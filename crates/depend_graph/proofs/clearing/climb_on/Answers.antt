use Rattle.std.proofs.Common.{◌≡◌, ◌≤◌, List, ℕ, Bool, true, length, set, ap, subst, arith}
use Rattle.std.proofs.lemmas.List.Elements.{All-weaker}
use Rattle.run_meaning.specs.Turns.{of_index}
use Rattle.depend_graph.specs.Clearing.{AreClearedUpTo, IsClimb}
use Rattle.depend_graph.proofs.Freed.{clear_more, climb_stays}
use Rattle.depend_graph.proofs.clearing.climb_on.Goals as goal

pub returns-clause-after : goal.returns-clause-after
returns-clause-after c =
    let ps = c.args.parents.now in
    let flags = c.args.cleared.now.items in
    let k = c.args.climb.checkable in
    let next = c.first_left-next.result in
    let many = c.requires.before.free.many in
    let inside = c.requires.climb.inside in
    let passed : AreClearedUpTo (of_index k ps) flags next =
    subst (λ (xs : List ℕ). AreClearedUpTo xs flags next) c.at-own.ensures
    (subst (λ (fs : List Bool). AreClearedUpTo c.at-own.result.now fs next) c.as_slice.ensures.value c.first_left-next.ensures) in
    let past : length (of_index k ps) ≤ next = (let e = ap length c.at-own.ensures in let f = c.if-next-own.false in omega (arith, e, f)) in
    record {
      many = c.requires.before.many;
      free = clear_more ps flags k next inside c.requires.before.free passed past;
      climbs = All-weaker (IsClimb ps flags) (IsClimb ps (set flags k true)) (λ x is. climb_stays ps flags k x (omega (arith, many, inside)) is) c.args.begun.now.items c.requires.before.climbs;
    }
