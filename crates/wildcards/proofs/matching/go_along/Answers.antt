use Rattle.std.proofs.Common.{rules, eqb, ◌≡◌, false}
use Rattle.wildcards.proofs.Along.{along_more}
use Rattle.wildcards.proofs.matching.go_along.Goals as goal

pub loop-part-preserved : goal.loop-part-preserved
loop-part-preserved c =
    let single : eqb c.in-Some.part 42 ≡ false = search rules in
    (search rules, search rules, along_more _ _ _ _ _ _ _ _ c.loop-part.invariant.2 c.in-Some.ensures single c.in-Some-first_character.ensures (search rules))
