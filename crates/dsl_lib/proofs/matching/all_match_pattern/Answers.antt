use Rattle.std.proofs.Common.{arith, ◌++◌, ◌∷◌, [], not, ◌==◌, length, refl}
use Rattle.wildcards.specs.Wildcards.{matches}
use Rattle.dsl_lib.specs.Matching.{matched_text}
use Rattle.dsl_lib.proofs.AllIn.{front_step}
use Rattle.dsl_lib.proofs.Matched.{option_some, all_more}
use Rattle.dsl_lib.proofs.matching.all_match_pattern.Goals as goal

pub loop-item-preserved : goal.loop-item-preserved
loop-item-preserved c =
    let made = c.loop-item.invariant.0 in
    let found = option_some (matches c.args.pattern.now) (matched_text c.item-item.result) c.in_ok-one.one c.in_ok-one.ensures in
    (made ++ found.0 ∷ [], all_more (matches c.args.pattern.now) (not (length c.args.items.now == 0)) c.loop-item.all c.in_ok-one.one _ made found.0 c.loop-item.invariant.1 found.2 refl, front_step matched_text c.args.items.now c.loop-item.item-index c.item-item.result made found.0 _ (omega arith) c.item-item.is found.1 c.loop-item.invariant.2)
