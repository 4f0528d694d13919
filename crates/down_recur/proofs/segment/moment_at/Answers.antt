use Rattle.std.proofs.Common.{FitsSigned, w32, rules}
use Rattle.std.proofs.lemmas.Int.{to_z-of_z}
use Rattle.down_recur.proofs.Instants.{instant_gives}
use Rattle.down_recur.proofs.segment.moment_at.Goals as goal

pub returns : goal.returns
returns c =
    let fits : FitsSigned w32 c.args.day = c.ranges.day in
    let value = simp to_z-of_z at c.instant.ensures.value in
    let none = simp to_z-of_z at c.instant.ensures.none in
    instant_gives c.args.zone.now c.args.day c.args.second c.instant.result c.if-second-gt-DAY.false (search rules) value none
