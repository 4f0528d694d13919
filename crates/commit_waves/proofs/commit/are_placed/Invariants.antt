use Rattle.std.proofs.Common.{All, drop, length, ◌<◌}
use Rattle.commit_waves.proofs.commit.are_placed.Given as goal

abbrev pub invariant-loop-object : goal.invariant-loop-object
invariant-loop-object l = All (λ o. o.place.file < length l.files) (drop l.object-index l.objects) → All (λ o. o.place.file < length l.files) l.objects
