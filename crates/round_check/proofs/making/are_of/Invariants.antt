-- What is left is the same where all is.
use Rattle.std.proofs.Common.{◌≡◌, map, drop}
use Rattle.std.specs.Str.{bytes_eq}
use Rattle.site_model.specs.declared.sight.Sight.{Sight}
use Rattle.round_check.proofs.making.are_of.Given as goal

abbrev pub invariant-loop-at : goal.invariant-loop-at
invariant-loop-at l = bytes_eq (map (λ (x : Sight). x.checkable) (drop l.at l.sights)) (drop l.at l.checkables) ≡ bytes_eq (map (λ (x : Sight). x.checkable) l.sights) l.checkables
