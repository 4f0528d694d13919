-- Parts of the walk.
use Rattle.std.proofs.Common.{◌≡◌, ℕ, zero, suc, ◌-◌, ◌<◌, refl, ap, arith}
use Rattle.conf_sources.specs.Sources.{Told}
use Rattle.site_conf.specs.Walks.{WalkState, follows, part, part_with, onward_at}

-- the part of a file, by what follows its inclusions
pub part_is : (files : Told) (left index : ℕ) (s : WalkState) → part files left index s ≡ part_with files (onward_at files left) left index s
part_is files zero index s = refl
part_is files (suc left) index s = refl

-- a file that is to be followed is
pub follow_is : (files : Told) (left index : ℕ) (s : WalkState) → 0 < left → onward_at files left (follows index s) ≡ part files (left - 1) index s
follow_is files zero index s h = absurd (omega (arith, h))
follow_is files (suc left) index s h = ap (λ n. part files n index s) (by left)
  where
    by : (n : ℕ) → n ≡ suc n - 1
    by n = omega arith
