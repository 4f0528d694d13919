use Rattle.std.proofs.Common.{◌≡◌, ◌∷◌, ◌++◌, encode_utf8_all}
use Rattle.std.specs.List.{flat_map}
use Rattle.site_base.specs.Quoted.{escaped}
use Rattle.site_base.proofs.quoting.push_quoted.Given as goal

abbrev pub invariant-loop-c : goal.invariant-loop-c
invariant-loop-c l = l.out ≡ l.fn.out ++ 34 ∷ flat_map escaped (encode_utf8_all l.yielded)
