use Rattle.std.proofs.Common.{◌≡◌, ◌++◌, length, map}
use denote.Text.{Utf8}
use denote.Shadow.{shadow}
use Rattle.std.specs.Str.{chars}
use Rattle.dsl_value.specs.declared.value.Value.TheVariants as value
use Rattle.dsl_lib.specs.Texts.{is_among, pieces}
use Rattle.dsl_lib.proofs.Pieces.{pieces_from}
use Rattle.dsl_lib.proofs.splitting.pieces.Given as goal

abbrev pub invariant-loop-c : goal.invariant-loop-c
invariant-loop-c l = shadow (Utf8 l.rest) × (l.pieces ++ pieces_from (is_among (chars l.separators)) l.piece (chars l.rest) ≡ map value.Str (pieces l.text l.separators))

abbrev pub decreases-loop-c : goal.decreases-loop-c
decreases-loop-c l = length (chars l.rest)
