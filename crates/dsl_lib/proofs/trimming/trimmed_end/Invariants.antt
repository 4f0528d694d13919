use Rattle.std.proofs.Common.{◌≡◌, length, reverse}
use denote.Text.{Utf8}
use denote.Shadow.{shadow}
use Rattle.std.specs.Str.{chars}
use Rattle.dsl_lib.specs.Texts.{skip_blanks}
use Rattle.dsl_lib.proofs.trimming.trimmed_end.Given as goal

abbrev pub invariant-loop-end : goal.invariant-loop-end
invariant-loop-end l = shadow (Utf8 l.rest) × (skip_blanks (reverse (chars l.rest)) ≡ skip_blanks (reverse (chars l.text)))

abbrev pub decreases-loop-end : goal.decreases-loop-end
decreases-loop-end l = length (chars l.rest)
