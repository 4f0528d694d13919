use Rattle.std.proofs.Common.{◌≡◌, length}
use denote.Text.{Utf8}
use denote.Shadow.{shadow}
use Rattle.std.specs.Str.{chars}
use Rattle.dsl_lib.specs.Texts.{skip_blanks}
use Rattle.dsl_lib.proofs.trimming.trimmed_start.Given as goal

abbrev pub invariant-loop-c : goal.invariant-loop-c
invariant-loop-c l = shadow (Utf8 l.rest) × (skip_blanks (chars l.rest) ≡ skip_blanks (chars l.text))

abbrev pub decreases-loop-c : goal.decreases-loop-c
decreases-loop-c l = length (chars l.rest)
