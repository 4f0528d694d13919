use Rattle.std.proofs.Common.{length}
use denote.Text.{Utf8}
use denote.Shadow.{shadow}
use Rattle.std.specs.Str.{chars}
use Rattle.wildcards.specs.Wildcards.{IsAlong}
use Rattle.wildcards.proofs.matching.go_along.Given as goal

abbrev pub invariant-loop-part : goal.invariant-loop-part
invariant-loop-part l = shadow (Utf8 l.parts) × shadow (Utf8 l.left) × IsAlong (chars l.pattern) (chars l.text) (chars l.parts) (chars l.left)

abbrev pub decreases-loop-part : goal.decreases-loop-part
decreases-loop-part l = length (chars l.parts)
