use Rattle.std.proofs.Common.{◌≡◌, ◌+◌, length}
use denote.Text.{Utf8}
use denote.Shadow.{shadow}
use Rattle.std.specs.Str.{chars}
use Rattle.wildcards.specs.Wildcards.{describes, any_then}
use Rattle.wildcards.proofs.matching.any_rest.Given as goal

abbrev pub invariant-loop-others : goal.invariant-loop-others
invariant-loop-others l = shadow (Utf8 l.parts) × shadow (Utf8 l.rest) × (any_then (describes (chars l.parts)) (chars l.rest) ≡ any_then (describes (chars l.pattern)) (chars l.text))

abbrev pub decreases-loop-others : goal.decreases-loop-others
decreases-loop-others l = length (chars l.rest) + length (chars l.parts)
