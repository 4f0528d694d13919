use Rattle.std.proofs.Common.{◌≡◌, ◌+◌, length}
use denote.Text.{Utf8}
use denote.Shadow.{shadow}
use Rattle.dsl_lib.specs.Texts.{replaced_behind}
use Rattle.dsl_lib.proofs.over.replaced_is_over.Given as goal

-- what is passed is taken off
abbrev pub invariant-loop-front : goal.invariant-loop-front
invariant-loop-front l = shadow (Utf8 l.rest) × (l.most + length (replaced_behind l.part l.by 0 l.rest) ≡ l.left + length (replaced_behind l.part l.by 0 l.text))

abbrev pub decreases-loop-front : goal.decreases-loop-front
decreases-loop-front l = length l.rest
