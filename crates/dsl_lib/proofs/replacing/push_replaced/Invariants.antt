use Rattle.std.proofs.Common.{◌≡◌, ◌++◌, length}
use denote.Text.{Utf8}
use denote.Shadow.{shadow}
use Rattle.dsl_lib.specs.Texts.{replaced_behind}
use Rattle.dsl_lib.proofs.replacing.push_replaced.Given as goal

abbrev pub invariant-loop-front : goal.invariant-loop-front
invariant-loop-front l = shadow (Utf8 l.rest) × (l.out ++ replaced_behind l.part l.by 0 l.rest ≡ l.fn.out ++ replaced_behind l.part l.by 0 l.text)

abbrev pub decreases-loop-front : goal.decreases-loop-front
decreases-loop-front l = length l.rest
