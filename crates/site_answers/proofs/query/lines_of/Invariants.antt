-- The lines so far and the rest are the text.
use Rattle.std.proofs.Common.{◌≡◌, ◌++◌, length}
use Rattle.std.specs.List.{concat}
use denote.Shadow.{shadow}
use denote.Text.{Utf8}
use Rattle.site_answers.proofs.query.lines_of.Given as goal

abbrev pub invariant-loop-line : goal.invariant-loop-line
invariant-loop-line l = shadow (Utf8 l.rest) × (concat l.lines ++ l.rest ≡ l.text)

abbrev pub decreases-loop-line : goal.decreases-loop-line
decreases-loop-line l = length l.rest
