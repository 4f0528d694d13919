-- One line after the other.
use Rattle.std.proofs.Common.{List, [], ◌∷◌, ◌++◌, ℕ, ap, ◌∙◌}
use Rattle.site_gen.specs.Turns.{result_line}
use Rattle.site_gen.proofs.Texts.{listed_on}
use Rattle.site_gen.proofs.turns.turn_of.Goals as goal

pub loop-host-preserved : goal.loop-host-preserved
loop-host-preserved c =
    listed_on (result_line c.args.number) c.loop-host.lines c.push.new.self c.loop-host.host c.loop-host.invariant
    (c.in_ok-push.ensures.ok ∙ ap (λ (line : List ℕ). c.loop-host.lines ++ line ∷ []) c.in_ok-result_line.ensures)
