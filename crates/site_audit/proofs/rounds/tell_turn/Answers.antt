use Rattle.std.proofs.Common.{map, ap, ◌∙◌}
use Rattle.site_audit.specs.ByCallers.{told_by}
use Rattle.site_audit.proofs.rounds.tell_turn.Goals as goal

pub returns-in-Some-clause-round : goal.returns-in-Some-clause-round
returns-in-Some-clause-round c = λ several. c.in_ok-round.ensures several ∙ ap (map told_by) c.as_slice.ensures
