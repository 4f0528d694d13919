use Rattle.std.proofs.Common.{arith}
use Rattle.site_audit.proofs.rounds.round_of.Goals as goal

pub returns-then-callers-eq1 : goal.returns-then-callers-eq1
returns-then-callers-eq1 c = λ several. absurd (let one = c.if-callers-eq1.true in omega (arith, several, one))

pub returns : goal.returns
returns c = λ several. c.all_told.ensures
