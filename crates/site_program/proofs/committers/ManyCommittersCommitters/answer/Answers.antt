-- The closure answers so.
use Rattle.site_program.proofs.committers.ManyCommittersCommitters.answer.Goals as goal

pub returns-clause-value : goal.returns-clause-value
returns-clause-value g c = (c.requires.apt.2 _ _ _ _ _ c.answer.ensures).0
