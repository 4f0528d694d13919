-- The closure answers so.
use Rattle.site_program.proofs.committers.ManyCommittersCommitters.made.Goals as goal

pub returns-clause-value : goal.returns-clause-value
returns-clause-value g c = (c.requires.apt.3 _ _ _ _ _ c.made.ensures).0

pub returns-clause-idle : goal.returns-clause-idle
returns-clause-idle g c = (c.requires.apt.3 _ _ _ _ _ c.made.ensures).1

pub returns-clause-files : goal.returns-clause-files
returns-clause-files g c = (c.requires.apt.3 _ _ _ _ _ c.made.ensures).2
