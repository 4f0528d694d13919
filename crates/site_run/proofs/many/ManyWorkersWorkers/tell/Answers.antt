-- The closure gives the lines.
use Rattle.site_run.proofs.many.ManyWorkersWorkers.tell.Goals as goal

pub returns : goal.returns
returns g c = c.requires.apt.3 c.args.alloc c.args.style c.args.site c.args.turn c.tell.result c.tell.ensures
