-- The closure gives the turns.
use Rattle.site_run.proofs.many.ManyWorkersWorkers.read.Goals as goal

pub returns : goal.returns
returns g c = c.requires.apt.5 c.args.alloc c.args.bytes c.read.result c.read.ensures
