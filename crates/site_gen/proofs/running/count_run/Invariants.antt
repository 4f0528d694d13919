-- How far the run has come.
use Rattle.std.proofs.Common.{}
use Rattle.site_model.specs.PlainSite.{site_view}
use Rattle.site_gen.specs.Going.{IsSoFar}
use Rattle.site_gen.proofs.running.count_run.Given as goal

abbrev pub invariant-loop-number : goal.invariant-loop-number
invariant-loop-number l = IsSoFar l.hosts (site_view l.fn.site) l.number l.engine l.counts
