-- The names so far, and those of what is left, are all.
use Rattle.std.proofs.Common.{◌≡◌, ◌++◌, drop}
use Rattle.site_model.specs.PlainSite.{site_view}
use Rattle.site_phases.specs.CycleFaults.{more_names}
use Rattle.site_phases.proofs.cycles.push_more.Given as goal

abbrev pub invariant-loop-depend : goal.invariant-loop-depend
invariant-loop-depend l = l.out ++ more_names (site_view l.site) (drop l.depend-index l.more) ≡ l.initial.out ++ more_names (site_view l.site) l.more
