-- The lists so far, and one for each checkable that is left.
use Rattle.std.proofs.Common.{◌≡◌, ◌++◌, [], drop, map}
use Rattle.site_keep.specs.StateFile.{lines_of}
use Rattle.site_model.specs.PlainSite.{site_view}
use Rattle.run_meaning.specs.Runs.{no_entries}
use Rattle.kept_runs.proofs.gathering.no_lines.Given as goal

abbrev pub invariant-loop : goal.invariant-loop
invariant-loop l = l.lines.items ++ map (λ _. []) (drop l.index l.site.checkables) ≡ lines_of (site_view l.site) (no_entries (site_view l.site))
