-- One list for each checkable.
use Rattle.std.proofs.Common.{◌++◌, [], map, ap, ◌∙◌}
use Rattle.site_model.specs.PlainSite.{site_view}
use Rattle.kept_runs.proofs.Gathered.{none_each}
use Rattle.kept_runs.proofs.gathering.no_lines.Goals as goal

pub loop-init : goal.loop-init
loop-init c =
    let checkables = c.args.site.now.checkables in
    ap (λ ls. ls ++ map (λ _. []) checkables) c.in_ok-lines.ensures.items ∙ none_each (site_view c.args.site.now) 0 checkables
