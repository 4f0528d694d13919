-- The names so far, and those of what is left, are all.
use Rattle.std.proofs.Common.{◌≡◌, ◌++◌, map, drop}
use Rattle.site_model.specs.PlainSite.{check_view}
use Rattle.typed_site.specs.Checks.{check_name}
use Rattle.typed_site.proofs.checks.add_names.Given as goal

abbrev pub invariant-loop-spec : goal.invariant-loop-spec
invariant-loop-spec l = l.names ++ map check_name (map check_view (drop l.spec-index l.specs)) ≡ l.initial.names ++ map check_name (map check_view l.specs)
