-- The hosts so far, and those that are left, are all.
use Rattle.std.proofs.Common.{◌≡◌, ◌++◌, map, drop}
use Rattle.std.specs.List.{flat_map}
use Rattle.std.specs.Option.{option_to_list}
use Rattle.site_model.specs.PlainSite.{check_view}
use Rattle.object_lists.specs.Listed.{lent_view}
use Rattle.typed_site.specs.Checks.{host_check}
use Rattle.typed_site.proofs.checks.host_specs.Given as goal

abbrev pub invariant-loop-host : goal.invariant-loop-host
invariant-loop-host l =
    map check_view l.specs.items ++ flat_map (λ o. option_to_list (host_check l.known.commands.now l.known.periods.now o)) (lent_view (drop l.host-index l.hosts))
    ≡ flat_map (λ o. option_to_list (host_check l.known.commands.now l.known.periods.now o)) (lent_view l.hosts)
