-- The dependencies so far, and those that are left, are all.
use Rattle.std.proofs.Common.{◌≡◌, ◌++◌, drop}
use Rattle.std.specs.List.{flat_map}
use Rattle.std.specs.Option.{option_to_list}
use Rattle.object_lists.specs.Listed.{lent_view}
use Rattle.typed_site.specs.Depends.{depend_of}
use Rattle.typed_site.proofs.depends.depend_specs.Given as goal

abbrev pub invariant-loop-depend : goal.invariant-loop-depend
invariant-loop-depend l =
    l.specs.items ++ flat_map (λ o. option_to_list (depend_of l.periods l.checkables o)) (lent_view (drop l.depend-index l.depends))
    ≡ flat_map (λ o. option_to_list (depend_of l.periods l.checkables o)) (lent_view l.depends)
