use Rattle.std.proofs.Common.{◌≡◌, ◌++◌, drop, map}
use Rattle.std.specs.List.{AllByRecursion, flat_map}
use Rattle.std.specs.Option.{option_to_list}
use Rattle.site_model.specs.PlainSite.{object_view}
use Rattle.down_recur.specs.Recurrings.{recurring_of}
use Rattle.down_recur.specs.Waiting.{IsFresh, recurring_in}
use Rattle.down_recur.proofs.reading.read_all.Given as goal

abbrev pub invariant-loop-object : goal.invariant-loop-object
invariant-loop-object l = record {
  recurring : map recurring_in l.list.items ++ flat_map (λ o. option_to_list (recurring_of l.site.names o)) (map object_view (drop l.object-index l.site.objects))
      ≡ flat_map (λ o. option_to_list (recurring_of l.site.names o)) (map object_view l.site.objects);
  fresh : AllByRecursion IsFresh l.list.items;
}
