-- The rules have taken the answers at the objects so far.
use Rattle.std.proofs.Common.{map}
use Rattle.site_model.specs.PlainSite.{object_view}
use Rattle.eval_work.specs.Works.{view_of}
use Rattle.wave_objects.specs.Applying.{AppliedShared, HaveTaken}
use Rattle.wave_objects.proofs.ApplyLaws.{taken_up_to}
use Rattle.wave_objects.proofs.applying.apply_to_all.Given as goal

abbrev pub invariant-loop-object : goal.invariant-loop-object
invariant-loop-object l = record {
  taken : HaveTaken 0 (taken_up_to (view_of l.view) (map object_view l.objects) l.types.items l.objects l.object-index) l.fn.rules.items l.rules.items;
  shared : AppliedShared l.view.store.now l.rules.items;
}
