use Rattle.std.proofs.Common.{map, ap}
use Rattle.site_model.specs.PlainSite.{object_view}
use Rattle.dsl_load.specs.Loads.{plain_parts}
use Rattle.eval_work.specs.Works.{plain_rule, shown_object}
use Rattle.commit_waves.proofs.ViewLaws.{shown_are, view_is}
use Rattle.commit_waves.proofs.world.view_before.Goals as goal

pub returns-clause-view : goal.returns-clause-view
returns-clause-view c =
    view_is (plain_parts c.args.parts.now) (map object_view c.args.objects.now) (map plain_rule c.deref.result.now) (map shown_object c.args.objects.now) c.args.known.now.absent.items c.args.known.now.whole.items
    (ap (map plain_rule) c.deref.ensures.value) (shown_are c.args.objects.now) c.requires.absent c.requires.whole
