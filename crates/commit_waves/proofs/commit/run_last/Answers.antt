use Rattle.std.proofs.Common.{◌++◌, map, ap, ◌∙◌}
use Rattle.site_model.specs.PlainSite.{object_view}
use Rattle.commit_waves.proofs.commit.run_last.Goals as goal

pub returns-clause-objects : goal.returns-clause-objects
returns-clause-objects g c = λ none.
    ap (map object_view) (c.in_ok-with_objects.ensures ∙ ap (λ os. os ++ c.in_ok-made.made.objects.items) c.into_vec.ensures)
    ∙ ap (λ w. w.objects) (c.in_ok-made.ensures.world none)
