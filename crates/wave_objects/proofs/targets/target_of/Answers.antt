use Rattle.std.proofs.Common.{codes, Some, None, rules, sym, ap, ◌∙◌}
use Rattle.site_base.specs.View.{view}
use Rattle.object_types.specs.declared.attribute.Attribute.TheVariants as attribute
use Rattle.eval_work.specs.Lists.{object_at}
use Rattle.commit_meaning.specs.Names.{text_of}
use Rattle.wave_objects.proofs.TargetLaws.{one_service}
use Rattle.wave_objects.proofs.targets.target_of.Goals as goal

pub returns-in-Some : goal.returns-in-Some
returns-in-Some c =
    sym (one_service c.args.objects.now c.args.object.now (Some c.in-Some.host.now) (search rules)
    (ap (λ t. object_at (codes "Host") (text_of (view t) attribute.HostName) c.args.objects.now) (sym c.deref.ensures)
    ∙ ap (λ n. object_at (codes "Host") n c.args.objects.now) (sym c.text_of.ensures)
    ∙ c.in-Some.ensures.found))

pub returns-in-None : goal.returns-in-None
returns-in-None c =
    sym (one_service c.args.objects.now c.args.object.now None (search rules)
    (ap (λ t. object_at (codes "Host") (text_of (view t) attribute.HostName) c.args.objects.now) (sym c.deref.ensures)
    ∙ ap (λ n. object_at (codes "Host") n c.args.objects.now) (sym c.text_of.ensures)
    ∙ c.in-None.ensures.absent))
