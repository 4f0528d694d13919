-- What no key names, no object has.
use Rattle.std.proofs.Common.{◌∙◌, ap, subst, map}
use Rattle.site_model.specs.PlainSite.{object_view}
use Rattle.conf_check.specs.Keys.{in_keys}
use Rattle.conf_check.specs.Ordering.{IsByNumber}
use Rattle.conf_check.specs.References.{objects_faults}
use Rattle.conf_check.proofs.KeyLaws.{keys_are}
use Rattle.conf_check.proofs.together.check_together.Goals as goal

pub returns-clause-references : goal.returns-clause-references
returns-clause-references c =
    let os = map object_view c.args.objects.now in
    subst (λ faults. IsByNumber faults c.in_ok-by_number-2.field-0)
    (c.in_ok-missing.ensures ∙ ap (λ keys. objects_faults (in_keys keys) os) c.in_ok-looked.ensures.keys ∙ ap (λ has. objects_faults has os) (keys_are os))
    c.in_ok-by_number-2.ensures
