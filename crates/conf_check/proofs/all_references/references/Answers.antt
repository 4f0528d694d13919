-- What no key names, no object has.
use Rattle.std.proofs.Common.{◌∙◌, ap, subst, map, IfOk}
use Rattle.site_model.specs.PlainSite.{object_view}
use Rattle.conf_check.specs.Keys.{in_keys}
use Rattle.conf_check.specs.Ordering.{IsByNumber}
use Rattle.conf_check.specs.References.{objects_faults}
use Rattle.conf_check.proofs.KeyLaws.{keys_are}
use Rattle.conf_check.proofs.all_references.references.Goals as goal

pub returns : goal.returns
returns c =
    let os = map object_view c.args.objects.now in
    subst (λ faults. IfOk c.by_number.result (IsByNumber faults))
    (c.in_ok-faults.ensures ∙ ap (λ keys. objects_faults (in_keys keys) os) c.in_ok-keys.ensures ∙ ap (λ has. objects_faults has os) (keys_are os))
    c.by_number.ensures
