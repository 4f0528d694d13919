use Rattle.std.proofs.Common.{◌≡◌, Some, None, sym, ap, ◌∙◌}
use Rattle.std.specs.Option.{option_and_then}
use Rattle.site_base.specs.View.{view, pairs_view}
use Rattle.object_types.specs.Names.{attribute_name}
use Rattle.object_types.specs.Schema.{row_named}
use Rattle.object_values.specs.Attributes.{value_under, if_set, value_view}
use Rattle.object_values.proofs.AttributeLaws.{set_if_there, set_if_absent}
use Rattle.object_values.proofs.attributes.set_among.Goals as goal

pub returns-in-Some : goal.returns-in-Some
returns-in-Some c =
    let name = attribute_name c.args.attribute in
    let pairs = pairs_view c.args.pairs.now in
    let there : value_under name pairs ≡ Some (view c.in-Some.value.now) = ap (λ n. value_under n pairs) (sym c.name.ensures) ∙ sym c.value_under.ensures ∙ ap value_view c.in-Some.is in
    c.set_by.ensures ∙ ap (option_and_then (λ r. if_set r.kind (Some (view c.in-Some.value.now)))) c.row_of.ensures
    ∙ set_if_there (row_named c.args.kind name) name pairs (view c.in-Some.value.now) there

pub returns-in-None : goal.returns-in-None
returns-in-None c =
    let name = attribute_name c.args.attribute in
    let pairs = pairs_view c.args.pairs.now in
    let absent : value_under name pairs ≡ None = ap (λ n. value_under n pairs) (sym c.name.ensures) ∙ sym c.value_under.ensures ∙ ap value_view c.in-None.is in
    set_if_absent (row_named c.args.kind name) name pairs absent
