-- The pairs of the dictionary are those of its plain value.
use Rattle.std.proofs.Common.{◌≡◌, ◌∙◌, sym, ap, subst}
use Rattle.site_base.specs.Data.{dict}
use Rattle.site_base.specs.View.{view, pairs_view}
use Rattle.site_base.proofs.Views.{view-Dict}
use Rattle.object_values.specs.Attributes.{set_value, value_view}
use Rattle.object_values.proofs.attributes.Attributes.set.Goals as goal

pub returns-in-Dict : goal.returns-in-Dict
unfolding set_value
returns-in-Dict c =
    let kind = c.args.self.now.kind in
    let pairs = pairs_view c.deref.result.now in
    let here : value_view c.set_among.result ≡ set_value kind c.args.attribute (dict pairs) = c.set_among.ensures in
    subst (λ d. value_view c.set_among.result ≡ set_value kind c.args.attribute d)
    (ap (λ ps. dict (pairs_view ps)) c.deref.ensures.value ∙ sym (view-Dict c.in-Dict.pairs) ∙ ap view (sym c.in-Dict.is)) here
