-- The pairs of the dictionary are those of its plain value.
use Rattle.std.proofs.Common.{◌≡◌, ◌∙◌, sym, ap, subst}
use Rattle.site_base.specs.Data.{dict}
use Rattle.site_base.specs.View.{view, pairs_view}
use Rattle.site_base.proofs.Views.{view-Dict}
use Rattle.object_values.specs.Values.{limit_of, limit_under}
use Rattle.object_values.proofs.reading.limit_under.Goals as goal

pub returns-in-Dict : goal.returns-in-Dict
returns-in-Dict c =
    subst (λ d. c.limit_of.result ≡ limit_under c.args.key.now d)
    (ap (λ ps. dict (pairs_view ps)) c.deref.ensures.value ∙ sym (view-Dict c.in-Dict.pairs) ∙ ap view (sym c.in-Dict.is))
    (c.limit_of.ensures ∙ ap limit_of c.value_under.ensures)
