-- The pairs of the dictionary are those of its plain value.
use Rattle.std.proofs.Common.{◌≡◌, ◌++◌, ◌∙◌, sym, ap, subst, OnOk, Some}
use Rattle.site_base.specs.Data.{dict}
use Rattle.site_base.specs.View.{view, pairs_view}
use Rattle.site_base.proofs.Views.{view-Dict}
use Rattle.object_types.specs.Checks.{object_faults}
use Rattle.object_types.proofs.checking.push_object.Goals as goal

pub returns-in-Dict : goal.returns-in-Dict
returns-in-Dict c =
    subst (λ d. OnOk c.push_faults.result (c.push_faults.new.out ≡ c.args.out.now ++ object_faults c.args.item (Some c.args.kind) d))
    (ap (λ ps. dict (pairs_view ps)) c.deref.ensures.value ∙ sym (view-Dict c.in-Dict.pairs) ∙ ap view (sym c.in-Dict.is))
    c.push_faults.ensures
