-- The pairs of the dictionary are those of its plain value.
use Rattle.std.proofs.Common.{◌≡◌, ◌++◌, ◌∙◌, sym, ap, subst, OnOk, Some}
use Rattle.site_base.specs.Data.{dict}
use Rattle.site_base.specs.View.{view, pairs_view}
use Rattle.site_base.proofs.Views.{view-Dict}
use Rattle.conf_check.specs.Keys.{in_keys}
use Rattle.conf_check.specs.References.{tree_faults}
use Rattle.conf_check.proofs.all_references.push_dict.Goals as goal

pub returns-in-Dict : goal.returns-in-Dict
returns-in-Dict c =
    subst (λ d. OnOk c.push_pairs.result (c.push_pairs.new.out ≡ c.args.out.now ++ tree_faults (in_keys c.args.keys.now) c.args.item (Some c.args.kind) d))
    (ap (λ ps. dict (pairs_view ps)) c.deref.ensures.value ∙ sym (view-Dict c.in-Dict.pairs) ∙ ap view (sym c.in-Dict.is))
    c.push_pairs.ensures
