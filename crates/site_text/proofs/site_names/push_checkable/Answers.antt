use Rattle.std.proofs.Common.{◌≡◌, ◌++◌, ℕ, List, OnOk, [], get_or, map, ◌∙◌, subst}
use Rattle.site_base.specs.Quoted.{quoted}
use Rattle.site_model.specs.PlainSite.{check_view}
use Rattle.site_model.specs.declared.check_spec.CheckSpec.{CheckSpec}
use Rattle.site_text.proofs.CheckableNames.{name_at}
use Rattle.site_text.proofs.site_names.push_checkable.Goals as goal

pub returns : goal.returns
returns c =
    let P : List ℕ → Type 0 = λ n. OnOk c.push_quoted.result (c.push_quoted.new.self ≡ c.args.out.now ++ quoted n) in
    let spec : CheckSpec = c.index-as_slice-checkable.result in
    let here : spec ≡ get_or c.args.site.now.checkables c.args.checkable spec =
    subst (λ (cs : List CheckSpec). spec ≡ get_or cs c.args.checkable spec) c.as_slice.ensures c.index-as_slice-checkable.is in
    let name : c.as_str.result.now ≡ get_or (map (λ p. p.name) (map check_view c.args.site.now.checkables)) c.args.checkable [] =
    c.as_str.ensures ∙ name_at c.args.site.now.checkables c.args.checkable c.index-as_slice-checkable.result c.requires here in
    subst P name c.push_quoted.ensures
