use Rattle.std.proofs.Common.{◌≡◌, ◌++◌, ℕ, List, OnOk, codes, ap, ◌∙◌, append_assoc, subst, sym}
use Rattle.site_model.specs.PlainSite.{site_view}
use Rattle.site_model.specs.declared.outcome.Outcome.{Outcome}
use Rattle.site_text.specs.Entries.{depend_names, name_text, outcome_text}
use Rattle.site_text.proofs.decisions.push_outcome.Goals as goal

pub returns-in_ok-push_str-in-Dependency : goal.returns-in_ok-push_str-in-Dependency
returns-in_ok-push_str-in-Dependency c =
    let P : Outcome → Type 0 = λ o. OnOk c.push_depend.result (c.push_depend.new.out ≡ c.args.out.now ++ outcome_text (site_view c.args.site.now) o) in
    let Q : List ℕ → Type 0 = λ t. OnOk c.push_depend.result (c.push_depend.new.out ≡ t) in
    let name : List ℕ = name_text (depend_names (site_view c.args.site.now)) c.in-Dependency.depend in
    subst P (sym c.in-Dependency.is)
    (subst Q (ap (λ t. t ++ name) c.in_ok-push_str-in-Dependency.ensures ∙ append_assoc c.args.out.now (codes "Dependency ") name) c.push_depend.ensures)
