use Rattle.std.proofs.Common.{◌≡◌, sym, ap, ◌∙◌, subst}
use Rattle.std.specs.Bool.{Decides}
use Rattle.site_phases.specs.Phases.{answer_view}
use Rattle.site_load.specs.Configs.{IsBadZone, config_outcome}
use Rattle.site_load.specs.Loads.{load_view}
use Rattle.site_load.proofs.many.config_made_by_many.Goals as goal

pub returns-in_ok-committed_by_many-in-Loaded-clause-value : goal.returns-in_ok-committed_by_many-in-Loaded-clause-value
returns-in_ok-committed_by_many-in-Loaded-clause-value g c = λ all bad h decided.
    let is = sym (ap load_view c.in-Loaded.is) ∙ c.in_ok-loaded.ensures.value all h in
    subst (λ o. answer_view c.in_ok-committed_by_many-in-Loaded.field-0.answer ≡ config_outcome bad o) is
    (c.in_ok-committed_by_many-in-Loaded.ensures.value bad (subst (λ o. Decides bad (IsBadZone o)) (sym is) decided))
