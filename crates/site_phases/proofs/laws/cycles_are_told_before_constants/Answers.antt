use Rattle.std.proofs.Common.{◌≡◌, [], ◌∷◌, ap, ◌∙◌}
use Rattle.commit_meaning.specs.Commits.{first_told, unless_told}
use Rattle.commit_meaning.specs.Orders.{by_number}
use Rattle.commit_meaning.specs.Waves.{diag_number}
use Rattle.conf_check.specs.References.{reference_faults}
use Rattle.site_phases.specs.Constants.{constant_faults}
use Rattle.site_phases.specs.CycleFaults.{cycle_faults, turning}
use Rattle.site_phases.specs.Phases.{site_made}
use Rattle.site_phases.proofs.laws.cycles_are_told_before_constants.Goals as goal

pub returns : goal.returns
returns c = λ files g os bad d ds once there turns.
    let s = site_made files g os in
    ap (λ xs. unless_told s (first_told (by_number diag_number xs ∷ by_number diag_number (reference_faults os) ∷ cycle_faults s (turning s) ∷ constant_faults g bad ∷ []))) once
    ∙ ap (λ xs. unless_told s (first_told ([] ∷ by_number diag_number xs ∷ cycle_faults s (turning s) ∷ constant_faults g bad ∷ []))) there
    ∙ ap (λ xs. unless_told s (first_told ([] ∷ [] ∷ xs ∷ constant_faults g bad ∷ []))) turns
