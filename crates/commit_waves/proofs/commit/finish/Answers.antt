use Rattle.std.proofs.Common.{◌≡◌, IfOk, map, sym, ap, ◌∙◌, subst}
use Rattle.std.specs.Bool.{Decides}
use Rattle.site_model.specs.PlainSite.{object_view}
use Rattle.site_phases.specs.Constants.{AreBadBytes, settings_of}
use Rattle.site_phases.specs.Phases.{answer_view, last_part}
use Rattle.commit_waves.specs.Globals.{globals_of}
use Rattle.commit_waves.proofs.commit.finish.Goals as goal

pub returns-clause-value : goal.returns-clause-value
returns-clause-value c = λ bad decided.
    let files = c.args.loaded.files in
    let parts = c.args.loaded.parts in
    let told = c.last_phases.ensures.value bad (subst (λ x. Decides bad (AreBadBytes (settings_of x).zone)) (sym c.in_ok-globals.ensures) decided) in
    let same = ap (λ x. last_part files x (map object_view c.from.result) bad) c.in_ok-globals.ensures
    ∙ ap (λ os. last_part files (globals_of parts.store.cells c.args.loaded.zone) (map object_view os) bad) c.from.ensures in
    subst (λ x. IfOk c.last_phases.result (λ a. answer_view a ≡ x)) same told
