use Rattle.std.proofs.Common.{◌≡◌, List, [], ◌==◌, length, false, IfOk, arith, refl, sym, ap, ◌∙◌, subst}
use Rattle.std.proofs.lemmas.Bool.{false≢true}
use Rattle.std.proofs.lemmas.List.{length-map}
use Rattle.site_base.specs.declared.diag.Diag.{Diag}
use Rattle.site_model.specs.PlainSite.{object_view}
use Rattle.dsl_load.specs.Loads.{plain_parts}
use Rattle.site_phases.specs.Phases.{answer_view, last_part, phases, site_made}
use Rattle.site_phases.proofs.PhaseLaws.{nothing}
use Rattle.commit_waves.specs.Globals.{globals_of}
use Rattle.commit_waves.proofs.CommitLaws.{left_to_phases, refused_in_waves}
use Rattle.commit_waves.proofs.FewLaws.{committed_few}
use Rattle.commit_waves.proofs.MakerLaws.{if_site}
use Rattle.commit_waves.proofs.commit.commit_by.Goals as goal

something : (ds : List Diag) → (length ds == 0) ≡ false → ¬ (ds ≡ [])
something ds some none = absurd (false≢true (sym some ∙ ap (λ xs. length xs == 0) none))

pub returns-then-not-is_empty-clause-value : goal.returns-then-not-is_empty-clause-value
returns-then-not-is_empty-clause-value g c = λ bad decided.
    let l = c.args.loaded in
    refused_in_waves (λ os. phases l.files (globals_of l.parts.store.cells l.zone) os bad) (site_made l.files (globals_of l.parts.store.cells l.zone)) (plain_parts l.parts) c.in_ok-made.made.list c.in_ok-made.ensures.diags
    (something c.in_ok-made.made.list (sym c.is_empty.ensures ∙ c.if-not-is_empty.true))

pub returns-then-not-is_empty-clause-files : goal.returns-then-not-is_empty-clause-files
returns-then-not-is_empty-clause-files g c = refl

pub returns-clause-value : goal.returns-clause-value
returns-clause-value g c = λ bad decided.
    let l = c.args.loaded in
    let gs = globals_of l.parts.store.cells l.zone in
    let none = nothing c.in_ok-made.made.list (sym c.is_empty.ensures ∙ c.if-not-is_empty.false) in
    let same = ap (λ os. last_part l.files gs os bad) (c.in_ok-made.ensures.objects none)
    ∙ left_to_phases (λ os. phases l.files gs os bad) (site_made l.files gs) (plain_parts l.parts) (sym c.in_ok-made.ensures.diags ∙ none) in
    subst (λ x. IfOk c.finish.result (λ a. answer_view a ≡ x)) same (c.finish.ensures.value bad decided)

pub finish-requires-clause-few : goal.finish-requires-clause-few
finish-requires-clause-few g c =
    let none = nothing c.in_ok-made.made.list (sym c.is_empty.ensures ∙ c.if-not-is_empty.false) in
    let few = committed_few (plain_parts c.args.loaded.parts) (sym c.in_ok-made.ensures.diags ∙ none) in
    let same = ap length (c.in_ok-made.ensures.objects none) in
    omega (arith, few, same, length-map c.in_ok-made.made.objects.items object_view)

pub returns-clause-stands : goal.returns-clause-stands
returns-clause-stands g c = λ stood.
    let none = nothing c.in_ok-made.made.list (sym c.is_empty.ensures ∙ c.if-not-is_empty.false) in
    if_site (g.M.WaveMaker.stands c.run_waves.new.maker (plain_parts c.args.loaded.parts) 6) (c.in_ok-made.ensures.stands stood none) c.finish.result
