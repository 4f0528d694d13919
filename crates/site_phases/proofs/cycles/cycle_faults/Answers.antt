use Rattle.std.proofs.Common.{◌≡◌, ◌==◌, All, List, [], ◌∷◌, length, true, sym, ap, subst, ◌∙◌}
use Rattle.std.proofs.Math.Dec.{eqb-suc-zero}
use Rattle.std.proofs.lemmas.Bool.{false≢true}
use Rattle.std.proofs.lemmas.List.Elements.{All-nil}
use Rattle.std.specs.Result.{IfOk}
use Rattle.site_base.specs.declared.diag.Diag.{Diag}
use Rattle.site_model.specs.declared.depend_spec.DependSpec.{DependSpec}
use Rattle.site_model.specs.PlainSite.{site_view}
use Rattle.depend_graph.specs.Cycles.{IsOnCycle}
use Rattle.site_phases.specs.CycleFaults.{cycle_faults}
use Rattle.site_phases.proofs.CycleLaws.{quiet, told_of}
use Rattle.site_phases.proofs.cycles.cycle_faults.Goals as goal

none_left : (ds : List DependSpec) → (length ds == 0) ≡ true → (P : DependSpec → Type 0) → All P ds
none_left [] e P = All-nil P
none_left (d ∷ ds) e P = absurd (false≢true (sym (eqb-suc-zero (length ds)) ∙ e))

pub returns-then-is_empty-clause-told : goal.returns-then-is_empty-clause-told
returns-then-is_empty-clause-told c =
    let s = site_view c.args.site.now in
    c.new.ensures ∙ quiet s (c.a_sound_site_has_parents.ensures s c.requires.sound c.requires.few) (none_left c.args.site.now.depends (sym c.is_empty.ensures ∙ c.if-is_empty.true) (λ d. ¬ IsOnCycle s d))

pub returns-then-is_empty-clause-free : goal.returns-then-is_empty-clause-free
returns-then-is_empty-clause-free c = λ none. none_left c.args.site.now.depends (sym c.is_empty.ensures ∙ c.if-is_empty.true) (λ d. ¬ IsOnCycle (site_view c.args.site.now) d)

pub returns-clause-told : goal.returns-clause-told
returns-clause-told c =
    let s = site_view c.args.site.now in
    subst (λ (ds : List Diag). IfOk c.faults_at.result (λ d. d ≡ ds))
    (ap (cycle_faults s) c.as_slice.ensures
    ∙ told_of s c.in_ok-depends.depends (c.a_sound_site_has_parents.ensures s c.requires.sound c.requires.few) c.in_ok-depends.ensures.some c.in_ok-depends.ensures.none)
    c.faults_at.ensures
