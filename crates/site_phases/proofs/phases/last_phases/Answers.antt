use Rattle.std.proofs.Common.{map, sym, ap, subst, ◌∙◌}
use Rattle.site_model.specs.PlainSite.{object_view, site_view}
use Rattle.typed_site.specs.TypedSite.{typed_site}
use Rattle.site_phases.specs.Constants.{globals_view}
use Rattle.site_phases.specs.Phases.{FilesStay}
use Rattle.site_phases.proofs.PhaseLaws.{files_of, first_phase, is_ready, second_phase, third_phase}
use Rattle.site_phases.proofs.phases.last_phases.Goals as goal

pub returns-then-not-is_empty-clause-value : goal.returns-then-not-is_empty-clause-value
returns-then-not-is_empty-clause-value c = λ bad d.
    first_phase c.args.files (globals_view c.args.globals) c.as_slice.result.now c.args.objects bad c.in_ok-duplicates.field-0.duplicates c.as_slice.ensures c.in_ok-duplicates.ensures.duplicates (sym c.is_empty.ensures ∙ c.if-not-is_empty.true)

pub returns-then-not-is_empty-2-clause-value : goal.returns-then-not-is_empty-2-clause-value
returns-then-not-is_empty-2-clause-value c = λ bad d.
    second_phase c.args.files (globals_view c.args.globals) c.as_slice.result.now c.as_slice.result.now c.args.objects bad c.in_ok-duplicates.field-0.duplicates c.in_ok-duplicates.field-0.references
    c.as_slice.ensures c.in_ok-duplicates.ensures.duplicates (sym c.is_empty.ensures ∙ c.if-not-is_empty.false) c.as_slice.ensures c.in_ok-duplicates.ensures.references (sym c.is_empty-2.ensures ∙ c.if-not-is_empty-2.true)

pub returns-clause-value : goal.returns-clause-value
returns-clause-value c = λ bad d.
    third_phase c.args.files (globals_view c.args.globals) c.as_slice.result.now c.as_slice.result.now c.args.objects bad c.in_ok-duplicates.field-0.duplicates c.in_ok-duplicates.field-0.references c.in_ok-faults.faults (site_view c.in_ok-site.site) _
    c.as_slice.ensures c.in_ok-duplicates.ensures.duplicates (sym c.is_empty.ensures ∙ c.if-not-is_empty.false) c.as_slice.ensures c.in_ok-duplicates.ensures.references (sym c.is_empty-2.ensures ∙ c.if-not-is_empty-2.false)
    (c.in_ok-site.ensures.value ∙ ap (λ s. typed_site c.args.files s (map object_view c.args.objects)) c.into_settings.ensures.value) c.in_ok-faults.ensures c.in_ok-with_site.ensures.value d

pub returns-clause-files : goal.returns-clause-files
returns-clause-files c =
    subst (λ fs. FilesStay fs c.in_ok-with_site.field-0)
    (files_of c.args.files (globals_view c.args.globals) (map object_view c.args.objects) (site_view c.in_ok-site.site)
    (c.in_ok-site.ensures.value ∙ ap (λ s. typed_site c.args.files s (map object_view c.args.objects)) c.into_settings.ensures.value))
    c.in_ok-with_site.ensures.files

pub returns-clause-ready : goal.returns-clause-ready
returns-clause-ready c =
    is_ready c.args.files (globals_view c.args.globals) (map object_view c.args.objects) c.in_ok-faults.faults (site_view c.in_ok-site.site) c.in_ok-with_site.field-0
    (c.in_ok-site.ensures.value ∙ ap (λ s. typed_site c.args.files s (map object_view c.args.objects)) c.into_settings.ensures.value)
    c.in_ok-site.ensures.sound c.in_ok-site.ensures.few c.in_ok-faults.ensures c.in_ok-with_site.ensures.given
