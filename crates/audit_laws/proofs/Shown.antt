-- What each version tells of an event.
use Rattle.std.proofs.Common.{◌≡◌, ℕ, false, List, [], ap, min, ◌∙◌, refl, Option}
use Rattle.plugin_line.specs.Output.{plugin_result}
use Rattle.run_text.specs.declared.style.Style.{Style}
use Rattle.run_text.specs.declared.style.Style.TheVariants.{One, Two}
use Rattle.site_model.specs.PlainSite.{PlainCheck, PlainSite}
use Rattle.site_model.specs.declared.event.Event.{Event}
use Rattle.site_model.specs.declared.event.Event.TheVariants as event
use Rattle.log_text.specs.EntryTwo.{without_texts}
use Rattle.audit_laws.specs.Askable.{CanBeAsked, IsInRange, takes_event}
use Rattle.audit_laws.specs.Reports.{IsReportedAgain}
use Rattle.audit_laws.specs.Versions.{told_event}
use Rattle.audit_laws.proofs.Outputs.{empty_output, read_again, told_again}

untold_report : (output : List ℕ) (status : ℕ) → IsReportedAgain One output status
untold_report output status =
    let low : min (plugin_result output status).status 3 ≡ (plugin_result output status).status = ap (λ r. r.status) (read_again output status) in
    ap (λ r. event.Result r.status false r.output r.perf) (told_again empty_output.bytes [] [] (plugin_result output status).status empty_output.output_is empty_output.perf_is)
    ∙ ap (λ n. event.Result n false [] []) low

pub reported_again : (style : Style) (output : List ℕ) (status : ℕ) → IsReportedAgain style output status
reported_again One output status = untold_report output status
reported_again Two output status = ap (λ r. event.Result r.status false r.output r.perf) (read_again output status)

untold_range : (host : Option ℕ) (e : Event) → IsInRange host e → IsInRange host (without_texts e)
untold_range host (event.Result status passive output perf) h = (h.0, h.1, empty_output)
untold_range host e h = h

untold_taken : (check : PlainCheck) (e : Event) → takes_event check (without_texts e) ≡ takes_event check e
untold_taken check (event.Result status passive output perf) = refl
untold_taken check e = refl

pub shown : (style : Style) (s : PlainSite) (k : ℕ) (e : Event) → CanBeAsked s k e → CanBeAsked s k (told_event style e)
shown One s k e h = record { check = h.check; at = h.at; named = h.named; range = untold_range h.check.host e h.range; taken = untold_taken h.check e ∙ h.taken }
shown Two s k e h = h
