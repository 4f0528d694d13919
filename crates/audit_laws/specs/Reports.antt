-- What outputs that are told again are read as.
use Rattle.std.specs.Prelude.{◌≡◌, ℕ, List}
use Rattle.plugin_line.specs.Output.{plugin_result}
use Rattle.run_meaning.specs.Dealing.{ordered_result}
use Rattle.run_text.specs.declared.style.Style.{Style}
use Rattle.site_model.specs.declared.event.Event.{Event}
use Rattle.site_model.specs.declared.event.Event.TheVariants as event
use Rattle.site_audit.specs.Commands.{output_text}
use Rattle.audit_laws.specs.Versions.{told_event}

-- the output that a log tells of a check is read as what the check's own one was read as
abbrev pub IsReadAgain : List ℕ → ℕ → Type 0
IsReadAgain output status =
    let r = plugin_result output status in plugin_result (output_text r.output r.perf) r.status ≡ r

-- the event that the report makes which a log tells of a result
abbrev pub reported : Event → Event
reported (event.Result status passive output perf) = ordered_result status (output_text output perf)
reported e = e

-- the report that a log tells of a check's result makes the event that the log tells of the check's own report
abbrev pub IsReportedAgain : Style → List ℕ → ℕ → Type 0
IsReportedAgain style output status =
    reported (told_event style (ordered_result status output)) ≡ told_event style (ordered_result status output)
