-- The civil time has the day and the second that it was made of.
use Rattle.std.proofs.Common.{ap, ◌∙◌, FitsSigned, w64}
use Rattle.std.proofs.lemmas.Int.{to_z-of_z}
use Rattle.jiff_core.specs.Date.{epoch_day}
use Rattle.jiff_core.specs.Time.{time_nanos}
use Rattle.time_range.proofs.LocalLemmas.{civil_in_range, civil_made}
use Rattle.time_range.proofs.ResultLemmas.{ok_value, not_ok}
use Rattle.time_range.proofs.zone.time_of.Goals as goal

pub returns-in_err-ok-clause-none : goal.returns-in_err-ok-clause-none
returns-in_err-ok-clause-none c =
    let fits : FitsSigned w64 c.args.day = c.ranges.day in
    let succeeds = simp to_z-of_z at c.from_unix_epoch_day.ensures.succeeds in
    rw c.from_residual.ensures (λ civil is. not_ok c.from_unix_epoch_day.result (c.in_err-ok.ensures {u = tt}).value
    (succeeds.1 (civil_in_range c.args.day c.args.second civil c.requires is)))

pub returns-clause-value : goal.returns-clause-value
returns-clause-value c =
    let fits : FitsSigned w64 c.args.day = c.ranges.day in
    let value = simp to_z-of_z at c.from_unix_epoch_day.ensures.value in
    let day = ok_value c.from_unix_epoch_day.result c.in_ok-ok.field-0 _ (c.in_ok-ok.ensures {u = tt}).value value in
    civil_made c.from_parts.result c.args.day c.args.second (ap epoch_day (c.from_parts.ensures.date ∙ c.from_plain-date.ensures) ∙ day) (ap time_nanos c.from_parts.ensures.time ∙ c.clock.ensures)
