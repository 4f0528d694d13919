-- The instant by the offset before a transition, as a moment.
use Rattle.std.proofs.Common.{sym, ap, ◌∙◌, subst, FitsSigned, w32, w64, rules}
use Rattle.std.proofs.lemmas.Int.{to_z-of_z}
use Rattle.jiff_core.specs.Timestamp.{IsTimestampNanos}
use Rattle.jiff_tz.specs.Ambiguous.{compatible_offset, instant_of}
use Rattle.time_range.proofs.LocalLemmas.{instant_is, seconds_are, moment_in_range}
use Rattle.time_range.proofs.ResultLemmas.{ok_value, not_ok, some_weaker, none_weaker}
use Rattle.time_range.proofs.zone.Zone.instant.Goals as goal

pub returns-in_err-timestamp-clause-none : goal.returns-in_err-timestamp-clause-none
returns-in_err-timestamp-clause-none c =
    let fits : FitsSigned w32 c.args.day = c.ranges.day in
    let shown = simp to_z-of_z at (c.in_ok-shown.ensures {u = tt}).value in
    rw c.from_residual-in_err-timestamp.ensures (λ civil moment most is at. not_ok c.to_timestamp.result (c.in_err-timestamp.ensures {u = tt}).value
    (c.to_timestamp.ensures.succeeds.1
    (subst (λ o. IsTimestampNanos (instant_of c.in_ok-shown.shown (compatible_offset o))) (sym (c.time_zone.ensures.offsets c.in_ok-shown.shown))
    (moment_in_range c.args.self.now civil c.in_ok-shown.shown c.args.day c.args.second moment most shown is at))))

pub returns-clause-value : goal.returns-clause-value
returns-clause-value c =
    let wide : FitsSigned w64 c.as_second.result = search rules in
    let found = simp to_z-of_z at c.moment_of.ensures.value in
    let fits : FitsSigned w32 c.args.day = c.ranges.day in
    let shown = simp to_z-of_z at (c.in_ok-shown.ensures {u = tt}).value in
    let nanos = ok_value c.to_timestamp.result c.in_ok-timestamp.timestamp _ (c.in_ok-timestamp.ensures {u = tt}).value c.to_timestamp.ensures.value in
    some_weaker c.moment_of.result _ _ (λ moment m. (
      c.in_ok-shown.shown,
      shown,
      instant_is c.args.self.now c.in_ok-shown.shown c.args.day c.args.second moment c.in_ok-timestamp.timestamp.nanosecond c.as_second.result shown
          (nanos ∙ ap (λ o. instant_of c.in_ok-shown.shown (compatible_offset o)) (c.time_zone.ensures.offsets c.in_ok-shown.shown)) c.as_second.ensures m,
    )) found

pub returns-clause-none : goal.returns-clause-none
returns-clause-none c =
    let wide : FitsSigned w64 c.as_second.result = search rules in
    let found = simp to_z-of_z at c.moment_of.ensures.none in
    let fits : FitsSigned w32 c.args.day = c.ranges.day in
    let shown = simp to_z-of_z at (c.in_ok-shown.ensures {u = tt}).value in
    let nanos = ok_value c.to_timestamp.result c.in_ok-timestamp.timestamp _ (c.in_ok-timestamp.ensures {u = tt}).value c.to_timestamp.ensures.value in
    none_weaker c.moment_of.result _ _ (λ no civil moment most is at.
    no moment most (seconds_are c.args.self.now civil c.in_ok-shown.shown c.args.day c.args.second moment c.in_ok-timestamp.timestamp.nanosecond c.as_second.result shown is at
    (nanos ∙ ap (λ o. instant_of c.in_ok-shown.shown (compatible_offset o)) (c.time_zone.ensures.offsets c.in_ok-shown.shown)) c.as_second.ensures)) found
