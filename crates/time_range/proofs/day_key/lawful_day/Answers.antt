-- The date has the numbers that it was made of.
use Rattle.std.proofs.Common.{◌≡◌, pos, arith, ap, ◌∙◌, Some, rules, FitsSigned, w32}
use Rattle.std.proofs.lemmas.Int.{ints, to_z-of_z}
use Rattle.jiff_core.specs.Date.{epoch_day}
use Rattle.time_range.proofs.DayLemmas.{date_made}
use Rattle.time_range.proofs.ResultLemmas.{ok_value}
use Rattle.time_range.proofs.day_key.lawful_day.Goals as goal

pub returns : goal.returns
returns c =
    let ymd = ok_value c.new.result c.in_ok-date.date _ (c.in_ok-date.ensures {u = tt}).value c.new.ensures.value in
    let year : c.in_ok-date.date.year ≡ pos c.args.year = omega (arith, ints, ymd.0) in
    let month : c.in_ok-date.date.month ≡ c.args.month = omega (arith, ints, ymd.1) in
    let day : c.in_ok-date.date.day ≡ c.args.day = omega (arith, ints, ymd.2) in
    let fits : FitsSigned w32 c.to_unix_epoch_day.result = search rules in
    ap Some (to_z-of_z w32 c.to_unix_epoch_day.result fits ∙ c.to_unix_epoch_day.ensures.value ∙ ap epoch_day c.to_plain.ensures)
    ∙ date_made c.in_ok-date.date c.args.year c.args.month c.args.day year month day
