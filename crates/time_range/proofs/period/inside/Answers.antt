use Rattle.std.proofs.Common.{◌∙◌}
use Rattle.time_range.proofs.LocalLemmas.{holds_shown, inside_shown}
use Rattle.time_range.proofs.period.inside.Goals as goal

pub returns-clause-civil : goal.returns-clause-civil
returns-clause-civil c =
    (c.shown.result, c.shown.ensures, c.holds.ensures ∙ holds_shown c.args.spec.now c.of.result.day c.of.result.weekday c.of.result.second c.shown.result c.of.ensures.day c.of.ensures.weekday c.of.ensures.second)

pub returns-clause-value : goal.returns-clause-value
returns-clause-value c =
    c.holds.ensures ∙ holds_shown c.args.spec.now c.of.result.day c.of.result.weekday c.of.result.second c.shown.result c.of.ensures.day c.of.ensures.weekday c.of.ensures.second
    ∙ inside_shown c.args.spec.now c.args.moment c.args.zone.now c.shown.result c.shown.ensures
