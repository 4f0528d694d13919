-- Without a table the zone is UTC, and else that of the table.
use Rattle.std.proofs.Common.{ap, ◌∙◌, sym}
use Rattle.jiff_tz.specs.Zone.{offset_at, ambiguous_at}
use Rattle.time_range.specs.Zone.{ahead, offsets}
use Rattle.time_range.proofs.zone.Zone.time_zone.Goals as goal

pub returns-in-None-clause-offset : goal.returns-in-None-clause-offset
unfolding offset_at
returns-in-None-clause-offset c = λ nanos. ap (λ zone. ahead zone nanos) (sym c.in-None.is ∙ c.self.view_is)

pub returns-in-None-clause-offsets : goal.returns-in-None-clause-offsets
unfolding ambiguous_at
returns-in-None-clause-offsets c = λ civil. ap (λ zone. offsets zone civil) (sym c.in-None.is ∙ c.self.view_is)

pub returns-in-Some-clause-offset : goal.returns-in-Some-clause-offset
unfolding offset_at
returns-in-Some-clause-offset c =
    λ nanos. ap (λ zone. offset_at zone nanos) c.tzif.ensures ∙ ap (λ zone. ahead zone nanos) (sym c.in-Some.is ∙ c.self.view_is)

pub returns-in-Some-clause-offsets : goal.returns-in-Some-clause-offsets
unfolding ambiguous_at
returns-in-Some-clause-offsets c =
    λ civil. ap (λ zone. ambiguous_at zone civil) c.tzif.ensures ∙ ap (λ zone. offsets zone civil) (sym c.in-Some.is ∙ c.self.view_is)
