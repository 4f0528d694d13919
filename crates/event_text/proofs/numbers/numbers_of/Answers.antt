use Rattle.std.proofs.Common.{◌≡◌, drop, sym, ap, ap₂, ◌∙◌}
use Rattle.std.proofs.lemmas.List.{drop-map}
use Rattle.event_text.specs.Kinds.{kind_of, limits_of, names_of}
use Rattle.event_text.specs.Lent.{texts_view}
use Rattle.event_text.specs.Numbers.{numbers_in}
use Rattle.event_text.proofs.NumberLaws.{within_some}
use Rattle.event_text.proofs.numbers.numbers_of.Goals as goal

pub returns-clause-value : goal.returns-clause-value
returns-clause-value c =
    c.read_numbers.ensures ∙ ap₂ numbers_in (c.limits.ensures.value ∙ ap limits_of c.kind.ensures)
    (ap texts_view (c.behind_names-behind.ensures ∙ ap (λ n. drop n c.args.fields.now) c.names.ensures.value) ∙ sym (drop-map (λ t. t.now) (names_of c.args.command) c.args.fields.now))

pub returns-clause-within : goal.returns-clause-within
returns-clause-within c =
    within_some (limits_of (kind_of c.args.command)) (drop (names_of c.args.command) (texts_view c.args.fields.now)) c.read_numbers.result (returns-clause-value c)
