use Rattle.std.proofs.Common.{◌≡◌, Some, length, sym, ap, ◌∙◌}
use Rattle.std.proofs.lemmas.List.{length-map}
use Rattle.event_text.specs.Fields.{fields_in}
use Rattle.event_text.specs.Lent.{fields_view, texts_view}
use Rattle.event_text.proofs.FieldLaws.{fields_sound}
use Rattle.event_text.proofs.reading.read_fields.Goals as goal

pub read_split-requires : goal.read_split-requires
read_split-requires c =
    let found : Some (texts_view c.in-Some.fields.items) ≡ fields_in c.ends_in_text.result c.count.result c.args.text.now = ap fields_view (sym c.in-Some.is) ∙ c.split.ensures in
    ap length c.as_slice.ensures.value
    ∙ (sym (length-map c.in-Some.fields.items (λ t. t.now))
    ∙ ((fields_sound c.ends_in_text.result c.count.result c.args.text.now (texts_view c.in-Some.fields.items) (sym found)).count ∙ c.count.ensures.value))
