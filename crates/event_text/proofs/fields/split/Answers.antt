use Rattle.std.proofs.Common.{◌-◌, ◌++◌, ◌∷◌, [], option_map, rules, ap, ◌∙◌, arith}
use Rattle.std.proofs.lemmas.List.{map-append}
use Rattle.event_text.specs.Fields.{fields_in}
use Rattle.event_text.specs.Lent.{texts_view}
use Rattle.event_text.proofs.FieldLaws.{fields_next, fields_lack}
use Rattle.event_text.proofs.fields.split.Goals as goal

pub loop-left-preserved : goal.loop-left-preserved
loop-left-preserved c =
    let rest = fields_in c.args.ends_in_text (c.loop-left.left - 1) c.in-Some.behind.now in (
      search rules,
      omega arith,
      search rules,
      ap (λ ts. option_map (λ fs. texts_view ts ++ fs) rest) c.push.ensures.items
          ∙ (ap (λ ts. option_map (λ fs. ts ++ fs) rest) (map-append (λ t. t.now) c.loop-left.fields.items (c.in-Some.front ∷ []))
          ∙ (fields_next c.args.ends_in_text c.loop-left.left c.loop-left.rest.now c.in-Some.front.now c.in-Some.behind.now (texts_view c.loop-left.fields.items) (omega arith) c.in-Some.ensures
          ∙ c.loop-left.invariant.3)),
    )

pub returns-in_default : goal.returns-in_default
returns-in_default c =
    fields_lack c.args.ends_in_text c.loop-left.left c.loop-left.rest.now (texts_view c.loop-left.fields.items) (omega arith) c.in_default.ensures ∙ c.loop-left.invariant.3
