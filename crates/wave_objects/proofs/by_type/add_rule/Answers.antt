-- The rule stands behind those of its type.
use Rattle.std.proofs.Common.{◌≡◌, ◌<◌, ◌≤◌, ◌++◌, ◌∷◌, [], length, rules, ap, ◌∙◌, arith}
use Rattle.wave_objects.specs.ByType.{type_rules, types_before}
use Rattle.wave_objects.specs.declared.by_type.RulesOfType.{RulesOfType}
use Rattle.wave_objects.proofs.TypeLaws.{put_here, put_last}
use Rattle.wave_objects.proofs.by_type.add_rule.Goals as goal

pub returns-in_ok-push : goal.returns-in_ok-push
returns-in_ok-push c = λ kind.
    let types = c.args.types.now.items in
    let placed = c.args.placed in
    let target = placed.rule.now.target in
    let at : c.type_at-at.result ≡ types_before target types = c.type_at-at.ensures ∙ ap (types_before target) c.deref.ensures.value in
    let inside : c.type_at-at.result < length types = search (rules, c.if-at-len.true, c.len.ensures) in
    let here = c.index_mut.ensures.value in
    put_here placed target kind types c.type_at-at.result c.index_mut.result.now _ at inside (ap (λ (t : RulesOfType). t.kind) here) (c.in_ok-push.ensures.items ∙ ap (λ (t : RulesOfType). t.rules.items ++ placed ∷ []) here)

pub returns-in_ok-push-2 : goal.returns-in_ok-push-2
returns-in_ok-push-2 c = λ kind.
    let types = c.args.types.now.items in
    let placed = c.args.placed in
    let target = placed.rule.now.target in
    let one = c.in_ok-with_first.field-0 in
    let at : c.type_at-at.result ≡ types_before target types = c.type_at-at.ensures ∙ ap (types_before target) c.deref.ensures.value in
    let past : length types ≤ c.type_at-at.result = search (rules, c.if-at-len.false, c.len.ensures) in
    ap (type_rules kind) c.in_ok-push-2.ensures.items ∙ put_last placed target kind types one (omega (arith, past, at)) c.in_ok-with_first.ensures.kind c.in_ok-with_first.ensures.rules
