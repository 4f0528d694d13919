-- One rule more stands behind those of its type.
use Rattle.std.proofs.Common.{◌≤◌, ◌++◌, length, sym, ap, ◌∙◌, append-nil}
use Rattle.std.proofs.lemmas.List.{drop_all}
use Rattle.wave_objects.specs.ByType.{rules_going_to, type_rules}
use Rattle.wave_objects.proofs.TypeLaws.{next_rule}
use Rattle.wave_objects.proofs.by_type.rules_by_type.Goals as goal

pub loop-place-init : goal.loop-place-init
loop-place-init c = λ kind. ap (λ ts. type_rules kind ts ++ rules_going_to kind 0 c.args.rules.now) c.new-types.ensures.items

pub loop-place-preserved : goal.loop-place-preserved
loop-place-preserved c = λ kind.
    let types = c.loop-place.types.items in
    next_rule kind (rules_going_to kind 0 c.args.rules.now) (type_rules kind types) (type_rules kind c.add_rule.new.types.items) c.args.rules.now c.loop-place.place c.index-rules-place.result c.loop-place-test.true c.index-rules-place.is
    (c.in_ok-add_rule.ensures kind) (c.loop-place.invariant kind)

pub returns : goal.returns
returns c = λ kind.
    let past : length c.args.rules.now ≤ c.loop-place.place = c.loop-place-test.false in
    sym (append-nil (type_rules kind c.loop-place.types.items))
    ∙ (ap (λ xs. type_rules kind c.loop-place.types.items ++ rules_going_to kind c.loop-place.place xs) (sym (drop_all c.loop-place.place c.args.rules.now past)) ∙ c.loop-place.invariant kind)
