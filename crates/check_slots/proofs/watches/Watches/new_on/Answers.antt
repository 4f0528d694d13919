-- One after another is placed, until all are.
use Rattle.std.proofs.Common.{◌≡◌, ◌<◌, ◌+◌, suc, length, map, replicate, set, None, Some, sym, ap, ◌∙◌, arith, rules}
use Rattle.run_meaning.specs.Schedule as meant
use Rattle.wheel_links.specs.Members.{moment_of}
use Rattle.check_slots.specs.Watches.{member_of, watch_as}
use Rattle.check_slots.proofs.OnWheel.{after_place, all_first, all_placed, none_there, place_more, placed, placed_length}
use Rattle.check_slots.proofs.watches.Watches.new_on.Goals as goal

pub place-requires : goal.place-requires
place-requires g c =
    let i = c.loop-checkable.checkable in
    let many : length c.loop-checkable.wheel ≡ c.args.count = ap length c.loop-checkable.invariant ∙ placed_length i c.args.count in
    let below = c.loop-checkable-test.true in
    omega (arith, many, below)

pub loop-checkable-preserved : goal.loop-checkable-preserved
loop-checkable-preserved g c =
    let i = c.loop-checkable.checkable in
    let n = c.args.count in
    let next = c.first-first.result.next in
    let first : next ≡ 0 = ap (λ (x : meant.Watch). x.slot.next) c.first-first.ensures in
    let below : i < n = c.loop-checkable-test.true in
    let free : moment_of c.loop-checkable.wheel i ≡ None = ap (λ ms. moment_of ms i) c.loop-checkable.invariant ∙ none_there i n below in
    let more : suc i ≡ i + 1 = omega arith in
    after_place c.place.result c.loop-checkable.wheel c.place.new.self i next free c.place.ensures.present c.place.ensures.placed
    ∙ ap (λ ms. set ms i (Some next)) c.loop-checkable.invariant
    ∙ ap (λ m. set (placed i n) i (Some m)) first
    ∙ place_more i n below
    ∙ ap (λ j. placed j n) more

pub invariant_of-result : goal.invariant_of-result
invariant_of-result g c =
    let n = c.args.count in
    let first = c.first-first.result in
    let items : c.in_ok-vec.field-0.items ≡ replicate n first = search rules in
    let past = c.loop-checkable-test.false in
    let most = c.loop-checkable.auto.checkable-end in
    let all : c.loop-checkable.checkable ≡ n = omega (arith, past, most) in
    c.loop-checkable.invariant ∙ ap (λ i. placed i n) all ∙ all_placed n first c.first-first.ensures ∙ ap (map member_of) (sym items)

pub returns : goal.returns
returns g c =
    let n = c.args.count in
    let first = c.first-first.result in
    let items : c.in_ok-vec.field-0.items ≡ replicate n first = search rules in
    ap (map watch_as) items ∙ all_first n first c.first-first.ensures
