-- One hand more has given its last pass.
use Rattle.std.proofs.Common.{◌+◌, ◌<◌, Some, length, slice_set, sym, ap, ◌∙◌, subst, arith}
use Rattle.std.proofs.lemmas.Option.{slice_get-get_or}
use Rattle.post_rounds.specs.Hands.{AreLastTo}
use Rattle.post_rounds.proofs.Endings.{last_more}
use Rattle.post_rounds.proofs.closing.last_of_each.Goals as goal

pub loop-caller-preserved : goal.loop-caller-preserved
loop-caller-preserved g c =
    let so = c.loop-caller.invariant in
    let hands = c.loop-caller.hands.items in
    let within : c.loop-caller.caller < length hands = (let t = c.loop-caller-test.true in let e = c.loop-caller.auto.caller-end in let l = c.len-caller-end.ensures in let s = so.same in omega (arith, t, e, l, s)) in
    subst (λ ps. AreLastTo (c.loop-caller.caller + 1) c.args.hands.now.items ps (slice_set hands c.loop-caller.caller c.pop.new.self)) (sym c.in_ok-push.ensures.items)
    (last_more c.loop-caller.caller c.args.hands.now.items hands c.loop-caller.passes.items c.index_mut.result.now c.pop.new.self c.in-Some.pass so
    (slice_get-get_or hands c.loop-caller.caller c.index_mut.result.now within ∙ ap Some (sym c.index_mut.ensures.value)) c.in-Some.ensures.items)
