-- Before the first turn none rests.
use Rattle.std.proofs.Common.{replicate, sym, ap, ◌∙◌, subst}
use Rattle.down_recur.proofs.Resting.{awake, fresh_waiting}
use Rattle.down_recur.specs.Waiting.{AreResting}
use Rattle.down_recur.proofs.recur.Recur.new.Goals as goal

pub invariant_of-result : goal.invariant_of-result
invariant_of-result c =
    let list = c.in_ok-list.list.items in (
      fresh_waiting c.args.zone.now list c.in_ok-list.ensures.fresh,
      subst (λ seconds. AreResting c.unwrap.result seconds list) (sym (c.in_ok-rests.ensures ∙ ap (λ n. replicate n 0) (c.len.ensures ∙ c.in_ok-list.list.ok.0))) (awake c.unwrap.result list),
    )
