use Rattle.std.proofs.Common.{List, Some, None, subst, arith}
use Rattle.notify_rules.specs.Sent.{is_user, IsAt}
use Rattle.notify_rules.specs.declared.listeners.Listener.{Listener}
use Rattle.notify_rules.proofs.Lists.{at_position, at_within, is_behind, is_before}
use Rattle.notify_rules.proofs.listeners.place_from.Goals as goal

pub returns-in-Some : goal.returns-in-Some
returns-in-Some c =
    let test = is_user c.args.user in
    let at = at_position test c.split_at.result.1.now (Some c.in-Some.place) c.in-Some.ensures in
    is_behind test c.args.from c.in-Some.place c.args.listeners.now (subst (λ (xs : List Listener). IsAt test xs (Some c.in-Some.place)) c.split_at.ensures.back at)

pub returns-in-None : goal.returns-in-None
returns-in-None c =
    let test = is_user c.args.user in
    let none = at_position test c.split_at.result.1.now None c.in-None.ensures in
    let before = at_position test c.split_at.result.0.now c.place_in-in-None.result c.place_in-in-None.ensures in
    is_before test c.args.from c.args.listeners.now c.place_in-in-None.result
    (subst (λ (xs : List Listener). IsAt test xs None) c.split_at.ensures.back none)
    (subst (λ (xs : List Listener). IsAt test xs c.place_in-in-None.result) c.split_at.ensures.front before)

pub overflow_add-result : goal.overflow_add-result
overflow_add-result c =
    omega (arith, at_within (is_user c.args.user) c.split_at.result.1.now c.in-Some.place (at_position (is_user c.args.user) c.split_at.result.1.now (Some c.in-Some.place) c.in-Some.ensures), c.split_at.ensures.back_len)
