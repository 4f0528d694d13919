use Rattle.std.proofs.Common.{◌≡◌, ◌+◌, List, [], ◌∷◌, map, get_or, drop, Some, sym, ap, ◌∙◌, subst}
use Rattle.site_model.specs.Sound.{AreDistinct}
use Rattle.notify_rules.specs.Sent.{user_of, told_by}
use Rattle.notify_rules.specs.declared.listeners.Listener.{Listener}
use Rattle.notify_rules.proofs.Lists.{drop_next, drop_past}
use Rattle.notify_rules.proofs.Telling.{all_told_more, all_told_none, users_kept}
use Rattle.notify_rules.proofs.listeners.Listeners.tell.Goals as goal

pub loop-user-preserved : goal.loop-user-preserved
loop-user-preserved c = record {
  within = c.tell_one-from.ensures.within;
  told = λ once.
      let before = c.loop-user.invariant.told once in
      let us = c.args.users.now in
      let i = c.loop-user.user-index in
      let u = get_or us i 0 in
      let old = c.loop-user.self in
      let made : c.tell_one-from.new.self ≡ map (told_by (Some (u ∷ []))) old = c.tell_one-from.ensures.told before.0 in
      let next : drop i us ≡ u ∷ drop (i + 1) us = drop_next i us 0 c.loop-user-test.true in (
        subst (λ (ls : List Listener). AreDistinct (map user_of ls)) (sym made) (subst AreDistinct (sym (users_kept (Some (u ∷ [])) old)) before.0),
        ap (map (told_by (Some (drop (i + 1) us)))) made ∙ all_told_more u (drop (i + 1) us) old ∙ ap (λ vs. map (told_by (Some vs)) old) (sym next) ∙ before.1,
      );
}

pub returns : goal.returns
returns c = λ once.
    let before = c.loop-user.invariant.told once in
    let past : drop c.loop-user.user-index c.args.users.now ≡ [] = drop_past c.loop-user.user-index c.args.users.now c.loop-user-test.false in
    sym (all_told_none c.loop-user.self) ∙ ap (λ vs. map (told_by (Some vs)) c.loop-user.self) (sym past) ∙ before.1
