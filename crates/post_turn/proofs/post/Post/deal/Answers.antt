use Rattle.std.proofs.Common.{◌≡◌, ◌+◌, ◌-◌, sym, ap, subst, ◌∙◌, arith, [], ◌∷◌, length, length-append}
use Rattle.post_turn.specs.declared.pass.Pass.{Pass}
use Rattle.post_turn.specs.Turns.{caller, newcomers, resting, first_of, rest_of}
use Rattle.post_turn.specs.Passes.{start_of, AreDealt, IsFresh}
use Rattle.post_turn.proofs.Lists.{all_snoc}
use Rattle.post_turn.proofs.Views.{one_more}
use Rattle.post_turn.proofs.Deals.{deals_as}
use Rattle.post_turn.proofs.Passing.{seen_at, mine_at, rests}
use Rattle.post_turn.proofs.post.Post.deal.Goals as goal

pub split_seat-place-requires : goal.split_seat-place-requires
split_seat-place-requires g c =
    let post = c.args.self.now in
    let inv = c.loop-caller.invariant in
    let sized = post.sized in
    let more = one_more g.row.M-Entry.Denot post.machine (start_of post) c.loop-caller.caller c.args.callers c.loop-caller-test.true in (
      inv.place,
      (let w = sized.0 in omega arith),
      deals_as g.M.Machine.fit g.M.Machine.after g.M.Machine.caller_of _ _ _ _ _ _ _ (ap (λ m. m.0) inv.me ∙ ap resting more),
    )

pub loop-caller-preserved : goal.loop-caller-preserved
loop-caller-preserved g c =
    let post = c.args.self.now in
    let k = c.loop-caller.caller in
    let inv = c.loop-caller.invariant in
    let more = one_more g.row.M-Entry.Denot post.machine (start_of post) k c.args.callers c.loop-caller-test.true in
    let cut = c.split_seat-place.ensures in
    let was : c.loop-caller.place.me ≡ (resting (caller post.machine (start_of post) k [] [] ∷ newcomers post.machine (start_of post) (k + 1) (c.args.callers - (k + 1))), []) = inv.me ∙ ap (λ cs. (resting cs, [])) more in
    let new : c.split_seat-place.result.me ≡ (resting (caller post.machine (start_of post) k [] [] ∷ []), []) = cut.4 ∙ (λ i. (first_of (was i).0, [])) in
    let pushed = c.in_ok-push.ensures.ok in
    let pass : Pass g.row.M.Denot g.row.M-State.Denot g.row.M-Event.Denot g.row.M-Entry.Denot g.row.M-Glance.Denot = record { place = c.split_seat-place.result; caller = k } in
    let fresh : IsFresh post (length c.loop-caller.passes) pass = ((cut.3 ∙ inv.place, rests post.machine (start_of post) k [] [] c.split_seat-place.result.me new), sym inv.count, ap seen_at new, ap mine_at new) in
    record {
      place = cut.0 ∙ inv.place;
      me = cut.2 ∙ (λ i. (rest_of (was i).0, (was i).1));
      count = (let a = inv.count in let b = ap length pushed in let l = length-append c.loop-caller.passes (pass ∷ []) in omega arith);
      dealt = subst (AreDealt post) (sym pushed) (all_snoc (IsFresh post) c.loop-caller.passes pass inv.dealt fresh);
    }
