use Rattle.std.proofs.Common.{◌≡◌, ◌++◌, [], ◌∷◌, sym, ap, ◌∙◌, subst, append_assoc}
use Rattle.std.specs.Prelude.{All}
use Rattle.post_turn.specs.Turns.{gathered}
use Rattle.post_turn.specs.Passes.{IsOn, callers_on}
use Rattle.post_turn.proofs.Gathers.{gathers_as}
use Rattle.post_turn.proofs.Together.{all_front, all_last, callers_snoc, is_resting}
use Rattle.post_turn.proofs.post.closing.gather.Goals as goal

pub loop-place-init : goal.loop-place-init
loop-place-init g c =
    let id = c.args.lock.now.shared.table_id in
    let last = c.in-Some.field-0 in
    let left = c.pop.new.self.items in
    let whole : c.args.passes ≡ left ++ last ∷ [] = sym c.into_vec-passes.ensures ∙ c.in-Some.ensures.items in
    let on : All (IsOn id) (left ++ last ∷ []) = subst (All (IsOn id)) whole c.requires.1 in
    let own = all_last (IsOn id) left last on in
    record {
      place = own.0;
      me = own.1;
      others = all_front (IsOn id) left last on;
      together = sym (callers_snoc left last) ∙ ap callers_on (sym whole);
    }

pub join_seat-requires : goal.join_seat-requires
join_seat-requires g c =
    let id = c.args.lock.now.shared.table_id in
    let inv = c.loop-place.invariant in
    let next = c.in-Some-pop.field-0 in
    let left = c.pop-in-loop-place.new.self.items in
    let on : All (IsOn id) (left ++ next ∷ []) = subst (All (IsOn id)) c.in-Some-pop.ensures.items inv.others in
    let own = all_last (IsOn id) left next on in
    (inv.place, own.0, ap (λ m. m.1) own.1, c.requires.2, gathers_as g.M.Machine.fit g.M.Machine.after g.M.Machine.caller_of _ _ _ _ c.loop-place.all.me.0 _ next.place.me.0 (ap (λ m. m.0) inv.me) (ap (λ m. m.0) own.1))

pub loop-place-preserved : goal.loop-place-preserved
loop-place-preserved g c =
    let id = c.args.lock.now.shared.table_id in
    let inv = c.loop-place.invariant in
    let next = c.in-Some-pop.field-0 in
    let left = c.pop-in-loop-place.new.self.items in
    let old = c.loop-place.all.me.0 in
    let on : All (IsOn id) (left ++ next ∷ []) = subst (All (IsOn id)) c.in-Some-pop.ensures.items inv.others in
    let joined = c.join_seat.ensures.2 ∙ ap (λ cs. (gathered old next.place.me.0, cs)) (ap (λ m. m.1) inv.me) in
    record {
      place = c.join_seat.ensures.0 ∙ inv.place;
      me = is_resting (next.place.me.0.callers ++ old.callers) c.join_seat.new.seat.me joined;
      others = all_front (IsOn id) left next on;
      together = ap (λ m. callers_on left ++ m.0.callers) joined ∙ sym (append_assoc (callers_on left) next.place.me.0.callers old.callers) ∙ ap (λ cs. cs ++ old.callers) (sym (callers_snoc left next) ∙ ap callers_on (sym c.in-Some-pop.ensures.items)) ∙ inv.together;
    }
