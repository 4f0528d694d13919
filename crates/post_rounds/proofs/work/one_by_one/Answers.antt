-- One caller more has ended.
use Rattle.std.proofs.Common.{◌++◌, [], ◌∷◌, sym, ap, ◌∙◌, subst, append_assoc}
use Rattle.std.specs.Prelude.{All}
use Rattle.std.specs.List.{AllZip}
use Rattle.std.specs.Vec.Iter.{into_iter_items}
use Rattle.std.proofs.lemmas.List.Elements.{All-tail}
use Rattle.post_rounds.proofs.Places.{zip_push}
use Rattle.post_rounds.proofs.work.one_by_one.Goals as goal

pub loop-caller-preserved : goal.loop-caller-preserved
loop-caller-preserved g c =
    let before = c.loop-caller.invariant in
    let ready = g.W.Work.ready c.args.work.now in
    let ended = g.W.Work.ended c.args.work.now in
    let step = c.in-Some.ensures.steps.0 in
    record {
      whole = append_assoc c.loop-caller.yielded (c.in-Some.caller ∷ []) (into_iter_items c.next.new.self) ∙ ap (λ cs. c.loop-caller.yielded ++ cs) (sym step) ∙ before.whole;
      left = All-tail ready c.in-Some.caller _ (subst (All ready) step before.left);
      ended = subst (AllZip ended (c.loop-caller.yielded ++ c.in-Some.caller ∷ [])) (sym c.in_ok-push.ensures.items) (zip_push ended c.loop-caller.yielded c.loop-caller.hands.items c.in-Some.caller c.in_ok-hand.hand before.ended c.in_ok-hand.ensures);
    }
