-- The place stands last.
use Rattle.std.proofs.Common.{[], ◌∷◌, ◌++◌, ap, ◌∙◌}
use Rattle.eval_work.specs.Placing.{place_in}
use Rattle.eval_work.proofs.Placed.{added_last}
use Rattle.eval_work.proofs.places.add_to.Goals as goal

pub returns-in_ok-push-clause-added : goal.returns-in_ok-push-clause-added
returns-in_ok-push-clause-added c = λ k.
    ap (place_in k) (c.in_ok-push.ensures.items ∙ ap (λ t. c.args.list.now.items ++ (t, c.args.place) ∷ []) c.in_ok-clone.ensures.cases)
    ∙ added_last k c.args.kind.now c.args.place c.args.list.now.items
