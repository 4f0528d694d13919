use Rattle.std.proofs.Common.{◌∷◌, ◌++◌, [], ap, ◌∙◌}
use Rattle.dsl_lib.proofs.Taken.{one_taken}
use Rattle.dsl_lib.proofs.distinct.Distinct.take.Goals as goal

pub returns-clause-finds : goal.returns-clause-finds
returns-clause-finds c = one_taken c.args.store.now c.args.self.now _ c.args.value.now c.requires.finds c.requires.value c.in_ok-add.ensures (c.in_ok-push.ensures.ok ∙ ap (λ v. c.args.self.now.items ++ v ∷ []) c.in_ok-copy.ensures)
