use Rattle.std.proofs.Common.{ap, ◌∙◌}
use Rattle.dsl_value.specs.Parts.{beside}
use Rattle.dsl_value.proofs.Kept.{moved}
use Rattle.dsl_value.proofs.store.Store.freeze.Goals as goal

pub invariant_of-self-in_default : goal.invariant_of-self-in_default
invariant_of-self-in_default c = moved c.self.inside.frozen c.self.inside.live _ _ c.self.inside.base _ _ c.self.invariant (c.in_default.ensures.ok ∙ ap (beside c.self.inside.frozen) c.replace-live.ensures.value) (c.replace-live.ensures.after ∙ c.new.ensures) c.len.ensures c.len-2.ensures
