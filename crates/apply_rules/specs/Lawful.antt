-- What rules have to be so that they are evaluated over a view.
use Rattle.eval_work.specs.Kept.{PairsNamed}
use Rattle.eval_work.specs.declared.rule.Rule.{Rule}
use Rattle.eval_work.specs.declared.view.WorldView.{WorldView}
use Rattle.item_start.specs.Ready.{IsLawfulView}
use Rattle.apply_rules.specs.Preparations.{IsPreparedTarget}
use Rattle.apply_rules.specs.declared.target.PreparedTarget.{PreparedTarget}

-- The view is lawful, what the rule captured names cells and functions of its store, and the target was prepared for this store.
pub record IsApplicable (v : WorldView) (r : Rule) (t : PreparedTarget) : Type 0 where
  pub view : IsLawfulView v
  pub captured : PairsNamed v.store.now r.captured.items
  pub target : IsPreparedTarget v.store.now t
