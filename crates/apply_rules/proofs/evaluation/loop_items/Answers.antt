-- The instances are at the target, and what they share are its names.
use Rattle.apply_rules.proofs.Shared.{all_shared}
use Rattle.apply_rules.proofs.evaluation.loop_items.Goals as goal

pub returns-clause-shared : goal.returns-clause-shared
returns-clause-shared c = λ s h. all_shared s c.in_ok-share.share (c.in_ok-share.ensures.values s h) c.run_elements.result c.run_elements.ensures.like
