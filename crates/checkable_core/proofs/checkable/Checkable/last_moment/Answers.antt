-- The last moment is kept, and where moments don't fall it is the greatest.
use Rattle.std.proofs.Common.{sym, ap, ◌∙◌}
use Rattle.run_meaning.specs.Dealing.{last_moment}
use Rattle.run_meaning.specs.Runs.{greatest_of}
use Rattle.checkable_core.specs.Contents.{Contents}
use Rattle.checkable_core.proofs.Listed.{greatest_is_last}
use Rattle.checkable_core.proofs.checkable.Checkable.last_moment.Goals as goal

pub returns-clause-last : goal.returns-clause-last
returns-clause-last c = c.self.invariant.keeps.last ∙ ap (λ (k : Contents). last_moment k.entries) c.self.view_is

pub returns-clause-greatest : goal.returns-clause-greatest
returns-clause-greatest c =
    let kept = c.self.invariant.keeps in
    kept.last ∙ sym (greatest_is_last c.self.inside.entries.items kept.sent.in_order) ∙ ap (λ (k : Contents). greatest_of k.entries) c.self.view_is
