use Rattle.std.proofs.Common.{◌∷◌, sym, ap, ◌∙◌}
use Rattle.dsl_ops.specs.Table.{merged}
use Rattle.dsl_ops.proofs.Merging.{next_less, next_greater}
use Rattle.dsl_ops.proofs.merge.next_of.Goals as goal

pub returns-in-Less-clause-first : goal.returns-in-Less-clause-first
returns-in-Less-clause-first c =
    next_less _ _ _ c.in-Some-split_first.beyond c.in-Some.first.now c.in-Some-split_first.other.now c.in-Some.ensures.some c.in-Some-split_first.ensures.some c.requires (sym c.cmp.ensures ∙ c.in-Less.is)
    ∙ ap (λ ps. c.in-Some.first.now ∷ merged c.in-Some.behind ps) (sym c.again-in-Less.ensures)

pub returns-in-Greater-clause-first : goal.returns-in-Greater-clause-first
returns-in-Greater-clause-first c =
    next_greater _ _ c.in-Some.behind _ c.in-Some.first.now c.in-Some-split_first.other.now c.in-Some.ensures.some c.in-Some-split_first.ensures.some c.requires (sym c.cmp.ensures ∙ c.in-Greater.is)
    ∙ ap (λ ps. c.in-Some-split_first.other.now ∷ merged ps c.in-Some-split_first.beyond) (sym c.again-in-Greater.ensures)
