use Rattle.std.proofs.Common.{T, sym, subst, ap}
use Rattle.dsl_value.specs.Pairs.{Pairs, is_sorted}
use Rattle.dsl_value.specs.Whole.{NamesAll}
use Rattle.dsl_value.proofs.Kept.{names_dict}
use Rattle.dsl_ops.specs.Operands.{plain, Stands, IsInOrder}
use Rattle.dsl_ops.proofs.joining.plus.Goals as goal

pub returns-in-Null-default-clause-stands : goal.returns-in-Null-default-clause-stands
returns-in-Null-default-clause-stands c = λ cells functions left right. c.kept_of.ensures.stands cells functions right

pub returns-in_default-Null-clause-stands : goal.returns-in_default-Null-clause-stands
returns-in_default-Null-clause-stands c = λ cells functions left right. c.kept_of-in_default-Null.ensures.stands cells functions left

pub returns-in_ok-merged_pairs-in-Dict-Dict-clause-stands : goal.returns-in_ok-merged_pairs-in-Dict-Dict-clause-stands
returns-in_ok-merged_pairs-in-Dict-Dict-clause-stands c = λ cells functions left right.
    subst (λ ps. NamesAll cells functions ps × T (is_sorted ps)) (sym c.in_ok-merged_pairs-in-Dict-Dict.ensures)
    (names_dict cells functions c.in-Dict-Dict.right c.in-Dict-Dict.left
    (subst (Stands cells functions) (ap plain c.in-Dict-Dict.is-1) right)
    (subst (Stands cells functions) (ap plain c.in-Dict-Dict.is-0) left, subst IsInOrder (ap plain c.in-Dict-Dict.is-0) c.requires.left))
