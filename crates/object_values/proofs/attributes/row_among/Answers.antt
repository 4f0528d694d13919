-- A row is of an attribute where it has its name.
use Rattle.std.proofs.Common.{sym, ◌∙◌}
use Rattle.object_types.specs.contracts.attribute.Attribute as attribute
use Rattle.object_values.proofs.RowLaws.{row_here, row_later}
use Rattle.object_values.proofs.attributes.row_among.Goals as goal
use denote.Enum.Bare.{same_false, same_true}

pub returns-then-eq : goal.returns-then-eq
returns-then-eq c =
    sym (sym c.loop-row.invariant ∙ row_here c.args.rows.now c.loop-row.row-index _ c.args.attribute c.loop-row-test.true (same_true attribute.the_type tt _ _ (sym c.eq.ensures ∙ c.if-eq.true)))

pub loop-row-preserved : goal.loop-row-preserved
loop-row-preserved c =
    sym (row_later c.args.rows.now c.loop-row.row-index _ c.args.attribute c.loop-row-test.true (same_false attribute.the_type _ _ (sym c.eq.ensures ∙ c.if-eq.false))) ∙ c.loop-row.invariant
