use Rattle.dsl_ops.proofs.between.made_by.Goals as goal

pub returns-in-Add-clause-stands : goal.returns-in-Add-clause-stands
returns-in-Add-clause-stands c = c.plus.ensures.stands _ _ c.operand_of-a.ensures.stands c.operand_of-b.ensures.stands
