use Rattle.dsl_ops.proofs.members.set_member.Goals as goal

pub change-requires-clause-stands : goal.change-requires-clause-stands
change-requires-clause-stands c = c.in-Ok.ensures.names _ _ c.requires.new
