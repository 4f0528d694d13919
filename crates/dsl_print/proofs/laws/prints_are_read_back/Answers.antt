use Rattle.dsl_print.proofs.Law.{tree, back, parsed}
use Rattle.dsl_print.proofs.laws.prints_are_read_back.Goals as goal

-- the print of a tree has a tree
pub returns-clause-tree : goal.returns-clause-tree
returns-clause-tree c = tree

-- and is read as one
pub returns-clause-back : goal.returns-clause-back
returns-clause-back c = back

-- and parsed so
pub returns-clause-parsed : goal.returns-clause-parsed
returns-clause-parsed c = parsed
