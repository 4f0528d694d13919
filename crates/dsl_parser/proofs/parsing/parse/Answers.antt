use Rattle.dsl_grammar.proofs.Outcomes.{tree_given, shallow_given, only_given, fault_given}
use Rattle.dsl_parser.proofs.parsing.parse.Goals as goal

pub returns-clause-tree : goal.returns-clause-tree
returns-clause-tree c = tree_given c.args.tokens.now c.outcome_of.result c.requires c.outcome_of.ensures

pub returns-clause-shallow : goal.returns-clause-shallow
returns-clause-shallow c = shallow_given c.args.tokens.now c.outcome_of.result c.requires c.outcome_of.ensures

pub returns-clause-only : goal.returns-clause-only
returns-clause-only c = only_given c.args.tokens.now c.outcome_of.result c.requires c.outcome_of.ensures

pub returns-clause-fault : goal.returns-clause-fault
returns-clause-fault c = fault_given c.args.tokens.now c.outcome_of.result c.requires c.outcome_of.ensures
