-- The frame of the expressions of rules and groups.
use Rattle.std.specs.Prelude.{[]}
use Rattle.dsl_value.specs.Pairs.{Pairs}
use Rattle.eval_meaning.specs.States.{State}
use Rattle.commit_meaning.specs.Rules.{in_rule}
use Rattle.commit_meaning.specs.Starts.{Trees}
use Rattle.item_start.specs.Bound.{bound_in}

-- the frame of a rule's expressions, with values of these names that are made after the cells
abbrev pub in_rule_with : Pairs → Trees → State → State
in_rule_with captured names s = in_rule captured (bound_in names [] s.cells).pairs (record s { cells = (bound_in names [] s.cells).cells })
