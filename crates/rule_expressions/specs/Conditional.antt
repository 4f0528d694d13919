-- The bodies that have conditions.
use Rattle.std.specs.Prelude.{Bool, true, false}
use Rattle.dsl_syntax.specs.Syntax.{statement, assign, ignore, Statements, no_statements, more_statements}

-- some `assign` or `ignore` stands in a body
abbrev pub has_conditions : Statements → Bool
has_conditions no_statements = false
has_conditions (more_statements (statement l (assign e)) ss) = true
has_conditions (more_statements (statement l (ignore e)) ss) = true
has_conditions (more_statements x ss) = has_conditions ss
