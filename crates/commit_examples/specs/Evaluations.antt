-- Small evaluations: bodies of a command whose `vars.k` tells what they come to, and expressions within a budget.
use Rattle.std.specs.Prelude.{ℕ, List, [], ◌∷◌, codes, None, true, false}
use Rattle.site_base.specs.Data as tree
use Rattle.site_base.specs.Data.{Data, Pairs, no_pairs, pair}
use Rattle.site_model.specs.PlainSite.{PlainObject}
use Rattle.dsl_syntax.specs.Syntax.{Expression, Expressions, expression, no_expressions, more_expressions, function, Uses, no_uses, more_uses, Statement, statement, StatementKind, array, boolean, call, dictionary, eval, for, function_value, import, loop, more_entries, no_entries, no_expression, no_steps, member_step, return, set, some_expression, this, var, at_name}
use Rattle.dsl_syntax.specs.declared.set_op.SetOp.TheVariants as set_op
use Rattle.dsl_value.specs.Contents.{dict}
use Rattle.dsl_value.specs.declared.value.Value.TheVariants as value
use Rattle.eval_meaning.specs.Registered.{PlainItem, PlainTemplate}
use Rattle.eval_meaning.specs.States.{State, rule}
use Rattle.eval_meaning.specs.Views.{View, host}
use Rattle.commit_meaning.specs.Answers.{Answer, made}
use Rattle.commit_examples.specs.Parts.{at, in_line, of, text, named, part, calls, block, sets, sets_var, two}
use Rattle.commit_examples.specs.Items.{command, object_of}
use Rattle.commit_examples.specs.Objects.{item_of, unknown}

-- `object CheckCommand "c" { command = "x"`, and these statements
abbrev pub command_with : List StatementKind → PlainItem
command_with ks = item_of 1 (codes "CheckCommand") (codes "c") (block (sets (codes "command") (text (codes "x")) ∷ ks))

-- its object, where `vars.k` is this
abbrev pub command_telling : Data → Answer PlainObject
command_telling d = made (object_of command (pair (codes "command") (tree.string (codes "x")) (pair (codes "name") (tree.string (codes "c")) (pair (codes "vars") (tree.dict (pair (codes "k") d no_pairs)) no_pairs))))

-- `var n = e`
abbrev pub keeps : List ℕ → Expression → StatementKind
keeps n e = var n (some_expression e)

-- `function() { return e }`, with such a `use` list
abbrev pub giving : Uses → Expression → Expression
giving us e = of (function_value (function [] us (block (return (some_expression e) ∷ []))))

abbrev pub one : Expression → Expressions
one e = more_expressions e no_expressions

-- `var a = "old"; var f = function() use(a) { return a }; a = "new"; vars.k = f()`
abbrev pub capturing : List StatementKind
capturing =
    keeps (codes "a") (text (codes "old"))
    ∷ keeps (codes "f") (giving (more_uses (codes "a") no_expression no_uses) (named (codes "a")))
    ∷ sets (codes "a") (text (codes "new"))
    ∷ sets_var (codes "k") (of (call (named (codes "f")) no_expressions))
    ∷ []

-- `var d = { f = function() { return this.n }, n = "d" }; vars.k = d.f()`
abbrev pub calling_member : List StatementKind
calling_member =
    keeps (codes "d") (of (dictionary (more_entries (codes "f") (giving no_uses (part (of this) (codes "n"))) (more_entries (codes "n") (text (codes "d")) no_entries))))
    ∷ sets_var (codes "k") (calls (named (codes "d")) (codes "f") no_expressions)
    ∷ []

-- `vars.k += "a"`
abbrev pub adding : List StatementKind
adding = set (at_name (codes "vars")) (member_step (codes "k") no_steps) set_op.Add (text (codes "a")) ∷ []

-- `var a = [ "x" ]; for (e in a) { a.add("y") }; vars.k = a.len()`
abbrev pub growing : List StatementKind
growing =
    keeps (codes "a") (of (array (one (text (codes "x")))))
    ∷ for (loop (codes "e") None (named (codes "a"))) (block (eval (calls (named (codes "a")) (codes "add") (one (text (codes "y")))) ∷ []))
    ∷ sets_var (codes "k") (calls (named (codes "a")) (codes "len") no_expressions)
    ∷ []

-- `template CheckCommand "t" { var a = "theirs" }`
abbrev pub with_local : PlainTemplate
with_local = record { kind = codes "CheckCommand"; name = codes "t"; place = at; captured = []; body = block (keeps (codes "a") (text (codes "theirs")) ∷ []) }

-- `var a = "mine"; import "t"; vars.k = a`
abbrev pub importing_local : List StatementKind
importing_local = keeps (codes "a") (text (codes "mine")) ∷ import (text (codes "t")) ∷ sets_var (codes "k") (named (codes "a")) ∷ []

-- a frame whose `this` is an empty dictionary, with so many steps and units of space
abbrev pub within : ℕ → ℕ → State
within steps space = record {
  cells = dict [] ∷ dict [] ∷ [];
  base = 1;
  functions = [];
  this = value.Ref 1;
  locals = [];
  in_file = false;
  steps = steps;
  space = space;
  reads = [];
  task = rule;
}

-- `k = true`, the statement on line 2 and the value on line 3
abbrev pub writing : Statement
writing = statement (in_line 2) (set (at_name (codes "k")) no_steps set_op.Plain (expression (in_line 3) (boolean true)))

-- `[ get_host("a"), get_host("b") ]`
abbrev pub reading : Expression
reading = of (array (two (of (call (named (codes "get_host")) (one (text (codes "a"))))) (of (call (named (codes "get_host")) (one (text (codes "b")))))))

-- no host is shown, and of a alone it is known that there is none
abbrev pub without_a : View
without_a = record unknown { absent = host (codes "a") ∷ [] }
