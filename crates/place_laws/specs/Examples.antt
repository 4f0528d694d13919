-- Small pieces of syntax, each at places that are given.
use Rattle.std.specs.Prelude.{ℕ, ◌+◌, List, [], ◌∷◌, map, codes, Bool, true, false}
use Rattle.site_base.specs.declared.place.Place.{Place}
use Rattle.dsl_syntax.specs.Syntax.{Expression, expression, string, name, binary, no_uses, statement, object, template, Statement, Statements, no_statements, more_statements}
use Rattle.dsl_syntax.specs.declared.bin_op.BinOp.TheVariants as bin
use Rattle.dsl_value.specs.Pairs.{Pairs}
use Rattle.dsl_value.specs.Contents.{dict}
use Rattle.dsl_value.specs.declared.value.Value.{Value}
use Rattle.dsl_value.specs.declared.value.Value.TheVariants as value
use Rattle.eval_meaning.specs.Registered.{PlainFile}
use Rattle.eval_meaning.specs.Views.{View}
use Rattle.eval_meaning.specs.States.{State, Outcome, gives, faults, blocked, rule}
use Rattle.eval_meaning.specs.Registration.{loading}
use Rattle.eval_meaning.specs.Load.{load_view}

abbrev pub at : ℕ → ℕ → ℕ → Place
at f l c = record { file = f; line = l; col = c }

-- ---- an expression of a rule

-- `"a" + x` at the start of a line
abbrev pub sum_in : ℕ → Expression
sum_in n = expression (at 0 n 1) (binary bin.Add (expression (at 0 n 1) (string (codes "a"))) (expression (at 0 n 7) (name (codes "x"))))

-- nothing is loaded, and no object is there
abbrev pub nothing : View
nothing = load_view []

-- these locals, and so many steps and units of space
abbrev pub rule_with : Pairs → ℕ → ℕ → State
rule_with locals steps space = record {
  cells = dict [] ∷ [];
  base = 1;
  functions = [];
  this = value.Null;
  locals = locals;
  in_file = false;
  steps = steps;
  space = space;
  reads = [];
  task = rule;
}

-- ---- loads

abbrev pub file_of : List ℕ → Bool → Statements → PlainFile
file_of n builtin b = record { name = n; builtin = builtin; statements = b }

-- a file with one template twice, from a line on
abbrev pub one_template : Place → Statement
one_template l = statement l (template (codes "Host") (expression l (string (codes "t"))) no_uses no_statements)

abbrev pub template_twice : ℕ → PlainFile
template_twice n = file_of (codes "f") false (more_statements (one_template (at 0 n 1)) (more_statements (one_template (at 0 (n + 1) 1)) no_statements))

-- a file of the site with one object, and an empty file of the library
abbrev pub object_at : Place → List PlainFile
object_at l =
    file_of (codes "f") false (more_statements (statement l (object (codes "Host") (expression l (string (codes "h"))) no_uses no_statements)) no_statements)
    ∷ file_of (codes "itl") true no_statements
    ∷ []

-- the first file alone, which includes none
abbrev pub first_file : List ℕ
first_file = 0 ∷ 0 ∷ []

-- whether each item that was loaded is one of the library
abbrev pub in_library : Outcome Value → List Bool
in_library (gives v s) = map (λ i. i.builtin) (loading s).items
in_library (faults l k t rs) = []
in_library (blocked r rs) = []
