-- An item whose lines are given.
use Rattle.std.specs.Prelude.{ℕ, [], ◌∷◌, codes, false}
use Rattle.site_base.specs.declared.item_no.ItemNo.{ItemNo}
use Rattle.dsl_syntax.specs.Syntax.{expression, name, eval, statement, Statements, no_statements, more_statements}
use Rattle.dsl_value.specs.Contents.{dict}
use Rattle.eval_meaning.specs.Registered.{PlainItem}
use Rattle.eval_meaning.specs.Views.{View}
use Rattle.eval_meaning.specs.Registration.{name_preset}
use Rattle.commit_meaning.specs.Worlds.{world_view}
use Rattle.place_laws.specs.Examples.{at}

-- a load with nothing in it but empty globals, and no object
abbrev pub nothing : View
nothing = world_view (record { store = record { cells = dict [] ∷ []; base = 1; functions = [] }; templates = []; items = []; rules = [] }) []

abbrev pub first : ItemNo
first = record { item = 1; target = record { item = 0; host = 0; key = 0 }; key = 0 }

-- a host at the start of a line
abbrev pub host_in : ℕ → Statements → PlainItem
host_in n b = record { number = first; kind = codes "Host"; name = codes "h"; place = at 0 n 1; presets = name_preset (codes "h"); names = []; captured = []; body = b; builtin = false }

-- `y`, indented in a line
abbrev pub name_in : ℕ → Statements
name_in n = more_statements (statement (at 0 n 3) (eval (expression (at 0 n 3) (name (codes "y"))))) no_statements
