-- Items with small bodies, and their objects.
use Rattle.std.specs.Prelude.{[], ◌∷◌, codes, true, false}
use Rattle.site_base.specs.Data as tree
use Rattle.site_base.specs.Data.{Pairs, no_pairs, pair}
use Rattle.site_model.specs.PlainSite.{PlainObject}
use Rattle.dsl_syntax.specs.Syntax.{StatementKind, boolean, import, set, at_name, no_steps, member_step}
use Rattle.dsl_syntax.specs.declared.set_op.SetOp.TheVariants as set_op
use Rattle.dsl_value.specs.Contents.{dict}
use Rattle.dsl_value.specs.declared.value.Value.TheVariants as value
use Rattle.eval_meaning.specs.Registered.{PlainItem, PlainTemplate}
use Rattle.eval_meaning.specs.Views.{View}
use Rattle.commit_examples.specs.Parts.{at, of, text, named, part, block, lines, sets, sets_var}
use Rattle.commit_examples.specs.Objects.{nothing, attributes, item_of}

-- `object CheckCommand "c" { command = "x" }`
abbrev pub command : PlainItem
command = item_of 1 (codes "CheckCommand") (codes "c") (block (sets (codes "command") (text (codes "x")) ∷ []))

-- `template CheckCommand "t" { host.k = "x" }`
abbrev pub changing : PlainTemplate
changing = record { kind = codes "CheckCommand"; name = codes "t"; place = at; captured = []; body = block (set (at_name (codes "host")) (member_step (codes "k") no_steps) set_op.Plain (text (codes "x")) ∷ []) }

abbrev pub object_of : PlainItem → Pairs → PlainObject
object_of i ps = record { kind = i.kind; name = i.name; place = at; number = i.number; builtin = false; tree = tree.dict ps }

abbrev pub command_attributes : Pairs
command_attributes = pair (codes "command") (tree.string (codes "x")) (pair (codes "name") (tree.string (codes "c")) no_pairs)

-- a load with the global `G = { a = true }`, which is frozen, and a template that changes what is bound to `host`
abbrev pub globals_view : View
globals_view = record nothing { store = record { cells = dict ((codes "G", value.Ref 1) ∷ []) ∷ dict ((codes "a", value.Bool true) ∷ []) ∷ []; base = 2; functions = [] }; templates = changing ∷ [] }

-- `object CheckCommand "c" { command = "x"` on line 1, then `vars` is set, and then `vars.k = true` on line 3
abbrev pub with_vars : StatementKind → PlainItem
with_vars k = item_of 1 (codes "CheckCommand") (codes "c") (lines 1 (sets (codes "command") (text (codes "x")) ∷ k ∷ sets_var (codes "k") (of (boolean true)) ∷ []))

-- an item for which `host` is bound, and whose body imports the template and then takes what it left
abbrev pub importing : PlainItem
importing = record (item_of 1 (codes "CheckCommand") (codes "c") (block (import (text (codes "t")) ∷ sets (codes "command") (part (named (codes "host")) (codes "k")) ∷ []))) { names = (codes "host", attributes (codes "a") no_pairs) ∷ [] }

-- `object Host "a" { name = "x" }`
abbrev pub renamed : PlainItem
renamed = item_of 2 (codes "Host") (codes "a") (block (sets (codes "name") (text (codes "x")) ∷ []))

-- `object CheckCommand "c" { name = "x"; command = "x" }`
abbrev pub renamed_command : PlainItem
renamed_command = item_of 1 (codes "CheckCommand") (codes "c") (block (sets (codes "name") (text (codes "x")) ∷ sets (codes "command") (text (codes "x")) ∷ []))
