-- Templates that are imported.
use Rattle.std.specs.Prelude.{ℕ, List, Option, Some, None}
use Rattle.std.specs.Arc.{arc_value}
use Rattle.site_base.specs.Quoted.{quoted}
use Rattle.site_base.specs.declared.place.Place.{Place}
use Rattle.site_base.specs.declared.diag_kind.DiagKind.TheVariants.{NotHere, NoTemplate}
use Rattle.dsl_syntax.specs.Syntax.{Statements}
use Rattle.dsl_syntax.specs.SyntaxView.{block_view}
use Rattle.dsl_value.specs.Pairs.{Pairs}
use Rattle.dsl_value.specs.declared.value.Value.{Value}
use Rattle.dsl_value.specs.declared.value.Value.TheVariants as value
use Rattle.eval_meaning.specs.Registered.{PlainTemplate}
use Rattle.eval_meaning.specs.Views.{View, template_in}
use Rattle.eval_meaning.specs.States.{State, Outcome, gives, faults, fault, Task, item}
use Rattle.eval_meaning.specs.Frames.{first_locals}
use Rattle.load_work.specs.declared.admitting.Imported.{Imported}

-- a body, and the locals that its frame begins with
pub record PlainImported : Type 0 where
  pub body : Statements
  pub locals : Pairs

abbrev pub plain_imported : Imported → PlainImported
plain_imported i = record { body = block_view (arc_value i.body); locals = i.locals }

abbrev pub found_template : Place → List ℕ → Pairs → Option PlainTemplate → State → Outcome PlainImported
found_template l n bound None s = faults l NoTemplate (quoted n) s.reads
found_template l n bound (Some t) s = gives (record { body = t.body; locals = first_locals t.captured bound }) s

-- what an import runs, by the value of its name
abbrev pub found_by : View → Place → Value → Task → State → Outcome PlainImported
found_by view l (value.Str n) (item kind bound) s = found_template l n bound (template_in kind n view.templates) s
found_by view l (value.Str n) t s = fault l NotHere s
found_by view l v t s = fault l NoTemplate s
