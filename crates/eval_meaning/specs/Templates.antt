-- Imports of templates.
use Rattle.std.specs.Prelude.{ℕ, List, Bool, true, false, Option, Some, None, if◌then◌else◌}
use Rattle.site_base.specs.Quoted.{quoted}
use Rattle.site_base.specs.declared.place.Place.{Place}
use Rattle.site_base.specs.declared.diag_kind.DiagKind.TheVariants.{NotHere, NoTemplate}
use Rattle.dsl_syntax.specs.Syntax.{Expression}
use Rattle.dsl_value.specs.Pairs.{Pairs}
use Rattle.dsl_value.specs.declared.value.Value.{Value}
use Rattle.dsl_value.specs.declared.value.Value.TheVariants as value
use Rattle.eval_meaning.specs.Registered.{PlainTemplate}
use Rattle.eval_meaning.specs.Views.{View, template_in}
use Rattle.eval_meaning.specs.States.{State, Outcome, gives, faults, ◌>>=◌, done, fault, Task, item}
use Rattle.eval_meaning.specs.Parts.{Parts}
use Rattle.eval_meaning.specs.Frames.{first_locals, in_frame}
use Rattle.eval_meaning.specs.Flow.{block_with}
use Rattle.eval_meaning.specs.declared.flow.Flow.{Flow}
use Rattle.eval_meaning.specs.declared.flow.Flow.TheVariants.{On}

-- a template's body is run with the same `this`, in a frame that begins with what it captured and the names that are bound in the item
abbrev pub run_template : Parts → Place → List ℕ → Pairs → Option PlainTemplate → State → Outcome Flow
run_template ev l n bound None s = faults l NoTemplate (quoted n) s.reads
run_template ev l n bound (Some t) s = in_frame s.this (first_locals t.captured bound) false (block_with ev t.body) s >>= λ _ s1. gives On s1

-- only the body of an object has a place for imports, which is looked at before the name is evaluated
abbrev pub is_item : Task → Bool
is_item (item kind bound) = true
is_item t = false

abbrev pub in_item : Place → State → Outcome (Unit {0})
in_item l s = if is_item s.task then done s else fault l NotHere s

-- the template of the item's type and of a name, which is a string
abbrev pub imported_by : View → Parts → Place → Value → Task → State → Outcome Flow
imported_by view ev l (value.Str n) (item kind bound) s = run_template ev l n bound (template_in kind n view.templates) s
imported_by view ev l (value.Str n) t s = fault l NotHere s
imported_by view ev l v t s = fault l NoTemplate s

abbrev pub import_with : View → Parts → Place → Expression → State → Outcome Flow
import_with view ev l e s = in_item l s >>= λ _ s1. (ev.value e s1 >>= λ v s2. imported_by view ev l v s2.task s2)
