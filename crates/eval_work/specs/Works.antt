-- The plain values of what an evaluation works on.
use Rattle.std.specs.Prelude.{◌≡◌, ℕ, List, map, drop, option_map, Result, Ok, Err}
use Rattle.std.specs.Arc.{arc_value}
use Rattle.site_base.specs.Data.{Data}
use Rattle.site_base.specs.Quoted.{quoted}
use Rattle.site_base.specs.View.{view}
use Rattle.site_base.specs.declared.place.Place.{Place}
use Rattle.site_base.specs.declared.tree.Tree.{Tree}
use Rattle.site_base.specs.declared.diag_kind.DiagKind.{DiagKind}
use Rattle.site_model.specs.declared.object.Object.{Object}
use Rattle.dsl_syntax.specs.SyntaxView.{block_view, each_view, file_view}
use Rattle.dsl_value.specs.PlainStores.{closure, plain_store}
use Rattle.eval_meaning.specs.Registered.{PlainTemplate, PlainItem, PlainRule, PlainFile, PlacedName}
use Rattle.eval_meaning.specs.Views.{View, Shown}
use Rattle.eval_meaning.specs.States.{State, Loading as PlainLoading, Task as PlainTask, load, item, rule, Outcome, gives, faults, blocked}
use Rattle.eval_work.specs.declared.item.Item.{Item}
use Rattle.eval_work.specs.declared.rule.Rule.{Rule}
use Rattle.eval_work.specs.declared.source_file.SourceFile.{SourceFile}
use Rattle.eval_work.specs.declared.stop.Stop.{Stop}
use Rattle.eval_work.specs.declared.stop.Stop.TheVariants as stops
use Rattle.eval_work.specs.declared.task.Loading.{Loading}
use Rattle.eval_work.specs.declared.task.Task.{Task}
use Rattle.eval_work.specs.declared.task.Task.TheVariants as tasks
use Rattle.eval_work.specs.declared.template.Template.{Template}
use Rattle.eval_work.specs.declared.view.WorldView.{WorldView}
use Rattle.eval_work.specs.declared.work.Work.{Work}

-- ---- what a load registers

abbrev pub plain_template : Template → PlainTemplate
plain_template t = record { kind = t.kind; name = t.name; place = t.place; captured = t.captured.items; body = block_view (arc_value t.body) }

abbrev pub plain_pair : List ℕ × Tree → List ℕ × Data
plain_pair p = (p.0, view p.1)

abbrev pub plain_item : Item → PlainItem
plain_item i = record {
  number = i.number;
  kind = i.kind;
  name = i.name;
  place = i.place;
  presets = map plain_pair i.presets.items;
  names = map plain_pair i.names.items;
  captured = i.captured.items;
  body = block_view (arc_value i.body);
  builtin = i.builtin;
}

abbrev pub placed_name : List ℕ × Place → PlacedName
placed_name p = record { name = p.0; place = p.1 }

abbrev pub plain_rule : Rule → PlainRule
plain_rule r = record {
  number = r.number;
  kind = r.kind;
  name = option_map placed_name r.name;
  place = r.place;
  target = r.target;
  loop = option_map (λ e. each_view (arc_value e)) r.each;
  captured = r.captured.items;
  body = block_view (arc_value r.body);
}

abbrev pub plain_file : SourceFile → PlainFile
plain_file f = record { name = f.name; builtin = f.builtin; statements = file_view f.file }

-- ---- views

abbrev pub shown_object : Object → Shown
shown_object o = record { kind = o.kind; name = o.name; tree = view (arc_value o.tree) }

abbrev pub view_of : WorldView → View
view_of v = record {
  store = plain_store v.store.now;
  templates = map plain_template v.templates.now;
  rules = map plain_rule v.rules.now;
  objects = map shown_object v.objects.now;
  absent = v.known.now.absent.items;
  whole = v.known.now.whole.items;
  files = map plain_file v.files.now;
}

-- ---- states

abbrev pub plain_loading : Loading → PlainLoading
plain_loading m = record {
  order = drop m.at m.order.items;
  constants = m.constants;
  templates = map plain_template m.templates;
  items = map plain_item m.items.items;
  rules = map plain_rule m.rules.items;
}

abbrev pub plain_task : Task → PlainTask
plain_task (tasks.Load m) = load (plain_loading m)
plain_task (tasks.Item k b) = item k b
plain_task tasks.Rule = rule

abbrev pub state_of : Work → State
state_of w = record {
  cells = w.store.cells;
  base = w.store.base;
  functions = map closure w.store.functions;
  this = w.this;
  locals = w.locals;
  in_file = w.in_file;
  steps = w.steps;
  space = w.space;
  reads = w.reads.items;
  task = plain_task w.task;
}

-- ---- answers

-- What a function returned is what the definition gives, unless memory ran out.
abbrev pub Gives : {X Y : Type 0} → (X → Y) → Result X Stop → State → Outcome Y → Type 0
Gives view (Ok x) new r = r ≡ gives (view x) new
Gives view (Err stops.Memory) new r = Unit {0}
Gives view (Err (stops.Fault l k t)) new r = r ≡ faults l k t new.reads
Gives view (Err (stops.Blocked q)) new r = r ≡ blocked q new.reads

-- this fault
abbrev pub IsFault : Stop → Place → DiagKind → List ℕ → Type 0
IsFault s l k t = s ≡ stops.Fault l k t

-- this fault with a quoted name, unless memory ran out
abbrev pub IsNamedFault : Stop → Place → DiagKind → List ℕ → Type 0
IsNamedFault stops.Memory l k n = Unit {0}
IsNamedFault (stops.Fault m j t) l k n = stops.Fault m j t ≡ stops.Fault l k (quoted n)
IsNamedFault (stops.Blocked q) l k n = ⊥

-- this fault, unless memory ran out
abbrev pub IsFaultUnlessMemory : Stop → Place → DiagKind → List ℕ → Type 0
IsFaultUnlessMemory stops.Memory l k t = Unit {0}
IsFaultUnlessMemory (stops.Fault m j u) l k t = stops.Fault m j u ≡ stops.Fault l k t
IsFaultUnlessMemory (stops.Blocked q) l k t = ⊥
