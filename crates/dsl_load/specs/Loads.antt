-- What a load gives.
use Rattle.std.specs.Prelude.{◌≡◌, ℕ, List, length, map, Result, Ok, Err}
use Rattle.dsl_value.specs.PlainStores.{plain_store}
use Rattle.eval_meaning.specs.States.{gives, faults}
use Rattle.eval_meaning.specs.Registered.{PlainFile}
use Rattle.eval_meaning.specs.Load.{Loaded, load_run, loaded}
use Rattle.eval_work.specs.Works.{state_of, plain_template, plain_item, plain_rule}
use Rattle.eval_work.specs.Kept.{HasGlobals, TemplatesNamed, ItemsNamed, RulesNamed}
use Rattle.eval_work.specs.declared.work.Work.{Work}
use Rattle.eval_work.specs.declared.stop.Stop.{Stop}
use Rattle.eval_work.specs.declared.stop.Stop.TheVariants as stops
use Rattle.dsl_value.specs.declared.value.Value.{Value}
use Rattle.eval_meaning.specs.States.{State}
use Rattle.eval_meaning.specs.declared.read.Read.{Read}
use Rattle.dsl_load.specs.declared.load_parts.LoadParts.{LoadParts}

-- the plain value of what a load gives
abbrev pub plain_parts : LoadParts → Loaded
plain_parts p = record {
  store = plain_store p.store;
  templates = map plain_template p.templates;
  items = map plain_item p.items.items;
  rules = map plain_rule p.rules.items;
}

-- The files, run as one evaluation, end in the state of this work, or in this fault, unless memory ran out. Nothing is blocked.
abbrev pub Runs : List PlainFile → List ℕ → Result Work Stop → Type 0
Runs files order (Ok w) = (v : Value) × (load_run files order ≡ gives v (state_of w))
Runs files order (Err stops.Memory) = Unit {0}
Runs files order (Err (stops.Fault l k t)) = (rs : List Read) × (load_run files order ≡ faults l k t rs)
Runs files order (Err (stops.Blocked q)) = ⊥

-- They end in a state of which this is left, or in this fault, unless memory ran out.
abbrev pub Loads : List PlainFile → List ℕ → Result LoadParts Stop → Type 0
Loads files order (Ok p) = (v : Value) × (s : State) × (load_run files order ≡ gives v s) × (plain_parts p ≡ loaded s)
Loads files order (Err stops.Memory) = Unit {0}
Loads files order (Err (stops.Fault l k t)) = (rs : List Read) × (load_run files order ≡ faults l k t rs)
Loads files order (Err (stops.Blocked q)) = ⊥

-- What is true of each load: its cells are frozen, the first one is a dictionary, and what was captured names cells and functions of
-- its store.
pub record IsLoad (p : LoadParts) : Type 0 where
  pub frozen : p.store.base ≡ length p.store.cells
  pub globals : HasGlobals p.store
  pub templates : TemplatesNamed p.store p.templates
  pub items : ItemsNamed p.store p.items.items
  pub rules : RulesNamed p.store p.rules.items
