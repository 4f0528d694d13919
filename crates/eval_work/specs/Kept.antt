-- What a work keeps of itself.
use Rattle.std.specs.Prelude.{◌≡◌, ℕ, ◌<◌, ◌≤◌, List, false, map, length, Option, Some, None}
use Rattle.std.specs.List.{AllByRecursion}
use Rattle.dsl_value.specs.Pairs.{Pairs}
use Rattle.dsl_value.specs.Contents.{Contents, cell_at, is_array}
use Rattle.dsl_value.specs.Whole.{Names, NamesAll}
use Rattle.dsl_value.specs.declared.value.Value.{Value}
use Rattle.eval_meaning.specs.Registered.{PlainTemplate}
use Rattle.eval_meaning.specs.Views.{template_in}
use Rattle.eval_meaning.specs.declared.callee.Callee.{Callee}
use Rattle.eval_meaning.specs.declared.callee.Callee.TheVariants as callees
use Rattle.eval_meaning.specs.declared.flow.Flow.{Flow}
use Rattle.eval_meaning.specs.declared.flow.Flow.TheVariants as flows
use Rattle.eval_work.specs.Works.{plain_template}
use Rattle.eval_work.specs.declared.item.Item.{Item}
use Rattle.eval_work.specs.declared.rule.Rule.{Rule}
use Rattle.eval_work.specs.declared.task.Loading.{Loading}
use Rattle.eval_work.specs.declared.task.Task.{Task}
use Rattle.eval_work.specs.declared.task.Task.TheVariants as tasks
use Rattle.eval_work.specs.declared.template.Template.{Template}
use Rattle.eval_work.specs.declared.view.WorldView.{WorldView}
use Rattle.eval_work.specs.declared.work.Work.{Work}

-- a value names a cell or a function of a store, if it names one
abbrev pub Named : Contents → Value → Type 0
Named c v = Names (length c.cells) (length c.functions) v

abbrev pub NamedAll : Contents → List Value → Type 0
NamedAll c vs = AllByRecursion (Names (length c.cells) (length c.functions)) vs

abbrev pub PairsNamed : Contents → Pairs → Type 0
PairsNamed c ps = NamesAll (length c.cells) (length c.functions) ps

-- so does what templates, items or rules captured
abbrev pub TemplatesNamed : Contents → List Template → Type 0
TemplatesNamed c ts = AllByRecursion (λ t. PairsNamed c t.captured.items) ts

abbrev pub ItemsNamed : Contents → List Item → Type 0
ItemsNamed c is = AllByRecursion (λ i. PairsNamed c i.captured.items) is

abbrev pub RulesNamed : Contents → List Rule → Type 0
RulesNamed c rs = AllByRecursion (λ r. PairsNamed c r.captured.items) rs

-- so does what all that a load registered captured
pub record RegisteredNamed (c : Contents) (m : Loading) : Type 0 where
  pub templates : TemplatesNamed c m.templates
  pub items : ItemsNamed c m.items.items
  pub rules : RulesNamed c m.rules.items

-- so does what a task holds: the names that are bound in an item, or what a load registered
abbrev pub BoundNamed : Contents → Task → Type 0
BoundNamed c (tasks.Item k b) = PairsNamed c b
BoundNamed c tasks.Rule = Unit {0}
BoundNamed c (tasks.Load m) = RegisteredNamed c m

-- the globals are a dictionary in the first cell
pub record HasGlobals (c : Contents) : Type 0 where
  pub some : 0 < length c.cells
  pub dict : is_array (cell_at c.cells 0) ≡ false

-- what a work keeps: its values name its cells and functions, and its store has the globals
pub record IsFit (w : Work) : Type 0 where
  pub this : Named w.store w.this
  pub locals : PairsNamed w.store w.locals
  pub bound : BoundNamed w.store w.task
  pub globals : HasGlobals w.store

-- no cell and no function is lost, and the first cell is of the same kind
pub record IsLater (old new : Contents) : Type 0 where
  pub cells : length old.cells ≤ length new.cells
  pub functions : length old.functions ≤ length new.functions
  pub first : is_array (cell_at new.cells 0) ≡ is_array (cell_at old.cells 0)

-- what stands after something was evaluated
pub record IsKept (old new : Work) (v : Value) : Type 0 where
  pub fit : IsFit new
  pub later : IsLater old.store new.store
  pub named : Named new.store v

pub record AreKept (old new : Work) (vs : List Value) : Type 0 where
  pub fit : IsFit new
  pub later : IsLater old.store new.store
  pub named : NamedAll new.store vs

pub record ArePairsKept (old new : Work) (ps : Pairs) : Type 0 where
  pub fit : IsFit new
  pub later : IsLater old.store new.store
  pub named : PairsNamed new.store ps

-- the values that a flow returns
abbrev pub FlowNamed : Contents → Flow → Type 0
FlowNamed c (flows.Returned v) = Named c v
FlowNamed c flows.On = Unit {0}
FlowNamed c (flows.Broken l) = Unit {0}
FlowNamed c (flows.Continued l) = Unit {0}

pub record IsFlowKept (old new : Work) (f : Flow) : Type 0 where
  pub fit : IsFit new
  pub later : IsLater old.store new.store
  pub named : FlowNamed new.store f

-- what is called, and with which values
abbrev pub CalleeNamed : Contents → Callee → Type 0
CalleeNamed c (callees.Value v this) = Named c v × Named c this
CalleeNamed c (callees.Function f) = Unit {0}
CalleeNamed c (callees.Method f v) = Named c v

pub record IsCalleeKept (old new : Work) (f : Callee) : Type 0 where
  pub fit : IsFit new
  pub later : IsLater old.store new.store
  pub named : CalleeNamed new.store f

-- the values that the end of a loop returns
abbrev pub TurnNamed : Contents → Option Flow → Type 0
TurnNamed c None = Unit {0}
TurnNamed c (Some f) = FlowNamed c f

pub record IsTurnKept (old new : Work) (o : Option Flow) : Type 0 where
  pub fit : IsFit new
  pub later : IsLater old.store new.store
  pub named : TurnNamed new.store o

-- what the templates that are found in a view captured names cells and functions of a store
pub record IsTold (v : WorldView) (c : Contents) : Type 0 where
  pub templates : (kind name : List ℕ) (t : PlainTemplate) → template_in kind name (map plain_template v.templates.now) ≡ Some t → PairsNamed c t.captured

-- nothing but the work is kept
pub record IsStill (old new : Work) : Type 0 where
  pub fit : IsFit new
  pub later : IsLater old.store new.store
