-- What an evaluation works on, and how it ends.
use Rattle.std.specs.Prelude.{ℕ, ◌-◌, ◌==◌, List, [], ◌∷◌, ◌++◌, length, Bool, nat_lt, if◌then◌else◌}
use Rattle.site_base.specs.declared.place.Place.{Place}
use Rattle.site_base.specs.declared.diag_kind.DiagKind.{DiagKind}
use Rattle.site_base.specs.declared.diag_kind.DiagKind.TheVariants.{StepLimit, SpaceLimit}
use Rattle.dsl_value.specs.Pairs.{Pairs}
use Rattle.dsl_value.specs.Contents.{PlainCell, cell_at, pairs_of}
use Rattle.dsl_value.specs.PlainStores.{Closure}
use Rattle.dsl_value.specs.declared.value.Value.{Value}
use Rattle.dsl_value.specs.declared.value.Value.TheVariants as value
use Rattle.eval_meaning.specs.Registered.{PlainTemplate, PlainItem, PlainRule}
use Rattle.eval_meaning.specs.declared.read.Read.{Read}

-- What a load has come to: what is left of the order of its walk in the file that is run, the constants by rising names, each with whether it
-- can be replaced, and what was registered.
pub record Loading : Type 0 where
  pub order : List ℕ
  pub constants : Pairs
  pub templates : List PlainTemplate
  pub items : List PlainItem
  pub rules : List PlainRule

-- what is evaluated: a load, the body of an object of a type with the names that are bound in it, or an expression of a rule
pub data Task : Type 0 where
  load : Loading → Task
  item : List ℕ → Pairs → Task
  rule : Task

-- What an evaluation works on: a store of cells, of which those below the base are frozen, and of functions; the frame, with its `this`, its
-- locals by rising names, and whether it is a file's; the steps and the units of space that are left; the reads so far, in their order; and
-- the task.
pub record State : Type 0 where
  pub cells : List PlainCell
  pub base : ℕ
  pub functions : List Closure
  pub this : Value
  pub locals : Pairs
  pub in_file : Bool
  pub steps : ℕ
  pub space : ℕ
  pub reads : List Read
  pub task : Task

-- how an evaluation ends: with what it gives and the state after it, with a fault, or blocked on a read that isn't decided; of the state
-- only the reads count then
pub data Outcome (A : Type 0) : Type 0 where
  gives : A → State → Outcome A
  faults : Place → DiagKind → List ℕ → List Read → Outcome A
  blocked : Read → List Read → Outcome A

infixl 10 ◌>>=◌
-- one evaluation after another; a fault or an undecided read ends all
abbrev pub ◌>>=◌ : {A B : Type 0} → Outcome A → (A → State → Outcome B) → Outcome B
(gives a s) >>= f = f a s
(faults l k t rs) >>= f = faults l k t rs
(blocked r rs) >>= f = blocked r rs

-- nothing but a state
abbrev pub done : State → Outcome (Unit {0})
done s = gives tt s

-- a fault without a detail
abbrev pub fault : {A : Type 0} → Place → DiagKind → State → Outcome A
fault l k s = faults l k [] s.reads

-- a step is counted, if one is left
abbrev pub step : Place → State → Outcome (Unit {0})
step l s = if s.steps == 0 then fault l StepLimit s else done (record s { steps = s.steps - 1 })

-- so many units of space are charged, if they are left
abbrev pub charge : Place → ℕ → State → Outcome (Unit {0})
charge l n s = if nat_lt s.space n then fault l SpaceLimit s else done (record s { space = s.space - n })

-- a cell behind the others, and the value that names it
abbrev pub with_new : PlainCell → State → Outcome Value
with_new c s = gives (value.Ref (length s.cells)) (record s { cells = s.cells ++ c ∷ [] })

-- a function behind the others, and the value that names it
abbrev pub with_function : Closure → State → Outcome Value
with_function f s = gives (value.Func (length s.functions)) (record s { functions = s.functions ++ f ∷ [] })

-- the globals are the first cell
abbrev pub globals_cell : ℕ
globals_cell = 0

abbrev pub globals : State → Pairs
globals s = pairs_of (cell_at s.cells globals_cell)
