-- Where the evaluations of a commit begin, and the trees of their values.
use Rattle.std.specs.Prelude.{ℕ, List, [], ◌∷◌, ◌++◌, false, Result, Ok, Err}
use Rattle.site_base.specs.Data.{Data}
use Rattle.site_base.specs.declared.place.Place.{Place}
use Rattle.site_base.specs.declared.diag_kind.DiagKind.{DiagKind}
use Rattle.site_base.specs.declared.diag_kind.DiagKind.TheVariants as kind
use Rattle.dsl_value.specs.Pairs.{Pairs}
use Rattle.dsl_value.specs.PlainStores.{PlainStore}
use Rattle.dsl_value.specs.Walks.{tree_walked}
use Rattle.dsl_value.specs.declared.tree_fault.TreeFault.{TreeFault}
use Rattle.dsl_value.specs.declared.tree_fault.TreeFault.TheVariants as tree_fault
use Rattle.dsl_value.specs.declared.value.Value.{Value}
use Rattle.dsl_value.specs.declared.value.Value.TheVariants as value
use Rattle.eval_meaning.specs.States.{State, Outcome, gives, ◌>>=◌, fault, Task}
use Rattle.eval_meaning.specs.Objects.{with_tree}
use Rattle.eval_meaning.specs.Load.{item_steps, item_space}
use Rattle.eval_meaning.specs.declared.read.Read.{Read}

-- ---- the start

-- An evaluation begins with the load's store, and with all steps and all space of an item; before it so much was read.
abbrev pub fresh : PlainStore → Task → List Read → State
fresh store t reads = record {
  cells = store.cells;
  base = store.base;
  functions = store.functions;
  this = value.Null;
  locals = [];
  in_file = false;
  steps = item_steps;
  space = item_space;
  reads = reads;
  task = t;
}

-- ---- trees become values

-- names, each with a tree
abbrev pub Trees : Type 0
Trees = List (List ℕ × Data)

-- each name with a value that is made of its tree, behind the pairs that are there; it costs nothing
abbrev pub values_of : Trees → Pairs → State → Outcome Pairs
values_of [] ps s = gives ps s
values_of (t ∷ ts) ps s = with_tree t.1 s >>= λ v s1. values_of ts (ps ++ (t.0, v) ∷ []) s1

-- ---- values become trees

-- The walk over a value stops in three ways; that memory ran out is none of them.
abbrev pub tree_kind : TreeFault → DiagKind
tree_kind (tree_fault.Cyclic k) = kind.Cyclic
tree_kind tree_fault.HasFunction = kind.FunctionValue
tree_kind tree_fault.TooLarge = kind.SpaceLimit
tree_kind tree_fault.OutOfMemory = kind.SpaceLimit

abbrev pub tree_by : Place → Result Data TreeFault → State → Outcome Data
tree_by l (Ok d) s = gives d s
tree_by l (Err e) s = fault l (tree_kind e) s

-- the tree of a value
unfoldable pub tree_at : Place → Value → State → Outcome Data
tree_at l v s = tree_by l (tree_walked s.cells v) s

-- each name with the tree of its value, behind those that are there
abbrev pub trees_at : Place → Pairs → Trees → State → Outcome Trees
trees_at l [] ts s = gives ts s
trees_at l (p ∷ ps) ts s = tree_at l p.1 s >>= λ d s1. trees_at l ps (ts ++ (p.0, d) ∷ []) s1
