-- Assignments.
use Rattle.std.specs.Prelude.{ℕ, zero, List, [], ◌∷◌, ◌++◌, Bool, false, Option, Some, None, is_some, if◌then◌else◌}
use Rattle.site_base.specs.declared.place.Place.{Place}
use Rattle.site_base.specs.declared.diag_kind.DiagKind.{DiagKind}
use Rattle.site_base.specs.declared.diag_kind.DiagKind.TheVariants as kind
use Rattle.dsl_syntax.specs.Syntax.{Root, at_name, at_this, at_globals, Steps, no_steps, member_step, index_step, Expression}
use Rattle.dsl_syntax.specs.declared.set_op.SetOp.{SetOp}
use Rattle.dsl_syntax.specs.declared.set_op.SetOp.TheVariants as set
use Rattle.dsl_syntax.specs.declared.bin_op.BinOp.{BinOp}
use Rattle.dsl_syntax.specs.declared.bin_op.BinOp.TheVariants as bin
use Rattle.dsl_value.specs.Pairs.{find}
use Rattle.dsl_value.specs.Outcomes.{made_units}
use Rattle.dsl_value.specs.declared.value.Value.{Value}
use Rattle.dsl_value.specs.declared.value.Value.TheVariants as value
use Rattle.dsl_ops.specs.Members.{set_outcome}
use Rattle.dsl_ops.specs.declared.member_fault.MemberFault.{MemberFault}
use Rattle.dsl_ops.specs.declared.member_fault.MemberFault.TheVariants as member_fault
use Rattle.eval_meaning.specs.States.{State, Outcome, gives, ◌>>=◌, fault, Task, load, globals_cell}
use Rattle.eval_meaning.specs.Settled.{contents, settled}
use Rattle.eval_meaning.specs.Parts.{Parts}
use Rattle.eval_meaning.specs.Literals.{new_dict}
use Rattle.eval_meaning.specs.Members.{part_value}
use Rattle.eval_meaning.specs.Operators.{operated}
use Rattle.eval_meaning.specs.Frames.{set_local}
use Rattle.eval_meaning.specs.declared.flow.Flow.{Flow}
use Rattle.eval_meaning.specs.declared.flow.Flow.TheVariants.{On}

-- Where an assignment goes to: by keys into the value of a local, which is the local itself if there are none, or by keys into another
-- value.
pub data Target : Type 0 where
  to_local : List ℕ → Value → List Value → Target
  into : Value → List Value → Target

-- the keys of the steps, from left to right, behind those that are there. Names cost nothing
abbrev pub keys_with : Parts → Steps → List Value → State → Outcome (List Value)
keys_with ev no_steps ks s = gives ks s
keys_with ev (member_step n ss) ks s = keys_with ev ss (ks ++ value.Str n ∷ []) s
keys_with ev (index_step e ss) ks s = ev.value e s >>= λ k s1. keys_with ev ss (ks ++ k ∷ []) s1

abbrev pub named_target : List ℕ → List Value → Value → Option Value → Target
named_target n ks this (Some v) = to_local n v ks
named_target n ks this None = into this (value.Str n ∷ ks)

-- a name is a local, where the frame has one, and else a member of `this`
unfoldable pub target_of : Root → List Value → State → Target
target_of (at_name n) ks s = named_target n ks s.this (find n s.locals)
target_of at_this ks s = into s.this ks
target_of at_globals ks s = into (value.Ref globals_cell) ks

-- ---- what stands there

-- what keys lead to in a value
abbrev pub followed : Place → Value → List Value → State → Outcome Value
followed l v [] s = gives v s
followed l v (k ∷ ks) s = part_value l v k s >>= λ w s1. followed l w ks s1

-- ---- writing

abbrev pub member_kind : MemberFault → DiagKind
member_kind member_fault.WrongType = kind.WrongType
member_kind member_fault.Frozen = kind.FrozenWrite
member_kind member_fault.OutOfMemory = kind.WrongType

-- a container has a value at a key: a dictionary takes strings, and an array the indexes below its length. That costs a unit
abbrev pub put_member : Place → Value → Value → Value → State → Outcome Flow
put_member l container k v s = settled member_kind l (made_units (set_outcome (contents s) container k v)) (set_outcome (contents s) container k v) s >>= λ _ s1. gives On s1

-- at a load a constant is a key of the globals that no assignment changes
abbrev pub is_constant : Task → Value → Value → Bool
is_constant (load m) (value.Ref zero) (value.Str n) = is_some (find n m.constants)
is_constant t container k = false

unfoldable pub put_in : Place → Value → Value → Value → State → Outcome Flow
put_in l container k v s = if is_constant s.task container k then fault l kind.ConstSet s else put_member l container k v s

-- a new dictionary in the place of a null; it is charged before the write into its container is looked at
abbrev pub made_inside : Place → Value → Value → State → Outcome Value
made_inside l container k s = new_dict l [] s >>= λ d s1. (put_in l container k d s1 >>= λ _ s2. gives d s2)

abbrev pub inside_by : Place → Value → Value → Value → State → Outcome Value
inside_by l container k value.Null s = made_inside l container k s
inside_by l container k v s = gives v s

-- what stands at a key, or a new dictionary where that is null; nothing is made in a null
abbrev pub inside : Place → Value → Value → State → Outcome Value
inside l value.Null k s = fault l kind.WrongType s
inside l container k s = part_value l container k s >>= λ v s1. inside_by l container k v s1

-- keys lead into a container, and a value is put in at the last one
abbrev pub written : Place → Value → List Value → Value → State → Outcome Flow
written l container [] v s = fault l kind.WrongType s
written l container (k ∷ []) v s = put_in l container k v s
written l container (k ∷ j ∷ ks) v s = inside l container k s >>= λ d s1. written l d (j ∷ ks) v s1

-- a local that is null becomes a new dictionary
abbrev pub made_local : Place → List ℕ → State → Outcome Value
made_local l n s = new_dict l [] s >>= λ d s1. gives d (set_local n d s1)

-- a local gets a value, or keys lead into its value
abbrev pub write_local : Place → List ℕ → Value → List Value → Value → State → Outcome Flow
write_local l n container [] v s = gives On (set_local n v s)
write_local l n value.Null (k ∷ ks) v s = made_local l n s >>= λ d s1. written l d (k ∷ ks) v s1
write_local l n container (k ∷ ks) v s = written l container (k ∷ ks) v s

-- ---- the statement

abbrev pub operated_on : Place → BinOp → Value → List Value → Value → State → Outcome Value
operated_on l o container ks v s = followed l container ks s >>= λ old s1. operated l o old v s1

-- what is written: of `+=` and its kin, what the operator gives of the value that stands there
abbrev pub set_value : Place → SetOp → Value → List Value → Value → State → Outcome Value
set_value l set.Plain container ks v s = gives v s
set_value l set.Add container ks v s = operated_on l bin.Add container ks v s
set_value l set.Sub container ks v s = operated_on l bin.Sub container ks v s
set_value l set.Mul container ks v s = operated_on l bin.Mul container ks v s
set_value l set.Div container ks v s = operated_on l bin.Div container ks v s

unfoldable pub assigned : Place → SetOp → Target → Value → State → Outcome Flow
assigned l o (to_local n container ks) v s = set_value l o container ks v s >>= λ w s1. write_local l n container ks w s1
assigned l o (into container ks) v s = set_value l o container ks v s >>= λ w s1. written l container ks w s1

-- the keys of the target, then the right side, and only then the target is found
abbrev pub set_with : Parts → Place → Root → Steps → SetOp → Expression → State → Outcome Flow
set_with ev l r ss o e s = keys_with ev ss [] s >>= λ ks s1. (ev.value e s1 >>= λ v s2. assigned l o (target_of r ks s2) v s2)
