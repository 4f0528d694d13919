-- Calls.
use Rattle.std.specs.Prelude.{ℕ, List, [], ◌∷◌, Option, Some, None}
use Rattle.site_base.specs.Quoted.{quoted}
use Rattle.site_base.specs.declared.place.Place.{Place}
use Rattle.site_base.specs.declared.diag_kind.DiagKind.TheVariants.{Undefined}
use Rattle.dsl_syntax.specs.Syntax.{Expression, expression, name, member, index, Expressions}
use Rattle.dsl_value.specs.declared.value.Value.{Value}
use Rattle.dsl_value.specs.declared.value.Value.TheVariants as value
use Rattle.dsl_ops.specs.Operands.{operand}
use Rattle.eval_meaning.specs.Views.{View}
use Rattle.eval_meaning.specs.States.{State, Outcome, gives, faults, ◌>>=◌}
use Rattle.eval_meaning.specs.Parts.{Parts}
use Rattle.eval_meaning.specs.Literals.{values_with}
use Rattle.eval_meaning.specs.Members.{part_value}
use Rattle.eval_meaning.specs.Frames.{named, name_in}
use Rattle.eval_meaning.specs.Functions.{apply_with}
use Rattle.dsl_lib.specs.Names.{function_named, method_named}
use Rattle.eval_meaning.specs.Library.{call_plain}
use Rattle.eval_meaning.specs.Objects.{read_host, read_service}
use Rattle.eval_meaning.specs.Visits.{map_with, filter_with, any_with, all_with, visits_by}
use Rattle.eval_meaning.specs.declared.callee.Callee.{Callee}
use Rattle.eval_meaning.specs.declared.callee.Callee.TheVariants as callee
use Rattle.dsl_lib.specs.declared.names.LibraryCall.{LibraryCall}
use Rattle.dsl_lib.specs.declared.names.LibraryCall.TheVariants as library

-- ---- what is called

abbrev pub function_called : Place → List ℕ → Option LibraryCall → State → Outcome Callee
function_called l n (Some c) s = gives (callee.Function c) s
function_called l n None s = faults l Undefined (quoted n) s.reads

-- a name that is called is a function of the library where it has no value
abbrev pub name_called : Place → List ℕ → Option Value → State → Outcome Callee
name_called l n (Some v) s = gives (callee.Value v s.this) s
name_called l n None s = function_called l n (function_named n) s

-- what a value has at a key is called with that value as its `this`
abbrev pub part_called : Place → Value → Value → State → Outcome Callee
part_called l v k s = part_value l v k s >>= λ f s1. gives (callee.Value f v) s1

abbrev pub method_called : Place → Value → List ℕ → Option LibraryCall → State → Outcome Callee
method_called l v n (Some c) s = gives (callee.Method c v) s
method_called l v n None s = part_called l v (value.Str n) s

-- a dictionary's own key wins over a method
abbrev pub member_called : Place → Value → List ℕ → Option Value → State → Outcome Callee
member_called l v n (Some f) s = gives (callee.Value f v) s
member_called l v n None s = method_called l v n (method_named (operand s.cells v) n) s

abbrev pub called_member_with : Parts → Place → Expression → List ℕ → State → Outcome Callee
called_member_with ev l e n s = ev.value e s >>= λ v s1. member_called l v n (name_in s1.cells n v) s1

-- an index is never a method
abbrev pub called_index_with : Parts → Place → Expression → Expression → State → Outcome Callee
called_index_with ev l e k s = ev.value e s >>= λ v s1. (ev.value k s1 >>= λ i s2. part_called l v i s2)

-- what another expression gives is called with the frame's `this`
abbrev pub value_called : Outcome Value → Outcome Callee
value_called o = o >>= λ v s. gives (callee.Value v s.this) s

-- What an expression that is called gives. Its own step is counted before, so an expression of another kind is evaluated by `other`, which
-- counts none.
abbrev pub callee_with : Parts → (Expression → State → Outcome Value) → Expression → State → Outcome Callee
callee_with ev other (expression l (name n)) s = name_called l n (named n s) s
callee_with ev other (expression l (member e n)) s = called_member_with ev l e n s
callee_with ev other (expression l (index e k)) s = called_index_with ev l e k s
callee_with ev other e s = value_called (other e s)

-- ---- the call

-- a method's own value is its first argument
abbrev pub own_value : Callee → List Value
own_value (callee.Method c v) = v ∷ []
own_value c = []

abbrev pub library_with : View → Parts → Place → LibraryCall → List Value → State → Outcome Value
library_with view ev l (library.Plain c) vs s = call_plain l c vs s
library_with view ev l library.GetHost vs s = read_host view l vs s
library_with view ev l library.GetService vs s = read_service view l vs s
library_with view ev l library.Map vs s = visits_by (map_with ev l) l vs s
library_with view ev l library.Filter vs s = visits_by (filter_with ev l) l vs s
library_with view ev l library.Any vs s = visits_by (any_with ev l) l vs s
library_with view ev l library.All vs s = visits_by (all_with ev l) l vs s

abbrev pub called_with : View → Parts → Place → Callee → List Value → State → Outcome Value
called_with view ev l (callee.Value v this) vs s = apply_with ev l v this vs s
called_with view ev l (callee.Function c) vs s = library_with view ev l c vs s
called_with view ev l (callee.Method c v) vs s = library_with view ev l c vs s

-- the expression that is called, then the arguments, and then the call
abbrev pub call_with : View → Parts → Place → Expression → Expressions → State → Outcome Value
call_with view ev l e es s = ev.callee e s >>= λ c s1. (values_with ev es (own_value c) s1 >>= λ vs s2. called_with view ev l c vs s2)
