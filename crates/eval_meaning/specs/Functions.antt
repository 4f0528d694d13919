-- Functions: how they are made, and how they are called.
use Rattle.std.specs.Prelude.{ℕ, ◌==◌, List, [], ◌∷◌, length, slice_get, false, Option, Some, None, if◌then◌else◌}
use Rattle.site_base.specs.declared.place.Place.{Place}
use Rattle.site_base.specs.declared.diag_kind.DiagKind.TheVariants.{WrongType, Arity}
use Rattle.dsl_syntax.specs.Syntax.{Function, function, Uses, no_uses, more_uses, MaybeExpression, no_expression, some_expression}
use Rattle.dsl_value.specs.Pairs.{Pairs, put}
use Rattle.dsl_value.specs.PlainStores.{Closure}
use Rattle.dsl_value.specs.declared.value.Value.{Value}
use Rattle.dsl_value.specs.declared.value.Value.TheVariants as value
use Rattle.eval_meaning.specs.States.{State, Outcome, gives, ◌>>=◌, fault, with_function, globals_cell}
use Rattle.eval_meaning.specs.Parts.{Parts}
use Rattle.eval_meaning.specs.Frames.{name_value, first_locals, set_local, in_frame}
use Rattle.eval_meaning.specs.Flow.{block_with}
use Rattle.eval_meaning.specs.Targets.{put_in}
use Rattle.eval_meaning.specs.declared.flow.Flow.{Flow}
use Rattle.eval_meaning.specs.declared.flow.Flow.TheVariants.{On}

-- what a name of a `use` list captures: the value of its expression, and without one its own value, whose want is a fault of the statement
-- or expression that has the list
abbrev pub used_with : Parts → Place → List ℕ → MaybeExpression → State → Outcome Value
used_with ev l n (some_expression e) s = ev.value e s
used_with ev l n no_expression s = name_value l n s

-- the names of a `use` list with their values, beside those that are there. They go by rising names, and of one name the last value is kept
abbrev pub captured_with : Parts → Place → Uses → Pairs → State → Outcome Pairs
captured_with ev l no_uses ps s = gives ps s
captured_with ev l (more_uses n o us) ps s = used_with ev l n o s >>= λ v s1. captured_with ev l us (put n v ps) s1

-- a function goes into the store with what it captured; it costs nothing
abbrev pub function_with : Parts → Place → Function → State → Outcome Value
function_with ev l (function ps us b) s = captured_with ev l us [] s >>= λ c s1. with_function (record { func = function ps us b; captured = c }) s1

-- a function with a name is a global where the frame is a file's, and else a local
abbrev pub defined : Place → List ℕ → Value → State → Outcome Flow
defined l n f s = if s.in_file then put_in l (value.Ref globals_cell) (value.Str n) f s else gives On (set_local n f s)

abbrev pub define_with : Parts → Place → List ℕ → Function → State → Outcome Flow
define_with ev l n f s = function_with ev l f s >>= λ v s1. defined l n v s1

-- parameters with their values
abbrev pub bound : List (List ℕ) → List Value → Pairs
bound [] vs = []
bound (n ∷ ns) [] = []
bound (n ∷ ns) (v ∷ vs) = (n, v) ∷ bound ns vs

-- a function's body is run in a frame that begins with what it captured and its parameters
abbrev pub run_function : Parts → Place → Function → Pairs → Value → List Value → State → Outcome Value
run_function ev l (function ps us b) captured this vs s =
    if length ps == length vs then in_frame this (first_locals captured (bound ps vs)) false (block_with ev b) s else fault l Arity s

abbrev pub run_closure : Parts → Place → Option Closure → Value → List Value → State → Outcome Value
run_closure ev l (Some f) this vs s = run_function ev l f.func f.captured this vs s
run_closure ev l None this vs s = fault l WrongType s

-- a value is called
abbrev pub apply_with : Parts → Place → Value → Value → List Value → State → Outcome Value
apply_with ev l (value.Func k) this vs s = run_closure ev l (slice_get s.functions k) this vs s
apply_with ev l v this vs s = fault l WrongType s
