-- Values of which there may be none, and the right sides of operators.
use Rattle.std.specs.Prelude.{List, ℕ, Option, Some, None, if◌then◌else◌}
use Rattle.site_base.specs.declared.place.Place.{Place}
use Rattle.dsl_syntax.specs.Syntax.{Expression, MaybeExpression, no_expression, some_expression}
use Rattle.dsl_syntax.specs.Lists.{OneStep, to_member, to_index}
use Rattle.dsl_syntax.specs.declared.bin_op.BinOp.{BinOp}
use Rattle.dsl_syntax.specs.declared.bin_op.BinOp.TheVariants as bin
use Rattle.dsl_value.specs.declared.value.Value.{Value}
use Rattle.dsl_value.specs.declared.value.Value.TheVariants as value
use Rattle.eval_meaning.specs.States.{State, Outcome, gives, ◌>>=◌}
use Rattle.eval_meaning.specs.Parts.{Parts}
use Rattle.eval_meaning.specs.Operators.{holds, operated}
use Rattle.eval_meaning.specs.Frames.{name_value}
use Rattle.dsl_value.specs.Contents.{Contents}
use Rattle.eval_work.specs.Kept.{Named}

-- the value of an expression, if there is one
abbrev pub maybe_value : Parts → MaybeExpression → State → Outcome (Option Value)
maybe_value ev no_expression s = gives None s
maybe_value ev (some_expression e) s = ev.value e s >>= λ v s1. gives (Some v) s1

abbrev pub or_null : Option Value → Value
or_null None = value.Null
or_null (Some v) = v

-- the value that a name of a `use` list captures: that of its expression, or its own
abbrev pub or_named : Place → List ℕ → Option Value → State → Outcome Value
or_named l n None s = name_value l n s
or_named l n (Some v) s = gives v s

-- what an operator gives once its left operand is evaluated
abbrev pub right_with : Parts → Place → BinOp → Value → Expression → State → Outcome Value
right_with ev l bin.And x b s = if holds s x then ev.value b s else gives x s
right_with ev l bin.Or x b s = if holds s x then gives x s else ev.value b s
right_with ev l o x b s = ev.value b s >>= λ y s1. operated l o x y s1

-- a value names what is there, if there is one
abbrev pub MaybeNamed : Contents → Option Value → Type 0
MaybeNamed c None = Unit {0}
MaybeNamed c (Some v) = Named c v

-- the key of a step
abbrev pub key_with : Parts → OneStep → State → Outcome Value
key_with ev (to_member n) s = gives (value.Str n) s
key_with ev (to_index e) s = ev.value e s
