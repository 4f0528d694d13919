-- Statements: blocks, choices, loops, and what ends them.
use Rattle.std.specs.Prelude.{ℕ, zero, suc, List, [], ◌∷◌, Bool, true, false, Option, Some, None, if◌then◌else◌}
use Rattle.site_base.specs.Quoted.{quoted}
use Rattle.site_base.specs.declared.place.Place.{Place}
use Rattle.site_base.specs.declared.diag_kind.DiagKind.TheVariants.{WrongType, Thrown, StepLimit}
use Rattle.dsl_syntax.specs.Syntax.{Expression, MaybeExpression, Loop, loop, Arms, no_arms, more_arms, Statement, statement, StatementKind, assign, ignore, Statements, no_statements, more_statements}
use Rattle.dsl_value.specs.Pairs.{Pairs}
use Rattle.dsl_value.specs.Contents.{PlainCell, array, dict, cell_at}
use Rattle.dsl_value.specs.declared.value.Value.{Value}
use Rattle.dsl_value.specs.declared.value.Value.TheVariants as value
use Rattle.eval_meaning.specs.States.{State, Outcome, gives, faults, ◌>>=◌, fault}
use Rattle.eval_meaning.specs.Parts.{Parts, place_of, maybe_with}
use Rattle.eval_meaning.specs.Operators.{holds}
use Rattle.eval_meaning.specs.Frames.{set_local}
use Rattle.eval_meaning.specs.declared.flow.Flow.{Flow}
use Rattle.eval_meaning.specs.declared.flow.Flow.TheVariants.{On, Returned, Broken, Continued}

-- what follows a statement is run if it goes on
abbrev pub onward : Flow → (State → Outcome Flow) → State → Outcome Flow
onward On next s = next s
onward f next s = gives f s

-- an `assign` or an `ignore` is no node: it is passed over
abbrev pub is_passed : StatementKind → Bool
is_passed (assign e) = true
is_passed (ignore e) = true
is_passed k = false

abbrev pub statement_with : Parts → Statement → State → Outcome Flow
statement_with ev (statement l k) s = if is_passed k then gives On s else ev.flow (statement l k) s

-- statements, one after another
abbrev pub block_with : Parts → Statements → State → Outcome Flow
block_with ev no_statements s = gives On s
block_with ev (more_statements x xs) s = statement_with ev x s >>= λ f s1. onward f (block_with ev xs) s1

-- whether the value of an expression counts as true
abbrev pub truth_with : Parts → Expression → State → Outcome Bool
truth_with ev e s = ev.value e s >>= λ v s1. gives (holds s1 v) s1

-- the block of the first condition that holds, else the last one
abbrev pub arms_with : Parts → Arms → Statements → State → Outcome Flow
arms_with ev no_arms other s = block_with ev other s
arms_with ev (more_arms e b more) other s = truth_with ev e s >>= λ t s1. (if t then block_with ev b s1 else arms_with ev more other s1)

-- how a loop ends after its block, if it does
abbrev pub loop_end : Flow → Option Flow
loop_end On = None
loop_end (Continued l) = None
loop_end (Broken l) = Some On
loop_end (Returned v) = Some (Returned v)

-- a loop ends, or goes on
abbrev pub around : Option Flow → (State → Outcome Flow) → State → Outcome Flow
around None next s = next s
around (Some f) next s = gives f s

-- one turn of a `while`: how it ends, if it does
abbrev pub turn_with : Parts → Expression → Statements → State → Outcome (Option Flow)
turn_with ev e b s = truth_with ev e s >>= λ t s1. (if t then (block_with ev b s1 >>= λ f s2. gives (loop_end f) s2) else gives (Some On) s1)

-- So many turns of a `while`. The condition of each takes a step, so none of the steps that are left when it begins is there after as many turns,
-- and the next condition is one too many.
abbrev pub turns_with : Parts → Expression → Statements → ℕ → State → Outcome Flow
turns_with ev e b zero s = fault (place_of e) StepLimit s
turns_with ev e b (suc n) s = turn_with ev e b s >>= λ o s1. around o (turns_with ev e b n) s1

abbrev pub while_with : Parts → Expression → Statements → State → Outcome Flow
while_with ev e b s = turns_with ev e b s.steps s

-- the first turn and, where the loop goes on, the `while` after it
abbrev pub unrolled : Parts → Expression → Statements → State → Outcome Flow
unrolled ev e b s = turn_with ev e b s >>= λ o s1. around o (while_with ev e b) s1

-- the elements of an array, one after another as a local
abbrev pub for_values : Parts → List ℕ → Statements → List Value → State → Outcome Flow
for_values ev n b [] s = gives On s
for_values ev n b (v ∷ vs) s = block_with ev b (set_local n v s) >>= λ f s1. around (loop_end f) (for_values ev n b vs) s1

-- the pairs of a dictionary, one after another as two locals
abbrev pub for_pairs : Parts → List ℕ → List ℕ → Statements → Pairs → State → Outcome Flow
for_pairs ev k n b [] s = gives On s
for_pairs ev k n b (p ∷ ps) s = block_with ev b (set_local n p.1 (set_local k (value.Str p.0) s)) >>= λ f s1. around (loop_end f) (for_pairs ev k n b ps) s1

-- one name takes an array, and two take a dictionary
abbrev pub for_cell : Parts → Place → List ℕ → Option (List ℕ) → Statements → PlainCell → State → Outcome Flow
for_cell ev l k None b (array vs) s = for_values ev k b vs s
for_cell ev l k (Some n) b (dict ps) s = for_pairs ev k n b ps s
for_cell ev l k o b c s = fault l WrongType s

abbrev pub for_each : Parts → Place → List ℕ → Option (List ℕ) → Statements → Value → State → Outcome Flow
for_each ev l k o b (value.Ref c) s = for_cell ev l k o b (cell_at s.cells c) s
for_each ev l k o b v s = fault l WrongType s

-- what stands there when the loop begins is gone over; another value is a fault at the expression
abbrev pub for_with : Parts → Loop → Statements → State → Outcome Flow
for_with ev (loop k o e) b s = ev.value e s >>= λ v s1. for_each ev (place_of e) k o b v s1

abbrev pub return_with : Parts → MaybeExpression → State → Outcome Flow
return_with ev o s = maybe_with ev o s >>= λ v s1. gives (Returned v) s1

abbrev pub var_with : Parts → List ℕ → MaybeExpression → State → Outcome Flow
var_with ev n o s = maybe_with ev o s >>= λ v s1. gives On (set_local n v s1)

-- a string is thrown
abbrev pub thrown : Place → Value → State → Outcome Flow
thrown l (value.Str t) s = faults l Thrown (quoted t) s.reads
thrown l v s = fault l WrongType s

abbrev pub throw_with : Parts → Place → Expression → State → Outcome Flow
throw_with ev l e s = ev.value e s >>= λ v s1. thrown l v s1

abbrev pub eval_with : Parts → Expression → State → Outcome Flow
eval_with ev e s = ev.value e s >>= λ v s1. gives On s1
