-- Frames, and the names in them.
use Rattle.std.specs.Prelude.{ℕ, List, [], Bool, Option, Some, None}
use Rattle.site_base.specs.Quoted.{quoted}
use Rattle.site_base.specs.declared.place.Place.{Place}
use Rattle.site_base.specs.declared.diag_kind.DiagKind.TheVariants.{Undefined, NotHere}
use Rattle.dsl_value.specs.Pairs.{Pairs, find, put, or_found, dict_of}
use Rattle.dsl_value.specs.Contents.{PlainCell, cell_at, pairs_of}
use Rattle.dsl_value.specs.declared.value.Value.{Value}
use Rattle.dsl_value.specs.declared.value.Value.TheVariants as value
use Rattle.eval_meaning.specs.States.{State, Outcome, gives, faults, ◌>>=◌, fault, globals}
use Rattle.eval_meaning.specs.declared.flow.Flow.{Flow}
use Rattle.eval_meaning.specs.declared.flow.Flow.TheVariants.{On, Returned, Broken, Continued}

-- A frame is that of a file, of a body, of an imported template's body, or of a call. Blocks have none.

-- what a frame's locals begin with: captured names, and then others, of which one replaces a captured one of its name, and a later one an
-- earlier one
abbrev pub first_locals : Pairs → Pairs → Pairs
first_locals captured others = dict_of others (dict_of captured [])

-- a local of the frame is given a value
abbrev pub set_local : List ℕ → Value → State → State
set_local n v s = record s { locals = put n v s.locals }

-- a name in a dictionary; another value has none
abbrev pub name_in : List PlainCell → List ℕ → Value → Option Value
name_in cells n (value.Ref k) = find n (pairs_of (cell_at cells k))
name_in cells n v = None

-- a name is looked up in the frame's locals, then in `this`, and then in the globals
unfoldable pub named : List ℕ → State → Option Value
named n s = or_found (find n s.locals) (or_found (name_in s.cells n s.this) (find n (globals s)))

abbrev pub or_undefined : Place → List ℕ → State → Option Value → Outcome Value
or_undefined l n s (Some v) = gives v s
or_undefined l n s None = faults l Undefined (quoted n) s.reads

-- the value of a name
abbrev pub name_value : Place → List ℕ → State → Outcome Value
name_value l n s = or_undefined l n s (named n s)

-- what a frame ends with: the value that is returned, and null at its end. A `break` or `continue` that no loop of the frame took has no
-- place there
abbrev pub ended : Flow → State → Outcome Value
ended On s = gives value.Null s
ended (Returned v) s = gives v s
ended (Broken l) s = fault l NotHere s
ended (Continued l) s = fault l NotHere s

-- a frame is entered
abbrev pub entered : Value → Pairs → Bool → State → State
entered this locals in_file s = record s { this = this; locals = locals; in_file = in_file }

-- and it is left for the one that was there before
abbrev pub back_in : State → State → State
back_in before s = record s { this = before.this; locals = before.locals; in_file = before.in_file }

-- something is run in a frame of its own, which has this `this`, these locals, and maybe is a file's
abbrev pub in_frame : Value → Pairs → Bool → (State → Outcome Flow) → State → Outcome Value
in_frame this locals in_file run s =
    run (entered this locals in_file s) >>= λ f s1. (ended f s1 >>= λ v s2. gives v (back_in s s2))
