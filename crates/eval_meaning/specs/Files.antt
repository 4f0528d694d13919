-- Files that are included at a load, by the order of its walk (`Orders` of walk_order).
use Rattle.std.specs.Prelude.{ℕ, zero, suc, List, [], ◌∷◌, take, drop, slice_get, true, Option, Some, None}
use Rattle.site_base.specs.declared.place.Place.{Place}
use Rattle.dsl_value.specs.declared.value.Value.{Value}
use Rattle.dsl_value.specs.declared.value.Value.TheVariants as value
use Rattle.eval_meaning.specs.Registered.{PlainFile}
use Rattle.eval_meaning.specs.Views.{View}
use Rattle.eval_meaning.specs.States.{State, Outcome, gives, ◌>>=◌, globals_cell}
use Rattle.eval_meaning.specs.Parts.{Parts}
use Rattle.eval_meaning.specs.Frames.{in_frame}
use Rattle.eval_meaning.specs.Flow.{block_with}
use Rattle.eval_meaning.specs.Registration.{loading, with_loading, at_load}
use Rattle.eval_meaning.specs.declared.flow.Flow.{Flow}
use Rattle.eval_meaning.specs.declared.flow.Flow.TheVariants.{On}

abbrev pub with_order : List ℕ → State → State
with_order order s = with_loading (λ m. record m { order = order }) s

-- a file is run in a frame of its own, in which `this` is the globals
abbrev pub run_file : Parts → Option PlainFile → State → Outcome Value
run_file ev (Some f) s = in_frame (value.Ref globals_cell) [] true (block_with ev f.statements) s
run_file ev None s = gives value.Null s

-- The part of a file begins with its length. What the file leaves of it, after a `return`, is dropped.
abbrev pub file_with : View → Parts → List ℕ → State → Outcome Value
file_with view ev [] s = gives value.Null s
file_with view ev (k ∷ []) s = gives value.Null s
file_with view ev (k ∷ n ∷ order) s = run_file ev (slice_get view.files k) (with_order (take n order) s) >>= λ v s1. gives v (with_order (drop n order) s1)

-- so many files, one after another
abbrev pub files_with : View → Parts → ℕ → State → Outcome Flow
files_with view ev zero s = gives On s
files_with view ev (suc n) s = file_with view ev (loading s).order s >>= λ _ s1. files_with view ev n s1

-- an inclusion has the number of its files, and then these
abbrev pub include_by : View → Parts → List ℕ → State → Outcome Flow
include_by view ev [] s = gives On s
include_by view ev (n ∷ order) s = files_with view ev n (with_order order s)

abbrev pub include_with : View → Parts → Place → State → Outcome Flow
include_with view ev l s = at_load l s >>= λ _ s1. include_by view ev (loading s1).order s1
