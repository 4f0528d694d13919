-- What a `for` goes over.
use Rattle.std.specs.Prelude.{ℕ, List, [], ◌∷◌, map, Option, Some, None}
use Rattle.site_base.specs.declared.place.Place.{Place}
use Rattle.site_base.specs.declared.diag_kind.DiagKind.TheVariants.{WrongType}
use Rattle.dsl_syntax.specs.Syntax.{Statements}
use Rattle.dsl_value.specs.Contents.{PlainCell, array, dict, cell_at}
use Rattle.dsl_value.specs.declared.value.Value.{Value}
use Rattle.dsl_value.specs.declared.value.Value.TheVariants as value
use Rattle.eval_meaning.specs.States.{State, Outcome, gives, ◌>>=◌, fault}
use Rattle.eval_meaning.specs.Parts.{Parts}
use Rattle.eval_meaning.specs.Frames.{set_local}
use Rattle.eval_meaning.specs.Flow.{block_with, loop_end, around}
use Rattle.eval_meaning.specs.declared.flow.Flow.{Flow}
use Rattle.eval_meaning.specs.declared.flow.Flow.TheVariants.{On}
use Rattle.eval_steps.specs.declared.loops.Turn.{Turn}

-- one turn over an array has an element, and one over a dictionary a key and its value
abbrev pub element_turn : Value → Turn
element_turn v = record { first = v; second = None }

abbrev pub pair_turn : List ℕ × Value → Turn
pair_turn p = record { first = value.Str p.0; second = Some p.1 }

-- the names of the loop are given what a turn has for them
abbrev pub second_set : Option (List ℕ) → Option Value → State → State
second_set (Some n) (Some v) s = set_local n v s
second_set n v s = s

abbrev pub turn_set : List ℕ → Option (List ℕ) → Turn → State → State
turn_set k n t s = second_set n t.second (set_local k t.first s)

-- what a loop of these names goes over
abbrev pub turns_of_cell : Place → Option (List ℕ) → PlainCell → State → Outcome (List Turn)
turns_of_cell l None (array vs) s = gives (map element_turn vs) s
turns_of_cell l (Some n) (dict ps) s = gives (map pair_turn ps) s
turns_of_cell l n c s = fault l WrongType s

abbrev pub turns_of : Place → Option (List ℕ) → Value → State → Outcome (List Turn)
turns_of l n (value.Ref c) s = turns_of_cell l n (cell_at s.cells c) s
turns_of l n v s = fault l WrongType s

-- turns, one after another
abbrev pub for_turns : Parts → List ℕ → Option (List ℕ) → Statements → List Turn → State → Outcome Flow
for_turns ev k n b [] s = gives On s
for_turns ev k n b (t ∷ ts) s = block_with ev b (turn_set k n t s) >>= λ f s1. around (loop_end f) (for_turns ev k n b ts) s1
