-- The values that what is called, visited and gone over names.
use Rattle.std.specs.Prelude.{List, [], ◌∷◌}
use Rattle.dsl_value.specs.Contents.{Contents}
use Rattle.eval_work.specs.Kept.{Named, NamedAll}
use Rattle.eval_steps.specs.Values.{MaybeNamed}
use Rattle.eval_steps.specs.declared.calls.Called.{Called}
use Rattle.eval_steps.specs.declared.calls.Called.TheVariants as called
use Rattle.eval_steps.specs.declared.loops.Turn.{Turn}
use Rattle.eval_steps.specs.declared.visits.Visited.{Visited}

abbrev pub CalledNamed : Contents → Called → Type 0
CalledNamed c (called.Value v this) = Named c v × Named c this
CalledNamed c (called.Library f) = Unit {0}

pub record IsVisitedNamed (c : Contents) (v : Visited) : Type 0 where
  pub func : Named c v.func
  pub items : NamedAll c v.items.items

pub record IsTurnNamed (c : Contents) (t : Turn) : Type 0 where
  pub first : Named c t.first
  pub second : MaybeNamed c t.second

abbrev pub TurnsNamed : Contents → List Turn → Type 0
TurnsNamed c [] = Unit {0}
TurnsNamed c (t ∷ ts) = IsTurnNamed c t × TurnsNamed c ts
