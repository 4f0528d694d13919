-- An item's evaluation, in the parts in which it is run.
use Rattle.std.specs.Prelude.{List, [], ◌∷◌, ◌++◌}
use Rattle.site_base.specs.Data.{Data}
use Rattle.dsl_value.specs.Contents.{PlainCell, dict}
use Rattle.dsl_value.specs.Pairs.{dict_of}
use Rattle.dsl_value.specs.declared.value.Value.{Value}
use Rattle.eval_meaning.specs.Evaluation.{body_of}
use Rattle.eval_meaning.specs.Load.{most_open}
use Rattle.eval_meaning.specs.Registered.{PlainItem}
use Rattle.eval_meaning.specs.States.{State, Outcome, ◌>>=◌}
use Rattle.eval_meaning.specs.Views.{View}
use Rattle.commit_meaning.specs.Starts.{Trees, tree_at}
use Rattle.item_start.specs.Bound.{Bound}

-- the cells with a new dictionary of what was bound behind them
abbrev pub with_this : Bound → List PlainCell
with_this b = b.cells ++ dict (dict_of b.pairs []) ∷ []

-- what is left of an item's evaluation at the beginning of its body
abbrev pub body_left : View → PlainItem → Value → State → Outcome Data
body_left view i this s = body_of view most_open i.body s >>= λ _ s1. tree_at i.place this s1

-- an item in whose body these names are bound in place of its own
abbrev pub under_names : Trees → PlainItem → PlainItem
under_names ns i = record i { names = ns }
