-- The plain values that the code's own stand for.
use Rattle.std.specs.Prelude.{ℕ, ◌≡◌, map, Option, Some, None, ⊤}
use Rattle.dsl_syntax.specs.SyntaxView.{file_view}
use Rattle.site_conf.specs.Walks.{WalkState, Entered, follows, stays, WalkOutcome, site, faults}
use Rattle.site_conf.specs.declared.progress.Progress.{Progress}
use Rattle.site_conf.specs.declared.walk_answer.WalkAnswer.{WalkAnswer}
use Rattle.site_conf.specs.declared.walk_answer.WalkAnswer.TheVariants as answer

abbrev pub state_view : Progress → WalkState
state_view p = record {
  sources = p.sources;
  names = p.names;
  library = p.library.items;
  holdings = p.holdings.items;
  trees = map file_view p.trees.items;
  inclusions = map (λ v. v.items) p.inclusions.items;
  order = p.order.items;
  diags = p.diags.items;
  count = p.count;
  ended = p.ended;
}

-- the file that is to be followed, in this state
abbrev pub IsEntered : Entered → WalkState → Option ℕ → Type 0
IsEntered e s None = e ≡ stays s
IsEntered e s (Some index) = e ≡ follows index s

-- the files of the library are told as such
abbrev pub TellsLibrary : WalkState → WalkAnswer → Type 0
TellsLibrary s (answer.Walked w) = w.library.items ≡ s.library
TellsLibrary s (answer.Diags files list) = ⊤

abbrev pub answer_view : WalkAnswer → WalkOutcome
answer_view (answer.Walked w) = site w.names (map file_view w.trees.items) w.order.items
answer_view (answer.Diags files list) = faults files list.items
