-- How nodes are evaluated over a view.
use Rattle.std.specs.Prelude.{ℕ}
use Rattle.eval_meaning.specs.Parts.{Parts}
use Rattle.eval_meaning.specs.Evaluation.{evaluated}
use Rattle.eval_work.specs.Works.{view_of}
use Rattle.eval_work.specs.declared.view.WorldView.{WorldView}

-- how nodes are evaluated over a view where so many of them may still be open
abbrev pub parts : WorldView → ℕ → Parts
parts v d = evaluated (view_of v) d
