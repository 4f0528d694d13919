-- What a view has to be so that evaluations begin over it, and what a work is while they go on.
use Rattle.std.specs.Prelude.{◌≡◌}
use Rattle.eval_meaning.specs.Load.{most_open}
use Rattle.eval_work.specs.Kept.{HasGlobals, IsFit, IsTold}
use Rattle.eval_work.specs.declared.view.WorldView.{WorldView}
use Rattle.eval_work.specs.declared.work.Work.{Work}

-- The globals are a dictionary in the first cell of the view's store, and what its templates captured names cells and functions of this store.
pub record IsLawfulView (v : WorldView) : Type 0 where
  pub globals : HasGlobals v.store.now
  pub told : IsTold v v.store.now

-- A work on which an expression or a body is evaluated over a view, with as many open nodes as an item may have.
pub record IsReady (v : WorldView) (w : Work) : Type 0 where
  pub fit : IsFit w
  pub told : IsTold v w.store
  pub depth : w.depth ≡ most_open
