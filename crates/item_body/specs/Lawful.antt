-- What an item has to be so that it is run over a view.
use Rattle.std.specs.Prelude.{◌≡◌, []}
use Rattle.dsl_value.specs.Contents.{Contents, with_cells}
use Rattle.eval_work.specs.Kept.{HasGlobals, IsLater, PairsNamed}
use Rattle.eval_work.specs.declared.item.Item.{Item}
use Rattle.eval_work.specs.declared.view.WorldView.{WorldView}
use Rattle.commit_meaning.specs.Starts.{Trees}
use Rattle.item_start.specs.Bound.{bound_in}
use Rattle.item_start.specs.Ready.{IsLawfulView}
use Rattle.item_body.specs.declared.body.BoundNames.{BoundNames}

-- the view is lawful, and what the item captured names cells and functions of the view's store
pub record IsRunnable (v : WorldView) (i : Item) : Type 0 where
  pub view : IsLawfulView v
  pub captured : PairsNamed v.store.now i.captured.items

-- names that are bound behind the cells of a store
pub record AreUsable (s : Contents) (b : BoundNames) : Type 0 where
  pub named : PairsNamed b.store b.names.items
  pub globals : HasGlobals b.store
  pub later : IsLater s b.store

-- each of these names is bound to the value that is made of its tree behind the cells of a store
pub record AreBound (s : Contents) (ns : Trees) (b : BoundNames) : Type 0 where
  pub store : b.store ≡ with_cells s (bound_in ns [] s.cells).cells
  pub pairs : b.names.items ≡ (bound_in ns [] s.cells).pairs
