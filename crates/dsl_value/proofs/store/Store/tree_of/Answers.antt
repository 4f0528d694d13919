use Rattle.site_base.specs.View.{view}
use Rattle.std.proofs.Common.{◌≡◌, Result, Ok, Err, IfOk}
use Rattle.site_base.specs.Data.{Data}
use Rattle.site_base.specs.declared.tree.Tree.{Tree}
use Rattle.dsl_value.specs.Loads.{Fits}
use Rattle.dsl_value.specs.Walks.{Gives}
use Rattle.dsl_value.specs.declared.tree_fault.TreeFault.{TreeFault}
use Rattle.dsl_value.proofs.Fitting.{store_fits}
use Rattle.dsl_value.proofs.store.Store.tree_of.Goals as goal

each_fits : (r : Result Tree TreeFault) (w : Result Data TreeFault) → ((d : Data) → w ≡ Ok d → Fits d) → Gives view r w → IfOk r (λ t. Fits (view t))
each_fits (Ok t) w fits h = fits (view t) h
each_fits (Err e) w fits h = tt

pub returns-clause-fits : goal.returns-clause-fits
returns-clause-fits c = each_fits c.walk_value.result _ (store_fits c.self.inside.frozen c.self.inside.live c.self.inside.base c.self.invariant c.args.self.now c.self.view_is c.args.value.now) c.walk_value.ensures
