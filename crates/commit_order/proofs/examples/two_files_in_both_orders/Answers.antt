use Rattle.std.proofs.Common.{[], refl}
use Rattle.commit_order.specs.Reordered.{swapped}
use Rattle.commit_order.proofs.Computing.{computing}
use Rattle.commit_order.proofs.Lists.{itself}
use Rattle.commit_order.proofs.examples.two_files_in_both_orders.Goals as goal

pub returns : goal.returns
unfolding computing
returns c = record { store = refl; templates = λ kind name. refl; items = swapped _ _ []; rules = itself _; groups = refl; no_group = (refl, tt) }
