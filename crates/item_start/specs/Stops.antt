-- Why a value has no tree, as the end of an evaluation.
use Rattle.std.specs.Prelude.{◌≡◌, []}
use Rattle.site_base.specs.declared.place.Place.{Place}
use Rattle.dsl_value.specs.declared.tree_fault.TreeFault.{TreeFault}
use Rattle.dsl_value.specs.declared.tree_fault.TreeFault.TheVariants as tree_fault
use Rattle.eval_work.specs.Works.{IsFault}
use Rattle.eval_work.specs.declared.stop.Stop.{Stop}
use Rattle.eval_work.specs.declared.stop.Stop.TheVariants as stops
use Rattle.commit_meaning.specs.Starts.{tree_kind}

-- a fault at a place, unless memory ran out
abbrev pub IsTreeStop : Stop → Place → TreeFault → Type 0
IsTreeStop s l tree_fault.OutOfMemory = s ≡ stops.Memory
IsTreeStop s l e = IsFault s l (tree_kind e) []
