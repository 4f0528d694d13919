-- The globals that a site takes.
use Rattle.std.specs.Prelude.{ℕ, List, codes, Option, Some, None, option_map, Result, Ok, Err}
use Rattle.site_base.specs.Data.{Data, null}
use Rattle.dsl_value.specs.Contents.{PlainCell}
use Rattle.dsl_value.specs.Walks.{tree_walked}
use Rattle.dsl_value.specs.declared.tree_fault.TreeFault.{TreeFault}
use Rattle.dsl_value.specs.declared.value.Value.{Value}
use Rattle.dsl_value.specs.declared.value.Value.TheVariants as value
use Rattle.eval_meaning.specs.Frames.{name_in}
use Rattle.site_phases.specs.Constants.{PlainGlobals}

abbrev pub tree_or : Result Data TreeFault → Data
tree_or (Ok d) = d
tree_or (Err e) = null

-- the tree of a value; null if it has none
abbrev pub tree_or_null : List PlainCell → Value → Data
tree_or_null cells v = tree_or (tree_walked cells v)

-- the tree of a global, if it is set
abbrev pub global_tree : List PlainCell → List ℕ → Option Data
global_tree cells name = option_map (tree_or_null cells) (name_in cells name (value.Ref 0))

abbrev pub or_null : Option Data → Data
or_null None = null
or_null (Some d) = d

abbrev pub globals_of : List PlainCell → Option (List ℕ) → PlainGlobals
globals_of cells zone = record {
  max_checks = global_tree cells (codes "MaxConcurrentChecks");
  site_zone = global_tree cells (codes "SiteZone");
  zone_file = zone;
  vars = or_null (global_tree cells (codes "Vars"));
}
