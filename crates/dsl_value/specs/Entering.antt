-- The arrays and dictionaries that a walk is inside of.
use Rattle.std.specs.Prelude.{ℕ, List, map}
use Rattle.site_base.specs.Data.{Data}
use Rattle.site_base.specs.View.{view, pair_view}
use Rattle.dsl_value.specs.declared.frame.Frame.{Frame}
use Rattle.dsl_value.specs.declared.frame.Frame.TheVariants as frames

-- a cell that the walk is inside of, and the trees of the elements or pairs that it has passed
pub data Entered : Type 0 where
  in_array : ℕ → List Data → Entered
  in_dict : ℕ → List (List ℕ × Data) → Entered

abbrev pub frame : Frame → Entered
frame (frames.Array k v) = in_array k (map view v.items)
frame (frames.Dict k v) = in_dict k (map pair_view v.items)

abbrev pub cell_of : Entered → ℕ
cell_of (in_array k made) = k
cell_of (in_dict k made) = k
