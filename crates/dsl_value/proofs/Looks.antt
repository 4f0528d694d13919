-- A walk over the elements of one cell, once each is counted and looked at.
use Rattle.std.proofs.Common.{◌≡◌, ℕ, ◌+◌, ◌-◌, ◌<◌, ◌≤◌, List, ◌∷◌, length, map, Some, Err, sym, ap, subst, ◌∙◌}
use Rattle.site_base.specs.Data.{Data}
use Rattle.dsl_value.specs.Contents.{PlainCell, cell_at}
use Rattle.dsl_value.specs.Walks.{most, Walk, walked, stopped, Walker, value_walked, walk, outcome, Stops}
use Rattle.dsl_value.specs.Paths.{next_value, key_bytes, with_child, inside_walk, from_here, going_with}
use Rattle.dsl_value.specs.Entering.{Entered, cell_of}
use Rattle.dsl_value.specs.declared.value.Value.{Value}
use Rattle.dsl_value.specs.declared.tree_fault.TreeFault.{TreeFault}
use Rattle.dsl_value.specs.declared.tree_fault.TreeFault.TheVariants.{Cyclic, HasFunction, TooLarge, OutOfMemory}
use Rattle.dsl_value.proofs.Steps.{element_within, level, stays_stopped}

is_stopped : (w : Walk Data) (e : TreeFault) → outcome w ≡ Err e → w ≡ stopped e
is_stopped (walked d c) e s = absurd cc
is_stopped (stopped x) e s = let same : x ≡ e = cc in ap stopped same

ends : (cells : List PlainCell) (below : List Entered) (e : TreeFault) (w : Walk Data) → outcome w ≡ Err e → outcome (going_with cells below w) ≡ Err e
ends cells below e w s = ap outcome (ap (going_with cells below) (is_stopped w e s) ∙ stays_stopped cells below e)

-- a walk that stops at an element stops
pub stops_through : (cells : List PlainCell) (below : List Entered) (e : TreeFault) (w : Walk Data) → Stops e (outcome w) → Stops e (outcome (going_with cells below w))
stops_through cells below (Cyclic k) w s = ends cells below (Cyclic k) w s
stops_through cells below HasFunction w s = ends cells below HasFunction w s
stops_through cells below TooLarge w s = ends cells below TooLarge w s
stops_through cells below OutOfMemory w s = tt

module _ (cells : List PlainCell) (below : List Entered) (f : Entered) (few : length below < most) (v : Value) (c counted : ℕ)
    (next : next_value (cell_at cells (cell_of f)) f ≡ Some v) (is : counted ≡ c + (1 + key_bytes (cell_at cells (cell_of f)) f)) (within : counted ≤ most) where
  -- the element that comes next is looked at
  pub at_element : going_with cells (f ∷ below) (inside_walk cells below f v counted) ≡ going_with cells below (from_here cells below f c)
  at_element =
      ap (λ n. going_with cells (f ∷ below) (inside_walk cells below f v n)) is
      ∙ sym (ap (going_with cells below) (element_within cells below f v c next (subst (λ n. n ≤ most) is within)))

  -- it is a leaf, and passed
  pub leaf_passed : (d : Data) (cost : ℕ) (new : Entered) → ((inside : List ℕ → Walker) (all : List PlainCell) (open_cells : List ℕ) → value_walked inside all open_cells v counted ≡ walked d cost)
      → new ≡ with_child (cell_at cells (cell_of f)) f d → going_with cells below (from_here cells below new cost) ≡ going_with cells below (from_here cells below f c)
  leaf_passed d cost new leaf added =
      ap (λ g. going_with cells below (from_here cells below g cost)) added
      ∙ ap (going_with cells (f ∷ below)) (sym (level cells below f few v counted ∙ leaf (walk (most - length below - 1) cells) cells (cell_of f ∷ map cell_of below)))
      ∙ at_element

  -- the walk stops at it
  pub stops_at : (e : TreeFault) → ((inside : List ℕ → Walker) (all : List PlainCell) (open_cells : List ℕ) → Stops e (outcome (value_walked inside all open_cells v counted)))
      → Stops e (outcome (going_with cells below (from_here cells below f c)))
  stops_at e stops =
      subst (λ w. Stops e (outcome w)) (ap (going_with cells (f ∷ below)) (sym (level cells below f few v counted)) ∙ at_element)
      (stops_through cells (f ∷ below) e _ (stops (walk (most - length below - 1) cells) cells (cell_of f ∷ map cell_of below)))
