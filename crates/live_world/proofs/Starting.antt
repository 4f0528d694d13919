-- The first of some orders, which were started before one could not be.
use Rattle.std.proofs.Common.{◌≡◌, ℕ, List, ◌++◌, take, drop, sym, ◌∙◌}
use Rattle.std.proofs.lemmas.List.{take-append-drop}
use Rattle.site_edge.specs.declared.order.Order.{Order}
use Rattle.live_world.specs.Turns.{ordered, StartsPart}

pub starts_part : (orders : List Order) (old before new : List ℕ) (n : ℕ) → new ≡ before → before ≡ old ++ ordered (take n orders) → StartsPart orders old new
starts_part orders old before new n same is = (take n orders, drop n orders, sym (take-append-drop n orders), same ∙ is)
