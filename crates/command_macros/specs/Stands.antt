-- Arguments as a dictionary lists them, and those of one order among them.
use Rattle.std.specs.Prelude.{◌&&◌, ℤ, ℕ, Bool, not, int_lt, List, [], ◌∷◌, filter}
use Rattle.site_base.specs.Data.{Data, Pairs, no_pairs, pair}
use Rattle.command_macros.specs.Orders.{order_of}

-- each with its key, by rising keys
abbrev pub listed : Pairs → List (List ℕ × Data)
listed no_pairs = []
listed (pair key d ps) = (key, d) ∷ listed ps

abbrev pub has_order : ℤ → List ℕ × Data → Bool
has_order n a = not (int_lt (order_of a.1) n) && not (int_lt n (order_of a.1))

-- those that set this order
abbrev pub of_order : ℤ → List (List ℕ × Data) → List (List ℕ × Data)
of_order n arguments = filter (has_order n) arguments
