-- The order of arguments: by their `order`, and then as they stand in the dictionary, by the bytes of their keys.
use Rattle.std.specs.Prelude.{ℕ, ℤ, pos, int_lt, List, [], ◌∷◌, Option, Some, None, codes, if◌then◌else◌}
use Rattle.site_base.specs.Data.{Data, null, boolean, number, string, list, dict, Pairs, no_pairs, pair}
use Rattle.command_macros.specs.Lookups.{pairs_in, value_at}

-- what is no number is 0
abbrev pub order_in : Option Data → ℤ
order_in None = pos 0
order_in (Some null) = pos 0
order_in (Some (boolean b)) = pos 0
order_in (Some (number n)) = n
order_in (Some (string t)) = pos 0
order_in (Some (list ds)) = pos 0
order_in (Some (dict ps)) = pos 0

-- the order that an argument sets
abbrev pub order_of : Data → ℤ
order_of d = order_in (value_at (codes "order") (pairs_in d))

-- a key and its argument, behind those whose order isn't above its own
abbrev pub put : List ℕ → Data → List (List ℕ × Data) → List (List ℕ × Data)
put key d [] = (key, d) ∷ []
put key d (a ∷ more) = if int_lt (order_of d) (order_of a.1) then (key, d) ∷ a ∷ more else a ∷ put key d more

-- put in one after another, as they stand
abbrev pub put_all : Pairs → List (List ℕ × Data) → List (List ℕ × Data)
put_all no_pairs sorted = sorted
put_all (pair key d ps) sorted = put_all ps (put key d sorted)

abbrev pub in_order : Pairs → List (List ℕ × Data)
in_order ps = put_all ps []
