-- The plain value of a tree: what clauses speak of in place of a `Tree`.
use Rattle.std.specs.Prelude.{ℕ, ℤ, List, Bool}

mutual
  pub data Data : Type 0 where
    null : Data
    boolean : Bool → Data
    number : ℤ → Data
    string : List ℕ → Data
    list : Items → Data
    dict : Pairs → Data

  pub data Items : Type 0 where
    no_items : Items
    item : Data → Items → Items

  pub data Pairs : Type 0 where
    no_pairs : Pairs
    pair : List ℕ → Data → Pairs → Pairs
