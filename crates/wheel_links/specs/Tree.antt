-- The tree of least moments over the ids. Node 1 is the root, the nodes below node n are 2 n and 2 n + 1,
-- and the leaves come after the inner nodes, one for each id in their order.
use Rattle.std.specs.Prelude.{◌≡◌, ◌≢◌, ℕ, ◌+◌, ◌-◌, ◌*◌, ◌^◌, ◌<◌, ◌≤◌, nat_lt, List, Option, Some, None, min, length, slice_index_or, if◌then◌else◌}
use Rattle.wheel_links.specs.Members.{Members, capacity_of, moment_of}

-- the lesser of two moments, if there are such
abbrev pub lesser : Option ℕ → Option ℕ → Option ℕ
lesser (Some a) (Some b) = Some (min a b)
lesser (Some a) None = Some a
lesser None b = b

-- the moment of a node: its own if it is an inner one, and else that of its leaf's id
unfoldable pub node_of : List (Option ℕ) → Members → ℕ → Option ℕ
node_of inner members node =
    if nat_lt node (length inner) then slice_index_or inner node None else moment_of members (node - length inner)

-- an inner node holds the lesser moment of the two nodes below it
abbrev pub Fits : List (Option ℕ) → Members → ℕ → Type 0
Fits inner members node = node_of inner members node ≡ lesser (node_of inner members (2 * node)) (node_of inner members (2 * node + 1))

-- so do all inner nodes but one
abbrev pub FitsBut : ℕ → List (Option ℕ) → Members → Type 0
FitsBut but inner members = (node : ℕ) → 0 < node → node < length inner → node ≢ but → Fits inner members node

pub record IsTree (depth : ℕ) (inner : List (Option ℕ)) (members : Members) : Type 0 where
  pub few : depth ≤ 32
  pub inner_count : length inner ≡ 2 ^ depth
  pub leaf_each : capacity_of members ≤ length inner
  pub fits : FitsBut 0 inner members
