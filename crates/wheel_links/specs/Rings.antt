-- The rings: one for each slot, through the slot's head and the cells of the slot's members.
-- The cells below the number of slots are the heads, and an id's cell stands that much further on.
use Rattle.std.specs.Prelude.{◌≡◌, ℕ, ◌+◌, ◌-◌, ◌%◌, ◌^◌, ◌<◌, ◌≤◌, nat_lt, List, Option, Some, length, if◌then◌else◌}
use Rattle.std.specs.Option.{option_map}
use Rattle.wheel_links.specs.declared.links.Link.{Link}
use Rattle.wheel_links.specs.Links.{after_at, before_at}
use Rattle.wheel_links.specs.Members.{Members, capacity_of, moment_of}

-- the slot whose ring the cell stands in: a head's own, and that of a member's moment
unfoldable pub slot_of : ℕ → Members → ℕ → Option ℕ
slot_of slots members cell =
    if nat_lt cell slots then Some cell else option_map (λ moment. moment % slots) (moment_of members (cell - slots))

-- each cell that stands in a ring has its neighbours in the same ring, and they have it as theirs;
-- along a ring, from its head on, a rank rises, so each ring is one circle
pub record AreRings (slots : ℕ) (slot : ℕ → Option ℕ) (after before : ℕ → ℕ) : Type 0 where
  pub rank : ℕ → ℕ
  pub after_in : (cell s : ℕ) → slot cell ≡ Some s → slot (after cell) ≡ Some s
  pub before_in : (cell s : ℕ) → slot cell ≡ Some s → slot (before cell) ≡ Some s
  pub back : (cell s : ℕ) → slot cell ≡ Some s → before (after cell) ≡ cell
  pub forth : (cell s : ℕ) → slot cell ≡ Some s → after (before cell) ≡ cell
  pub rises : (cell s : ℕ) → slot cell ≡ Some s → slots ≤ cell → rank (before cell) < rank cell

abbrev pub HasRings : ℕ → Members → List Link → Type 0
HasRings slots members links = AreRings slots (slot_of slots members) (after_at links) (before_at links)

-- each member stands in the ring of its moment's slot, and no other id in any
pub record AreSlots (slots : ℕ) (members : Members) (links : List Link) : Type 0 where
  pub some_slots : 0 < slots
  pub few_slots : slots < 2 ^ 32
  pub few_ids : capacity_of members < 2 ^ 32 - 1
  pub cells : length links ≡ slots + capacity_of members
  pub rings : HasRings slots members links
