-- What holds inside of every wheel.
use Rattle.std.specs.Prelude.{◌≡◌, ℕ, List}
use Rattle.wheel_links.specs.declared.links.Link.{Link}
use Rattle.wheel_links.specs.Members.{Members, member_count}
use Rattle.wheel_links.specs.Rings.{AreSlots}

pub record IsWheel (slots : ℕ) (members : Members) (links : List Link) (count : ℕ) : Type 0 where
  pub slotted : AreSlots slots members links
  pub counted : count ≡ member_count members
