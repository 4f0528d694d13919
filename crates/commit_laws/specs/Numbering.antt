-- How the items, objects and targets of a commit are numbered.
use Rattle.std.specs.Prelude.{◌≡◌, ◌<◌, ◌⊎◌, ℕ, true, AllPairs, Contains}
use Rattle.site_model.specs.PlainSite.{PlainObject}
use Rattle.eval_meaning.specs.Registered.{PlainItem, PlainRule}
use Rattle.eval_meaning.specs.Load.{Loaded}
use Rattle.commit_meaning.specs.CommittedOrder.{object_wave}
use Rattle.commit_meaning.specs.Names.{Target}
use Rattle.commit_meaning.specs.Orders.{is_behind}
use Rattle.commit_meaning.specs.Rules.{pair_number}
use Rattle.commit_meaning.specs.Waves.{world_after}
use Rattle.commit_meaning.specs.Worlds.{targets}
use Rattle.commit_laws.specs.Accounts.{items_in}

-- the number of a later one is behind that of an earlier one, so no two of them have one number
abbrev pub ItemsRise : PlainItem → PlainItem → Type 0
ItemsRise i j = is_behind j.number i.number ≡ true

-- a later object is of a later wave, or of the same wave and has a number behind that of the earlier one
abbrev pub ObjectsRise : PlainObject → PlainObject → Type 0
ObjectsRise o p = (object_wave o < object_wave p) ⊎ ((object_wave o ≡ object_wave p) × (is_behind p.number o.number ≡ true))

abbrev pub TargetsRise : PlainRule → Target → Target → Type 0
TargetsRise r t u = is_behind (pair_number r u) (pair_number r t) ≡ true

-- The items of each wave stand by rising numbers, and so do the committed objects of one wave. The numbers of a rule at its targets rise in the order in
-- which these were committed.
pub record RisesThroughout (load : Loaded) : Type 0 where
  pub items : (w : ℕ) → AllPairs ItemsRise (items_in load w)
  pub objects : (w : ℕ) → AllPairs ObjectsRise (world_after load w).objects
  pub targets : (w : ℕ) (r : PlainRule) → Contains load.rules r → AllPairs (TargetsRise r) (targets r.target (world_after load w).objects)
