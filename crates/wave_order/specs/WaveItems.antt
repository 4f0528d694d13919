-- The items of a wave.
use Rattle.std.specs.Prelude.{List, [], ◌∷◌, Bool, if◌then◌else◌}
use Rattle.std.specs.List.{AllByRecursion}
use Rattle.dsl_value.specs.Contents.{Contents}
use Rattle.eval_meaning.specs.Registered.{PlainItem}
use Rattle.eval_work.specs.Works.{plain_item}
use Rattle.eval_work.specs.declared.item.Item.{Item}
use Rattle.apply_rules.specs.Plain.{plain_instance}
use Rattle.apply_rules.specs.Sharing.{IsSharedIn}
use Rattle.apply_rules.specs.declared.instance.Instance.{Instance}
use Rattle.wave_order.specs.declared.pending.Pending.{Pending}
use Rattle.wave_order.specs.declared.pending.Pending.TheVariants as pending

abbrev pub plain_pending : Pending → PlainItem
plain_pending (pending.Registered i) = plain_item i
plain_pending (pending.Made i) = plain_instance i

abbrev pub as_registered : Item → Pending
as_registered i = pending.Registered i

abbrev pub as_made : Instance → Pending
as_made i = pending.Made i

-- one thing, if it is kept
abbrev pub kept : {A : Type 0} → Bool → A → List A
kept b a = if b then a ∷ [] else []

-- what an item before its turn shares of its target was made in a store
abbrev pub IsWaitingIn : Contents → Pending → Type 0
IsWaitingIn s (pending.Registered i) = Unit {0}
IsWaitingIn s (pending.Made i) = IsSharedIn s i

abbrev pub AreWaitingIn : Contents → List Pending → Type 0
AreWaitingIn s ps = AllByRecursion (IsWaitingIn s) ps
