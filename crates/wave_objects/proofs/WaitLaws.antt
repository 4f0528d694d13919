-- What the items of a wave share before their turn was made in one store.
use Rattle.std.proofs.Common.{◌≡◌, List, [], ◌∷◌, ◌++◌, map, sym, subst}
use Rattle.std.specs.List.{AllByRecursion, flat_map}
use Rattle.std.proofs.lemmas.List.Elements.{recursion_from_All}
use Rattle.dsl_value.specs.Contents.{Contents}
use Rattle.dsl_value.proofs.Kept.{all_append}
use Rattle.eval_work.specs.declared.item.Item.{Item}
use Rattle.apply_rules.specs.Sharing.{AreSharedIn, IsSharedIn}
use Rattle.apply_rules.specs.declared.instance.Instance.{Instance}
use Rattle.wave_order.specs.WaveItems.{AreWaitingIn, IsWaitingIn, as_made, as_registered}
use Rattle.wave_order.specs.declared.pending.Pending.{Pending}
use Rattle.wave_objects.specs.Applying.{AppliedShared, pending_by}
use Rattle.wave_objects.specs.declared.applying.Applied.{Applied}

module _ (s : Contents) where
  registered_wait : (is : List Item) → AreWaitingIn s (map as_registered is)
  registered_wait [] = tt
  registered_wait (i ∷ is) = (tt, registered_wait is)

  made_wait : (is : List Instance) → AllByRecursion (IsSharedIn s) is → AreWaitingIn s (map as_made is)
  made_wait [] h = tt
  made_wait (i ∷ is) h = (h.0, made_wait is h.1)

  applied_wait : (xs : List Applied) → AllByRecursion (λ (x : Applied). AreSharedIn s x.made.items) xs → AreWaitingIn s (flat_map pending_by xs)
  applied_wait [] h = tt
  applied_wait (x ∷ xs) h = all_append (IsWaitingIn s) (pending_by x) (flat_map pending_by xs) (made_wait x.made.items (recursion_from_All (IsSharedIn s) x.made.items h.0)) (applied_wait xs h.1)

  -- those that were registered
  pub after_registered : (old new : List Pending) (is : List Item) → new ≡ old ++ map as_registered is → old ≡ [] → AreWaitingIn s new
  after_registered old new is e none = subst (AreWaitingIn s) (sym e) (all_append (IsWaitingIn s) old (map as_registered is) (subst (AreWaitingIn s) (sym none) tt) (registered_wait is))

  -- and those that rules have made
  pub after_applied : (old new : List Pending) (xs : List Applied) → new ≡ old ++ flat_map pending_by xs → AreWaitingIn s old → AppliedShared s xs → AreWaitingIn s new
  after_applied old new xs e h k =
      subst (AreWaitingIn s) (sym e) (all_append (IsWaitingIn s) old (flat_map pending_by xs) h (applied_wait xs (recursion_from_All (λ (x : Applied). AreSharedIn s x.made.items) xs k)))
