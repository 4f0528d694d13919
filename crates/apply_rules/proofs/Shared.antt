-- Instances that share what was made in a store.
use Rattle.std.proofs.Common.{◌≡◌, List, Result, Ok, Err, Vec, sym, subst}
use Rattle.std.proofs.lemmas.List.Elements.{All-weaker}
use Rattle.std.specs.Prelude.{IfOk, IfSome}
use Rattle.std.specs.declared.alloc.Global.{Global}
use Rattle.dsl_value.specs.Contents.{Contents}
use Rattle.eval_work.specs.declared.stop.Stop.{Stop}
use Rattle.apply_rules.specs.Sharing.{AreLike, AreSharedIn, IsLike, IsPreparedFor, IsSharedIn, IsSharing}
use Rattle.apply_rules.specs.declared.instance.Instance.{Instance}
use Rattle.apply_rules.specs.declared.sharing.Share.{Share}

module _ (s : Contents) (h : Share) (shared : IsSharing s h.target h.values) where
  like_shared : (i : Instance) → IsLike h i → IsSharedIn s i
  like_shared i l = subst (λ t. IsSharing s t i.shared) (sym l.target) (subst (λ o. IfSome o (IsPreparedFor s h.target)) (sym l.shared) shared)

  -- instances that are alike
  pub are_shared : (is : List Instance) → AreLike h is → AreSharedIn s is
  are_shared is l = All-weaker (IsLike h) (IsSharedIn s) like_shared is l

  pub all_shared : (r : Result (Vec Instance Global) Stop) → IfOk r (λ is. AreLike h is.items) → IfOk r (λ is. AreSharedIn s is.items)
  all_shared (Ok is) l = are_shared is.items l
  all_shared (Err e) l = tt
