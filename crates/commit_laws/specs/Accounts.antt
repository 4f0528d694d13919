-- What a wave makes of its tasks, which are items, rules at targets, and groups for objects, and what it tells of them.
use Rattle.std.specs.Prelude.{◌≡◌, ◌≢◌, ℕ, suc, List, [], Contains, true}
use Rattle.std.specs.List.{AllByRecursion}
use Rattle.site_base.specs.declared.diag.Diag.{Diag}
use Rattle.site_base.specs.declared.item_no.ItemNo.{ItemNo}
use Rattle.site_model.specs.PlainSite.{PlainObject}
use Rattle.eval_meaning.specs.Registered.{PlainItem, PlainRule}
use Rattle.eval_meaning.specs.Views.{View}
use Rattle.eval_meaning.specs.Load.{Loaded}
use Rattle.commit_meaning.specs.Answers.{Answer, made, diagnosed, blocked}
use Rattle.commit_meaning.specs.Names.{Target}
use Rattle.commit_meaning.specs.Items.{item_answer}
use Rattle.commit_meaning.specs.Rules.{instances, pair_number}
use Rattle.commit_meaning.specs.Groups.{group_members, grown}
use Rattle.commit_meaning.specs.Worlds.{targets}
use Rattle.commit_meaning.specs.Waves.{is_in_wave, member_answer, view_before, wave_faults, wave_items, wave_objects, world_after}

-- ---- answers

-- something is made, or something is wrong, all of it under this number; nothing is blocked
abbrev pub IsAnswerOf : {A : Type 0} → ItemNo → Answer A → Type 0
IsAnswerOf n (made a) = Unit {0}
IsAnswerOf n (diagnosed ds) = (ds ≢ []) × AllByRecursion (λ d. d.number ≡ n) ds
IsAnswerOf n (blocked r) = ⊥

-- each task has such an answer over a view
pub record AnswersAll (view : View) : Type 0 where
  pub items : (i : PlainItem) → IsAnswerOf i.number (item_answer view i)
  pub rules : (r : PlainRule) (t : Target) → IsAnswerOf (pair_number r t) (instances view r t)
  pub members : (gs : List PlainItem) (o : PlainObject) → IsAnswerOf o.number (group_members view gs o)

-- ---- one wave

-- what was made stands where it has to, or what is wrong is among what is told, and it's told under this number
abbrev pub IsAccounted : {A : Type 0} → ItemNo → List Diag → (A → Type 0) → Answer A → Type 0
IsAccounted n told Stands (made a) = Stands a
IsAccounted n told Stands (diagnosed ds) = (ds ≢ []) × AllByRecursion (λ d. (d.number ≡ n) × Contains told d) ds
IsAccounted n told Stands (blocked r) = ⊥

abbrev pub told_in : Loaded → ℕ → List Diag
told_in load w = wave_faults load (world_after load w) (suc w)

abbrev pub items_in : Loaded → ℕ → List PlainItem
items_in load w = wave_items load (world_after load w) (suc w)

abbrev pub objects_in : Loaded → ℕ → List PlainObject
objects_in load w = wave_objects load (world_after load w) (suc w)

abbrev pub view_in : Loaded → ℕ → View
view_in load w = view_before load (world_after load w)

-- The wave that follows so many others. Each registered item of its types is one of its items, and so is each item that a rule of its types makes
-- of a target. Of each item an object is made, and each object stands in the world after the wave, in the groups that take it. Whatever isn't made
-- is told.
pub record LosesNothing (load : Loaded) (w : ℕ) : Type 0 where
  pub registered : (i : PlainItem) → Contains load.items i → is_in_wave (suc w) i.kind ≡ true → Contains (items_in load w) i
  pub rules : (r : PlainRule) → Contains load.rules r → is_in_wave (suc w) r.kind ≡ true → (t : Target) → Contains (targets r.target (world_after load w).objects) t
      → IsAccounted (pair_number r t) (told_in load w) (AllByRecursion (Contains (items_in load w))) (instances (view_in load w) r t)
  pub items : (i : PlainItem) → Contains (items_in load w) i → IsAccounted i.number (told_in load w) (Contains (objects_in load w)) (item_answer (view_in load w) i)
  pub members : (o : PlainObject) → Contains (objects_in load w) o → IsAccounted o.number (told_in load w) (λ ns. Unit {0}) (member_answer load (world_after load w) (suc w) o)
  pub objects : (o : PlainObject) → Contains (objects_in load w) o → Contains (world_after load (suc w)).objects (grown o (member_answer load (world_after load w) (suc w) o))
