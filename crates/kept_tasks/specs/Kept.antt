-- Which tasks of a load keep the answers that they had in another one.
use Rattle.std.specs.Prelude.{◌≡◌, ◌<◌, ℕ, suc, List, [], ◌++◌, map, Contains}
use Rattle.std.specs.List.{filter}
use Rattle.site_base.specs.declared.diag.Diag.{Diag}
use Rattle.site_model.specs.PlainSite.{PlainObject}
use Rattle.object_types.specs.Names.{type_named}
use Rattle.eval_meaning.specs.Load.{Loaded}
use Rattle.eval_meaning.specs.Registered.{PlainItem, PlainRule}
use Rattle.eval_meaning.specs.Views.{View}
use Rattle.eval_meaning.specs.declared.read.Read.{Read}
use Rattle.commit_meaning.specs.Answers.{Answer}
use Rattle.commit_meaning.specs.Commits.{committed, first_told, waves}
use Rattle.commit_meaning.specs.Groups.{group_members}
use Rattle.commit_meaning.specs.Items.{item_answer}
use Rattle.commit_meaning.specs.Names.{Target, target_no, target_number}
use Rattle.commit_meaning.specs.Rules.{instances}
use Rattle.commit_meaning.specs.Waves.{diags_of, group_type, groups_of, is_in_wave, wave_groups, wave_items, wave_objects, world_after}
use Rattle.commit_meaning.specs.Worlds.{targets, world_view}
use Rattle.kept_tasks.specs.Bare.{Agree, bare_group, bare_item, bare_member, bare_rule, bare_target}
use Rattle.kept_tasks.specs.Reads.{AreReadsOf, SeenAlike}

-- The commit of a load gave a site: nothing is wrong in its waves, nor in the phases after them.
abbrev pub GivesSite : (List PlainObject → List (List Diag)) → Loaded → Type 0
GivesSite phases load = first_told (map (diags_of load) waves ++ phases (committed load)) ≡ []

-- what stands in both loads before the wave that follows so many
abbrev pub standing : Loaded → ℕ → List PlainObject
standing load w = (world_after load w).objects

abbrev pub standing_view : Loaded → ℕ → View
standing_view load w = world_view load (standing load w)

-- The old load had a task in this wave whose reads come to the same in both worlds.
pub record HadAlike {A : Type 0} (old new : Loaded) (w : ℕ) (answer : View → Answer A) : Type 0 where
  pub reads : List Read
  pub are : AreReadsOf answer old (standing old w) reads
  pub alike : SeenAlike (standing_view old w) (standing_view new w) reads

-- the item `j` of the new load's wave that follows `w` others keeps its answer
pub record IsKeptItem (phases : List PlainObject → List (List Diag)) (old new : Loaded) (w : ℕ) (j : PlainItem) : Type 0 where
  pub wave : w < 6
  pub agree : Agree old new
  pub gave : GivesSite phases old
  pub task : PlainItem
  pub had : Contains (wave_items old (world_after old w) (suc w)) task
  pub same : bare_item task ≡ bare_item j
  pub reads : HadAlike old new w (λ view. item_answer view task)

-- so does the pair of the rule `q` and the target `u`
pub record IsKeptPair (phases : List PlainObject → List (List Diag)) (old new : Loaded) (w : ℕ) (q : PlainRule) (u : Target) : Type 0 where
  pub wave : w < 6
  pub agree : Agree old new
  pub gave : GivesSite phases old
  pub rule : PlainRule
  pub target : Target
  pub had_rule : Contains (filter (λ r. is_in_wave (suc w) r.kind) old.rules) rule
  pub had_target : Contains (targets rule.target (standing old w)) target
  pub same_rule : bare_rule rule ≡ bare_rule q
  pub same_target : bare_target target ≡ bare_target u
  pub reads : HadAlike old new w (λ view. instances view rule target)

abbrev pub groups_for : Loaded → ℕ → PlainObject → List PlainItem
groups_for load w o = groups_of (group_type (type_named o.kind)) (wave_groups load (world_after load w) (suc w))

-- and so do the groups of the member `p`
pub record IsKeptMember (phases : List PlainObject → List (List Diag)) (old new : Loaded) (w : ℕ) (p : PlainObject) : Type 0 where
  pub wave : w < 6
  pub agree : Agree old new
  pub gave : GivesSite phases old
  pub member : PlainObject
  pub had : Contains (wave_objects old (world_after old w) (suc w)) member
  pub same : bare_member member ≡ bare_member p
  pub groups : map bare_group (groups_for old w member) ≡ map bare_group (groups_for new w p)
  pub reads : HadAlike old new w (λ view. group_members view (groups_for old w member) member)

-- ---- the answers of tasks that are kept

-- the object that was made, under the number of the item of which it is made now, and at its place
abbrev pub renewed_object : PlainItem → PlainObject → PlainObject
renewed_object j o = record o { number = j.number; place = j.place }

-- an item that a rule made, as the rule makes it now of its target now: it keeps the number of its element
abbrev pub renewed_instance : PlainRule → Target → PlainItem → PlainItem
renewed_instance q u i = record i { number = record { item = q.number.item; target = target_no (target_number u); key = i.number.key }; place = q.place; body = q.body }
