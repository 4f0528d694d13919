-- The tasks of a wave.
use Rattle.std.specs.Prelude.{◌≡◌, ℕ, List, Vec, map}
use Rattle.std.specs.List.{flat_map}
use Rattle.std.specs.declared.alloc.Global.{Global}
use Rattle.site_model.specs.PlainSite.{object_view}
use Rattle.site_model.specs.declared.object.Object.{Object}
use Rattle.eval_work.specs.Kept.{PairsNamed}
use Rattle.eval_work.specs.Works.{view_of}
use Rattle.eval_work.specs.declared.view.WorldView.{WorldView}
use Rattle.item_start.specs.Ready.{IsLawfulView}
use Rattle.apply_rules.specs.Keys.{AreKeys}
use Rattle.wave_order.specs.WaveItems.{IsWaitingIn, plain_pending}
use Rattle.wave_order.specs.declared.pending.Pending.{Pending}
use Rattle.wave_objects.specs.AtTargets.{AreAnswersShared, Placed, PlacedNamed, answers_of_one, plain_placed}
use Rattle.wave_objects.specs.ByType.{type_rules}
use Rattle.wave_objects.specs.Members.{ListsNamed}
use Rattle.wave_objects.specs.declared.answering_many.ItemTasks.{ItemTasks}
use Rattle.wave_objects.specs.declared.applying_many.RuleTasks.{RuleTasks}
use Rattle.wave_objects.specs.declared.at_targets.PlacedAnswer.{PlacedAnswer}
use Rattle.wave_objects.specs.declared.by_type.RulesOfType.{RulesOfType}
use Rattle.wave_objects.specs.declared.joining_many.GroupTasks.{GroupTasks}

-- an item that may be evaluated over the view
pub record IsItemTask (e : ItemTasks) (p : Pending) : Type 0 where
  pub lawful : IsLawfulView e.view
  pub keys : AreKeys e.keys.now
  pub named : PairsNamed e.view.store.now (plain_pending p).captured
  pub shared : IsWaitingIn e.view.store.now p

-- rules that may be evaluated over the view
pub record AreRuleTasks (e : RuleTasks) : Type 0 where
  pub lawful : IsLawfulView e.view
  pub named : (kind : List ℕ) → PlacedNamed e.view.store.now (type_rules kind e.types.now)

-- groups whose members may be found over the view
pub record AreGroupTasks (e : GroupTasks) : Type 0 where
  pub lawful : IsLawfulView e.view
  pub named : ListsNamed e.view.store.now e.lists.now

-- what the rules of a wave come to at an object, and what they make shares values of the view's store
pub record AreOfObject (view : WorldView) (objects : List Object) (types : List RulesOfType) (o : Object) (list : Vec PlacedAnswer Global) : Type 0 where
  pub answers : map plain_placed list.items ≡ answers_of_one (view_of view) (map object_view objects) types (object_view o)
  pub shared : AreAnswersShared view.store.now list.items

-- all answers, one object after another
abbrev pub all_placed : List (Vec PlacedAnswer Global) → List Placed
all_placed lists = flat_map (λ answers. map plain_placed answers.items) lists
