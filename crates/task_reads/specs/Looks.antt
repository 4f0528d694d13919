-- Reads with what they found.
use Rattle.std.specs.Prelude.{◌≡◌, List, map, Option, Some, None, option_map}
use Rattle.std.specs.Arc.{arc_value}
use Rattle.std.specs.List.{AllByRecursion}
use Rattle.site_base.specs.Data.{Data}
use Rattle.site_base.specs.View.{view}
use Rattle.site_model.specs.PlainSite.{PlainObject}
use Rattle.eval_meaning.specs.Load.{Loaded}
use Rattle.eval_meaning.specs.Views.{View, Sight, shown, absent, sight}
use Rattle.eval_meaning.specs.declared.read.Read.{Read}
use Rattle.commit_meaning.specs.Answers.{Answer}
use Rattle.commit_meaning.specs.Worlds.{world_view}
use Rattle.kept_tasks.specs.Reads.{AreReadsOf}
use Rattle.task_reads.specs.declared.look.Look.{Look}

-- a read, and the tree of the object that it found, if there was one
pub record PlainLook : Type 0 where
  pub read : Read
  pub tree : Option Data

abbrev pub plain_look : Look → PlainLook
plain_look l = record { read = l.read; tree = option_map (λ t. view (arc_value t)) l.tree }

abbrev pub reads_of : List PlainLook → List Read
reads_of ls = map (λ l. l.read) ls

abbrev pub sight_of : Option Data → Sight
sight_of (Some d) = shown d
sight_of None = absent

-- a world says of this read what was found
abbrev pub IsSeenIn : View → PlainLook → Type 0
IsSeenIn world l = sight world l.read ≡ sight_of l.tree

abbrev pub AreSeenIn : View → List PlainLook → Type 0
AreSeenIn world ls = AllByRecursion (IsSeenIn world) ls

-- the answer of a task over the objects of a load that stand before its wave, and its reads with what they find there
pub record IsWithReads {A : Type 0} (answer : View → Answer A) (load : Loaded) (os : List PlainObject) (a : Answer A) (ls : List PlainLook) : Type 0 where
  pub answered : answer (world_view load os) ≡ a
  pub reads : AreReadsOf answer load os (reads_of ls)
  pub seen : AreSeenIn (world_view load os) ls
