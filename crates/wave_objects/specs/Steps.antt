-- A wave in the parts in which it is run.
use Rattle.std.specs.Prelude.{List, [], ◌∷◌, ◌++◌, ◌&&◌, map, if◌then◌else◌}
use Rattle.site_model.specs.PlainSite.{PlainObject, object_view}
use Rattle.site_model.specs.declared.object.Object.{Object}
use Rattle.object_types.specs.Names.{type_named}
use Rattle.eval_meaning.specs.Registered.{PlainItem, PlainRule}
use Rattle.eval_meaning.specs.Views.{View}
use Rattle.commit_meaning.specs.Answers.{Answer, is_made}
use Rattle.commit_meaning.specs.Rules.{instances}
use Rattle.commit_meaning.specs.Waves.{is_group}
use Rattle.commit_meaning.specs.Worlds.{World, targets}

-- a world of these objects; what is made over it doesn't depend on its groups
abbrev pub over : List Object → World
over os = record { objects = map object_view os; groups = [] }

-- what a rule comes to at each of its targets
abbrev pub answers_at : View → List Object → PlainRule → List (Answer (List PlainItem))
answers_at view os r = map (instances view r) (targets r.target (map object_view os))

-- an item, if it is one of a group that was made
abbrev pub groups_by : PlainItem → Answer PlainObject → List PlainItem
groups_by i a = if is_group (type_named i.kind) && is_made a then i ∷ [] else []

-- of items and what they came to, those of groups that were made
abbrev pub groups_among : List (Answer PlainObject) → List PlainItem → List PlainItem
groups_among [] is = []
groups_among (a ∷ answers) [] = []
groups_among (a ∷ answers) (i ∷ is) = groups_by i a ++ groups_among answers is
