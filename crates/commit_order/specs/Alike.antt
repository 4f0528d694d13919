-- Loads whose files were read in another order, and what doesn't depend on it.
use Rattle.std.specs.Prelude.{◌≡◌, ◌&&◌, ℕ, suc, List, [], ◌∷◌, map, Bool, false, Option, option_map}
use Rattle.std.specs.List.{filter, AllByRecursion}
use Rattle.std.specs.Str.{bytes_eq}
use Rattle.site_base.specs.Data.{Data}
use Rattle.site_model.specs.PlainSite.{PlainObject}
use Rattle.object_types.specs.Names.{type_named}
use Rattle.eval_meaning.specs.Registered.{PlainItem, PlainRule}
use Rattle.eval_meaning.specs.Views.{View, sight, template_in}
use Rattle.eval_meaning.specs.Load.{Loaded}
use Rattle.eval_meaning.specs.declared.read.Read.{Read}
use Rattle.commit_meaning.specs.Names.{Target}
use Rattle.commit_meaning.specs.Items.{item_answer}
use Rattle.commit_meaning.specs.Rules.{instances}
use Rattle.commit_meaning.specs.Groups.{group_members}
use Rattle.commit_meaning.specs.Worlds.{first_object}
use Rattle.commit_meaning.specs.Orders.{by_number}
use Rattle.commit_meaning.specs.Waves.{is_group, item_number, wave_faults, world_after, diags_of}
use Rattle.commit_meaning.specs.Commits.{committed}
use Rattle.commit_order.specs.Reordered.{Reordered}
use Rattle.commit_order.specs.Unordered.{unordered_item, unordered_rule, unordered_object, unordered_diag}

-- ---- what an evaluation looks at

-- Views with one store, in which the same is found under each name. In which order they show objects or hold templates, and which rules they
-- have, doesn't matter.
pub record LookAlike (view other : View) : Type 0 where
  pub store : view.store ≡ other.store
  pub files : view.files ≡ other.files
  pub templates : (kind name : List ℕ) → template_in kind name view.templates ≡ template_in kind name other.templates
  pub sights : (r : Read) → sight view r ≡ sight other r

-- what is answered over a view is what is answered over another one
pub record AnswerAlike (view other : View) : Type 0 where
  pub items : (i : PlainItem) → item_answer view i ≡ item_answer other i
  pub rules : (r : PlainRule) (t : Target) → instances view r t ≡ instances other r t
  pub members : (gs : List PlainItem) (o : PlainObject) → group_members view gs o ≡ group_members other gs o

-- ---- loads

-- items that groups are made of
abbrev pub makes_group : PlainItem → Bool
makes_group i = is_group (type_named i.kind)

-- These are put into the `groups` of an object one after another, so that an object shows their order.
abbrev pub group_items : Loaded → List PlainItem
group_items load = by_number item_number (filter makes_group load.items)

-- A rule makes no groups. No rule of the language does.
abbrev pub MakesNoGroup : PlainRule → Type 0
MakesNoGroup r = is_group (type_named r.kind) ≡ false

-- Loads of files none of which needs another one, read in two orders: the files leave one store, and they register the same items and rules in
-- another order, so that these have other numbers. Templates are found by their names. Groups keep their order among themselves.
pub record AreReordered (load other : Loaded) : Type 0 where
  pub store : load.store ≡ other.store
  pub templates : (kind name : List ℕ) → template_in kind name load.templates ≡ template_in kind name other.templates
  pub items : Reordered (map unordered_item load.items) (map unordered_item other.items)
  pub rules : Reordered (map unordered_rule load.rules) (map unordered_rule other.rules)
  pub groups : map unordered_item (group_items load) ≡ map unordered_item (group_items other)
  pub no_group : AllByRecursion MakesNoGroup load.rules

-- ---- commits

abbrev pub has_name_of : PlainObject → PlainObject → Bool
has_name_of o p = bytes_eq o.kind p.kind && bytes_eq o.name p.name

-- no two objects have one type and one full name
abbrev pub AreApart : List PlainObject → Type 0
AreApart [] = Unit {0}
AreApart (o ∷ os) = AllByRecursion (λ p. has_name_of o p ≡ false) os × AreApart os

-- Commits of the same objects. Under each type and full name both have one object or none, of one tree, and from one place.
pub record SameObjects (load other : Loaded) : Type 0 where
  pub all : Reordered (map unordered_object (committed load)) (map unordered_object (committed other))
  pub found : (r : Read) → option_map unordered_object (first_object r (committed load)) ≡ option_map unordered_object (first_object r (committed other))

-- the tree of the object of a type and a full name, if there is one
abbrev pub tree_under : Read → List PlainObject → Option Data
tree_under r os = option_map (λ o. o.tree) (first_object r os)

-- The same is wrong in the wave that follows so many, in another order, and where one of both tells nothing, so does the other. (Which item is
-- one too many, where a wave has too many, depends on the order.)
pub record SameFaults (load other : Loaded) (w : ℕ) : Type 0 where
  pub all : Reordered (map unordered_diag (wave_faults load (world_after load w) (suc w))) (map unordered_diag (wave_faults other (world_after other w) (suc w)))
  pub none : diags_of load (suc w) ≡ [] → diags_of other (suc w) ≡ []
  pub other_none : diags_of other (suc w) ≡ [] → diags_of load (suc w) ≡ []
