-- What an evaluation is told of the site.
use Rattle.std.specs.Prelude.{◌≡◌, ℕ, List, [], ◌∷◌, ◌++◌, codes, ◌||◌, ◌&&◌, Bool, true, false, Option, Some, None, if◌then◌else◌}
use Rattle.std.specs.List.{list_any}
use Rattle.std.specs.Str.{bytes_eq}
use Rattle.site_base.specs.Data.{Data}
use Rattle.dsl_value.specs.PlainStores.{PlainStore}
use Rattle.eval_meaning.specs.Registered.{PlainTemplate, PlainRule, PlainFile}
use Rattle.eval_meaning.specs.declared.read.Read.{Read}

-- an object that is shown: its type, its full name and its attributes
pub record Shown : Type 0 where
  pub kind : List ℕ
  pub name : List ℕ
  pub tree : Data

-- A view of a world: the store, the templates and the rules of the load, the objects that it shows, the names that it knows to be absent, and
-- the types whose objects it shows all. A load has none of these, but the files.
pub record View : Type 0 where
  pub store : PlainStore
  pub templates : List PlainTemplate
  pub rules : List PlainRule
  pub objects : List Shown
  pub absent : List Read
  pub whole : List (List ℕ)
  pub files : List PlainFile

-- What is read are hosts and services. The full name of a service has this byte between the names of its host and its own.
abbrev pub bang : ℕ
bang = 33

abbrev pub host : List ℕ → Read
host n = record { kind = codes "Host"; name = n }

abbrev pub service : List ℕ → List ℕ → Read
service h n = record { kind = codes "Service"; name = h ++ (bang ∷ n) }

-- what a view says of a read
pub data Sight : Type 0 where
  shown : Data → Sight
  absent : Sight
  undecided : Sight

abbrev pub is_read : Read → Read → Bool
is_read r q = bytes_eq r.kind q.kind && bytes_eq r.name q.name

abbrev pub is_object : Read → Shown → Bool
is_object r o = bytes_eq r.kind o.kind && bytes_eq r.name o.name

-- the first object of a type and a full name
abbrev pub object_in : Read → List Shown → Option Data
object_in r [] = None
object_in r (o ∷ os) = if is_object r o then Some o.tree else object_in r os

-- where no object is shown, there is none if that is known of the name, or if all objects of the type are shown
abbrev pub is_absent : View → Read → Bool
is_absent view r = list_any (is_read r) view.absent || list_any (bytes_eq r.kind) view.whole

abbrev pub sight_by : Option Data → Bool → Sight
sight_by (Some d) b = shown d
sight_by None true = absent
sight_by None false = undecided

unfoldable pub sight : View → Read → Sight
sight view r = sight_by (object_in r view.objects) (is_absent view r)

-- the first template of a type and a name
abbrev pub template_in : List ℕ → List ℕ → List PlainTemplate → Option PlainTemplate
template_in kind name [] = None
template_in kind name (t ∷ ts) = if bytes_eq kind t.kind && bytes_eq name t.name then Some t else template_in kind name ts

abbrev pub IsDecided : Sight → Type 0
IsDecided (shown d) = Unit {0}
IsDecided absent = Unit {0}
IsDecided undecided = ⊥

-- A world is a view that decides every read.
pub record IsWorld (view : View) : Type 0 where
  pub hosts : (n : List ℕ) → IsDecided (sight view (host n))
  pub services : (h n : List ℕ) → IsDecided (sight view (service h n))

-- A view is part of a world: store, templates, rules and files are the same, and what the view says of a read is what the world says.
pub record IsPart (view world : View) : Type 0 where
  pub store : view.store ≡ world.store
  pub templates : view.templates ≡ world.templates
  pub rules : view.rules ≡ world.rules
  pub files : view.files ≡ world.files
  pub shows : (r : Read) (d : Data) → sight view r ≡ shown d → sight world r ≡ shown d
  pub lacks : (r : Read) → sight view r ≡ absent → sight world r ≡ absent
