-- Hosts, services, and a view over a store with nothing in it but empty globals.
use Rattle.std.specs.Prelude.{ℕ, List, [], ◌∷◌, ◌++◌, codes, false}
use Rattle.site_base.specs.Data as tree
use Rattle.site_base.specs.Data.{Data, Pairs, no_pairs, pair}
use Rattle.site_base.specs.declared.item_no.ItemNo.{ItemNo}
use Rattle.site_model.specs.PlainSite.{PlainObject}
use Rattle.dsl_syntax.specs.Syntax.{Statements}
use Rattle.dsl_value.specs.Contents.{dict}
use Rattle.eval_meaning.specs.Registered.{PlainItem, PlainRule}
use Rattle.eval_meaning.specs.Views.{View}
use Rattle.eval_meaning.specs.Registration.{name_preset}
use Rattle.eval_meaning.specs.Load.{Loaded}
use Rattle.commit_meaning.specs.Worlds.{world_view}
use Rattle.commit_examples.specs.Parts.{at}

-- the number of a statement
abbrev pub number : ℕ → ItemNo
number n = record { item = n; target = record { item = 0; host = 0; key = 0 }; key = 0 }

-- that of an instance of a rule at a host, which has a statement's number
abbrev pub on_host : ℕ → ℕ → ℕ → ItemNo
on_host n h k = record { item = n; target = record { item = h; host = 0; key = 0 }; key = k }

abbrev pub load_of : List PlainItem → List PlainRule → Loaded
load_of is rs = record { store = record { cells = dict [] ∷ []; base = 1; functions = [] }; templates = []; items = is; rules = rs }

-- no object is there
abbrev pub nothing : View
nothing = world_view (load_of [] []) []

-- nothing is shown, and of no name it is known that there is none
abbrev pub unknown : View
unknown = record nothing { whole = [] }

-- a tree with a name and what follows it
abbrev pub attributes : List ℕ → Pairs → Data
attributes n more = tree.dict (pair (codes "name") (tree.string n) more)

abbrev pub host_with : ℕ → List ℕ → Pairs → PlainObject
host_with k n more = record { kind = codes "Host"; name = n; place = at; number = number k; builtin = false; tree = attributes n more }

abbrev pub host_named : ℕ → List ℕ → PlainObject
host_named k n = host_with k n no_pairs

-- a service of a host
abbrev pub service_named : ℕ → List ℕ → List ℕ → PlainObject
service_named k h n = record { kind = codes "Service"; name = h ++ codes "!" ++ n; place = at; number = number k; builtin = false; tree = tree.dict (pair (codes "host_name") (tree.string h) (pair (codes "name") (tree.string n) no_pairs)) }

-- the item of an `object` statement
abbrev pub item_of : ℕ → List ℕ → List ℕ → Statements → PlainItem
item_of k kind n b = record { number = number k; kind = kind; name = n; place = at; presets = name_preset n; names = []; captured = []; body = b; builtin = false }
