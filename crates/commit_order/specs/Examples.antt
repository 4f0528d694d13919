-- Two files in both orders, and a host in two groups.
use Rattle.std.specs.Prelude.{ℕ, zero, suc, List, [], ◌∷◌, codes, true, false, Some, None}
use Rattle.site_base.specs.Data as tree
use Rattle.site_base.specs.declared.item_no.ItemNo.{ItemNo}
use Rattle.site_base.specs.declared.place.Place.{Place}
use Rattle.site_model.specs.PlainSite.{PlainObject}
use Rattle.dsl_syntax.specs.Syntax.{expression, boolean, statement, assign, Statements, no_statements, more_statements}
use Rattle.dsl_value.specs.Contents.{dict}
use Rattle.eval_meaning.specs.Registered.{PlainItem, PlainRule}
use Rattle.eval_meaning.specs.Views.{View}
use Rattle.eval_meaning.specs.Registration.{name_preset}
use Rattle.eval_meaning.specs.Load.{Loaded}
use Rattle.commit_meaning.specs.Worlds.{world_view}

-- the start of a file
abbrev pub start : ℕ → Place
start f = record { file = f; line = 1; col = 1 }

-- the number of a statement
abbrev pub number : ℕ → ItemNo
number k = record { item = k; target = record { item = 0; host = 0; key = 0 }; key = 0 }

-- `assign where true`
abbrev pub always : ℕ → Statements
always f = more_statements (statement (start f) (assign (expression (start f) (boolean true)))) no_statements

abbrev pub item_of : ℕ → ℕ → List ℕ → List ℕ → Statements → PlainItem
item_of f k kind n b = record { number = number k; kind = kind; name = n; place = start f; presets = name_preset n; names = []; captured = []; body = b; builtin = false }

abbrev pub host_item : ℕ → ℕ → List ℕ → PlainItem
host_item f k n = item_of f k (codes "Host") n no_statements

-- a group that takes each host
abbrev pub group_item : ℕ → List ℕ → PlainItem
group_item k n = item_of 0 k (codes "HostGroup") n (always 0)

-- a rule that makes a service for each host
abbrev pub service_rule : ℕ → ℕ → PlainRule
service_rule f k = record { number = number k; kind = codes "Service"; name = Some (record { name = codes "s"; place = start f }); place = start f; target = codes "Host"; loop = None; captured = []; body = always f }

abbrev pub load_of : List PlainItem → List PlainRule → Loaded
load_of is rs = record { store = record { cells = dict [] ∷ []; base = 1; functions = [] }; templates = []; items = is; rules = rs }

-- the file of the host a and a rule, and then that of the host b
abbrev pub a_first : Loaded
a_first = load_of (host_item 0 1 (codes "a") ∷ host_item 1 3 (codes "b") ∷ []) (service_rule 0 2 ∷ [])

-- that of b, and then that of a and the rule
abbrev pub b_first : Loaded
b_first = load_of (host_item 0 1 (codes "b") ∷ host_item 1 2 (codes "a") ∷ []) (service_rule 1 3 ∷ [])

-- the number of a file in the other order
abbrev pub other_file : ℕ → ℕ
other_file zero = 1
other_file (suc f) = 0

abbrev pub turned : Place → Place
turned p = record p { file = other_file p.file }

abbrev pub nothing : View
nothing = world_view (load_of [] []) []

abbrev pub host_object : PlainObject
host_object = record { kind = codes "Host"; name = codes "a"; place = start 0; number = number 1; builtin = false; tree = tree.dict (tree.pair (codes "name") (tree.string (codes "a")) tree.no_pairs) }
