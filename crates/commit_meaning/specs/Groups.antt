-- Which groups take an object by their conditions, and what it becomes then.
use Rattle.std.specs.Prelude.{ℕ, List, [], ◌∷◌, ◌++◌, codes, Bool, true, false, Option, Some, None, if◌then◌else◌}
use Rattle.std.specs.Str.{bytes_eq}
use Rattle.std.specs.declared.cmp.Ordering.{Ordering}
use Rattle.std.specs.declared.cmp.Ordering.TheVariants.{Less, Equal, Greater}
use Rattle.site_base.specs.Data as tree
use Rattle.site_base.specs.Data.{Data, Items, no_items, Pairs, no_pairs, pair}
use Rattle.site_base.specs.declared.diag.Diag.{Diag}
use Rattle.site_base.specs.declared.item_no.ItemNo.{ItemNo}
use Rattle.site_model.specs.PlainSite.{PlainObject}
use Rattle.object_types.specs.Names.{type_named, attribute_name}
use Rattle.object_types.specs.declared.attribute.Attribute.TheVariants as attribute
use Rattle.object_types.specs.declared.object_type.ObjectType.{ObjectType}
use Rattle.object_types.specs.declared.object_type.ObjectType.TheVariants as object
use Rattle.dsl_value.specs.Pairs.{key_cmp}
use Rattle.eval_meaning.specs.Registered.{PlainItem}
use Rattle.eval_meaning.specs.Views.{View, host, Sight, shown, absent, undecided, sight}
use Rattle.eval_meaning.specs.States.{State, Outcome, gives, faults, blocked, ◌>>=◌, rule}
use Rattle.eval_meaning.specs.Objects.{with_read}
use Rattle.eval_meaning.specs.declared.read.Read.{Read}
use Rattle.commit_meaning.specs.Answers as answer
use Rattle.commit_meaning.specs.Answers.{Answer, diag, answered}
use Rattle.commit_meaning.specs.Starts.{fresh, Trees, values_of}
use Rattle.commit_meaning.specs.Names.{text_of}
use Rattle.commit_meaning.specs.Conditions.{Verdict, no_verdict, judged, is_taken}
use Rattle.commit_meaning.specs.Rules.{in_rule}

-- ---- what stands for an object in expressions

-- the host of a service is the first read, and is charged nothing
abbrev pub host_seen : Read → Sight → State → Outcome (Option Data)
host_seen r (shown d) s = gives (Some d) (with_read r s)
host_seen r absent s = gives None (with_read r s)
host_seen r undecided s = blocked r s.reads

abbrev pub service_names : Data → Option Data → Option Trees
service_names d (Some h) = Some ((codes "host", h) ∷ (codes "service", d) ∷ [])
service_names d None = None

abbrev pub service_seen : View → Data → Read → State → Outcome (Option Trees)
service_seen view d r s = host_seen r (sight view r) s >>= λ o s1. gives (service_names d o) s1

-- A service without a host is in no group by a condition.
abbrev pub member_names : View → Option ObjectType → Data → State → Outcome (Option Trees)
member_names view (Some object.Host) d s = gives (Some ((codes "host", d) ∷ [])) s
member_names view (Some object.User) d s = gives (Some ((codes "user", d) ∷ [])) s
member_names view (Some object.Service) d s = service_seen view d (host (text_of d attribute.HostName)) s
member_names view o d s = gives None s

-- ---- one group after another

-- what groups have come to: the names of those that take the object, and what is wrong with the others
pub record Taken : Type 0 where
  pub names : List (List ℕ)
  pub diags : List Diag

abbrev pub none_taken : Taken
none_taken = record { names = []; diags = [] }

abbrev pub taken_by : List ℕ → Verdict → Taken → Taken
taken_by n v t = if is_taken v then record t { names = t.names ++ n ∷ [] } else t

-- the conditions of a group, in a store and with a budget of its own; reads go on
abbrev pub group_run : View → Trees → PlainItem → State → Outcome Verdict
group_run view names g s = values_of names [] s >>= λ bound s1. judged view g.body no_verdict (in_rule g.captured bound s1)

-- a fault ends its own group alone, and is told under the object's number; a read that isn't decided ends all
abbrev pub caught : View → ItemNo → PlainItem → Taken → Outcome Verdict → Outcome Taken
caught view n g t (gives v s) = gives (taken_by g.name v t) (fresh view.store rule s.reads)
caught view n g t (faults l k x rs) = gives (record t { diags = t.diags ++ diag n l k x ∷ [] }) (fresh view.store rule rs)
caught view n g t (blocked r rs) = blocked r rs

abbrev pub groups_run : View → ItemNo → Trees → List PlainItem → Taken → State → Outcome Taken
groups_run view n names [] t s = gives t s
groups_run view n names (g ∷ gs) t s = caught view n g t (group_run view names g s) >>= λ t1 s1. groups_run view n names gs t1 s1

abbrev pub groups_by : View → ItemNo → List PlainItem → Option Trees → State → Outcome Taken
groups_by view n gs (Some names) s = groups_run view n names gs none_taken s
groups_by view n gs None s = gives none_taken s

unfoldable pub member_run : View → List PlainItem → PlainObject → Outcome Taken
member_run view gs o = member_names view (type_named o.kind) o.tree (fresh view.store rule []) >>= λ names s. groups_by view o.number gs names s

abbrev pub unless_diags : Taken → List Diag → Answer (List (List ℕ))
unless_diags t [] = answer.made t.names
unless_diags t (d ∷ ds) = answer.diagnosed (d ∷ ds)

abbrev pub settled : Answer Taken → Answer (List (List ℕ))
settled (answer.made t) = unless_diags t t.diags
settled (answer.diagnosed ds) = answer.diagnosed ds
settled (answer.blocked r) = answer.blocked r

-- the names of the groups, of these, that take an object by their conditions
unfoldable pub group_members : View → List PlainItem → PlainObject → Answer (List (List ℕ))
group_members view gs o = settled (answered o.number (member_run view gs o))

-- ---- the object then

-- a pair is put in under its key, in the order of bytes
abbrev pub put_by : Ordering → List ℕ → Data → List ℕ → Data → Pairs → Pairs → Pairs
put_by Less k d j e ps qs = pair k d (pair j e ps)
put_by Equal k d j e ps qs = pair k d ps
put_by Greater k d j e ps qs = pair j e qs

abbrev pub with_pair : List ℕ → Data → Pairs → Pairs
with_pair k d no_pairs = pair k d no_pairs
with_pair k d (pair j e ps) = put_by (key_cmp k j) k d j e ps (with_pair k d ps)

-- the array under a key; empty where nothing or something else stands there
abbrev pub items_of : Data → Items
items_of (tree.list ds) = ds
items_of d = no_items

abbrev pub items_under : List ℕ → Pairs → Items
items_under k no_pairs = no_items
items_under k (pair j d ps) = if bytes_eq j k then items_of d else items_under k ps

abbrev pub is_string : List ℕ → Data → Bool
is_string n (tree.string t) = bytes_eq t n
is_string n d = false

abbrev pub has_string : List ℕ → Items → Bool
has_string n no_items = false
has_string n (tree.item d ds) = if is_string n d then true else has_string n ds

abbrev pub with_last : List ℕ → Items → Items
with_last n no_items = tree.item (tree.string n) no_items
with_last n (tree.item d ds) = tree.item d (with_last n ds)

-- a name is added at the end of `groups`, if it isn't there yet
abbrev pub with_group : List ℕ → Pairs → Pairs
with_group n ps =
    if has_string n (items_under (attribute_name attribute.Groups) ps) then ps
    else with_pair (attribute_name attribute.Groups) (tree.list (with_last n (items_under (attribute_name attribute.Groups) ps))) ps

abbrev pub with_groups : List (List ℕ) → Pairs → Pairs
with_groups [] ps = ps
with_groups (n ∷ ns) ps = with_groups ns (with_group n ps)

abbrev pub tree_grown : List (List ℕ) → Data → Data
tree_grown ns (tree.dict ps) = tree.dict (with_groups ns ps)
tree_grown ns d = d

-- an object, once it is in the groups that take it
abbrev pub grown : PlainObject → Answer (List (List ℕ)) → PlainObject
grown o (answer.made ns) = record o { tree = tree_grown ns o.tree }
grown o a = o
