-- What the keys of tasks, and of what a load leaves, tell: all but numbers and places.
use Rattle.std.proofs.Common.{◌≡◌, ℕ, List, [], ◌∷◌, map, Bool, Option, Some, None, refl}
use Rattle.std.specs.Option.{option_map}
use Rattle.site_base.specs.Data.{Data}
use Rattle.site_base.specs.declared.place.Place.{Place}
use Rattle.dsl_syntax.specs.Syntax.{Loop, Function, Statements}
use Rattle.site_model.specs.PlainSite.{PlainObject}
use Rattle.dsl_value.specs.Pairs.{Pairs}
use Rattle.dsl_value.specs.PlainStores.{Closure}
use Rattle.eval_meaning.specs.Registered.{PlainItem, PlainRule, PlainTemplate, PlacedName}
use Rattle.commit_meaning.specs.Names.{Target, host, service}
use Rattle.place_laws.specs.Alike.{nowhere}
use Rattle.place_laws.specs.MovedStates.{moved_closure, moved_name, moved_template}
use Rattle.place_laws.specs.MovedSyntax.{moved_loop}
use Rattle.kept_tasks.specs.Bare.{Member, Taker, bare_group, bare_item, bare_member, bare_rule, bare_target, conditions, no_number}
use Rattle.task_keys.specs.Keys.{maybe_text_key}
use Rattle.task_keys.proofs.Telling.{Tells, kind, alone, before, other, one, two, three, four, six, seven}
use Rattle.task_keys.proofs.TellingKeys.{same_boolean, same_text, same_data}
use Rattle.task_keys.specs.LoadKeys.{closure_key, template_key}
use Rattle.task_keys.specs.TaskKeys.{item_key, rule_key, text_of, maybe_loop_key, named_key, target_key, member_key, group_key, groups_key}
use Rattle.task_keys.proofs.TellingSyntax.{same_statements, same_loop, same_function}
use Rattle.task_keys.proofs.TellingValues.{same_pairs, same_trees}

-- ---- what a load leaves

abbrev closure_of : Function → Pairs → Closure
closure_of f ps = record { func = f; captured = ps }

pub same_closure : (f g : Closure) → Tells (closure_key f) (closure_key g) (moved_closure nowhere f ≡ moved_closure nowhere g)
same_closure f g = two closure_of (same_function f.func g.func) (same_pairs f.captured g.captured)

abbrev no_place : Place
no_place = record { file = 0; line = 0; col = 0 }

abbrev template_of : List ℕ → List ℕ → Pairs → Statements → PlainTemplate
template_of k n ps b = record { kind = k; name = n; place = no_place; captured = ps; body = b }

pub same_template : (t u : PlainTemplate) → Tells (template_key t) (template_key u) (moved_template nowhere t ≡ moved_template nowhere u)
same_template t u = four template_of (same_text t.kind u.kind) (same_text t.name u.name) (same_pairs t.captured u.captured) (same_statements t.body u.body)

-- ---- items and rules

abbrev item_of : List ℕ → List ℕ → List (List ℕ × Data) → List (List ℕ × Data) → Pairs → Statements → Bool → PlainItem
item_of k n presets names ps b builtin = record { number = no_number; kind = k; name = n; place = no_place; presets = presets; names = names; captured = ps; body = b; builtin = builtin }

pub same_item : (i j : PlainItem) → Tells (item_key i) (item_key j) (bare_item i ≡ bare_item j)
same_item i j = seven item_of (same_text i.kind j.kind) (same_text i.name j.name) (same_trees i.presets j.presets) (same_trees i.names j.names) (same_pairs i.captured j.captured) (same_statements i.body j.body) (same_boolean i.builtin j.builtin)

abbrev placed : List ℕ → Option PlacedName
placed n = Some (record { name = n; place = no_place })

same_name : (o p : Option PlacedName) → Tells (maybe_text_key (option_map text_of o)) (maybe_text_key (option_map text_of p)) (option_map (moved_name nowhere) o ≡ option_map (moved_name nowhere) p)
same_name None None = alone 0 refl
same_name (Some n) (Some m) = kind 1 (one placed (same_text n.name m.name))
same_name None (Some m) = other refl
same_name (Some n) None = other refl

abbrev some_loop : Loop → Option Loop
some_loop x = Some x

same_each : (o p : Option Loop) → Tells (maybe_loop_key o) (maybe_loop_key p) (option_map (moved_loop nowhere) o ≡ option_map (moved_loop nowhere) p)
same_each None None = alone 0 refl
same_each (Some x) (Some y) = kind 1 (one some_loop (same_loop x y))
same_each None (Some y) = other refl
same_each (Some x) None = other refl

abbrev rule_of : List ℕ → Option PlacedName → List ℕ → Option Loop → Pairs → Statements → PlainRule
rule_of k n t x ps b = record { number = no_number; kind = k; name = n; place = no_place; target = t; loop = x; captured = ps; body = b }

pub same_rule : (r q : PlainRule) → Tells (rule_key r) (rule_key q) (bare_rule r ≡ bare_rule q)
same_rule r q = six rule_of (same_text r.kind q.kind) (same_name r.name q.name) (same_text r.target q.target) (same_each r.loop q.loop) (same_pairs r.captured q.captured) (same_statements r.body q.body)

-- ---- objects and groups

abbrev named : List ℕ → Data → List ℕ × Data
named n d = (n, d)

same_named : (o p : PlainObject) → Tells (named_key o) (named_key p) (named o.name o.tree ≡ named p.name p.tree)
same_named o p = two named (same_text o.name p.name) (same_data o.tree p.tree)

abbrev only : List ℕ × Data → List (List ℕ × Data)
only p = p ∷ []

abbrev pair_of : List ℕ × Data → List ℕ × Data → List (List ℕ × Data)
pair_of p q = p ∷ q ∷ []

pub same_target : (t u : Target) → Tells (target_key t) (target_key u) (bare_target t ≡ bare_target u)
same_target (host h) (host g) = kind 0 (one only (same_named h g))
same_target (service h s) (service g t) = kind 1 (two pair_of (same_named h g) (same_named s t))
same_target (host h) (service g t) = other refl
same_target (service h s) (host g) = other refl

abbrev member_of : List ℕ → List ℕ → Data → Member
member_of k n d = record { kind = k; name = n; tree = d }

pub same_member : (o p : PlainObject) → Tells (member_key o) (member_key p) (bare_member o ≡ bare_member p)
same_member o p = three member_of (same_text o.kind p.kind) (same_text o.name p.name) (same_data o.tree p.tree)

abbrev taker_of : List ℕ → Pairs → Statements → Taker
taker_of n ps b = record { name = n; captured = ps; conditions = b }

pub same_group : (g h : PlainItem) → Tells (group_key g) (group_key h) (bare_group g ≡ bare_group h)
same_group g h = three taker_of (same_text g.name h.name) (same_pairs g.captured h.captured) (same_statements (conditions g.body) (conditions h.body))

pub same_groups : (gs hs : List PlainItem) → Tells (groups_key gs) (groups_key hs) (map bare_group gs ≡ map bare_group hs)
same_groups [] [] = alone 0 refl
same_groups (g ∷ gs) (h ∷ hs) = kind 1 (two before (same_group g h) (same_groups gs hs))
same_groups [] (h ∷ hs) = other refl
same_groups (g ∷ gs) [] = other refl
