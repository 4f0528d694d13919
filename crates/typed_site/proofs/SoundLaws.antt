-- Every typed site is sound.
use Rattle.std.proofs.Common.{◌≡◌, ◌≢◌, ℕ, zero, suc, ◌+◌, ◌-◌, ◌^◌, ◌<◌, ◌≤◌, ◌||◌, ◌==◌, Bool, true, false, cond, List, [], ◌∷◌, ◌++◌, length, map, nat_eq, All, IfSome, IsSomeAnd, Option, Some, None, refl, sym, ap, ◌∙◌, subst, arith, length-append}
use Rattle.std.specs.List.{filter, flat_map, list_any}
use Rattle.std.specs.Option.{option_and_then, option_map, option_to_list}
use Rattle.std.specs.Str.{bytes_eq}
use Rattle.std.proofs.Math.Dec.{eqb-suc-zero}
use Rattle.std.proofs.lemmas.List.{length-map}
use Rattle.std.proofs.lemmas.List.Elements.{All-append}
use Rattle.std.proofs.lemmas.Slice.Eq.{bytes_eq-Decides}
use Rattle.site_base.specs.Data.{Data}
use Rattle.site_model.specs.Names.{place_of}
use Rattle.site_model.specs.PlainSite.{PlainCheck, PlainObject, PlainSite}
use Rattle.site_model.specs.Sound.{AreDistinct, AreHostsThenServices, HasNames, IsIndex, IsIndexOrNone, IsSound, JoinsCheckables, TellsUsers}
use Rattle.site_model.specs.declared.depend_spec.DependSpec.{DependSpec}
use Rattle.site_model.specs.declared.notify_spec.NotifySpec.{NotifySpec}
use Rattle.site_model.specs.declared.user_spec.UserSpec.{UserSpec}
use Rattle.object_types.specs.declared.attribute.Attribute.{Attribute}
use Rattle.object_types.specs.declared.attribute.Attribute.TheVariants as attribute
use Rattle.object_types.specs.declared.object_type.ObjectType.{ObjectType}
use Rattle.object_types.specs.declared.object_type.ObjectType.TheVariants as object
use Rattle.object_types.specs.Names.{type_name, type_named}
use Rattle.object_types.proofs.TypeLaws.{type_found}
use Rattle.object_values.specs.Values.{count_at, names_at, text_at}
use Rattle.conf_check.specs.Keys.{is_of, name_of, of_type}
use Rattle.conf_check.proofs.PlaceLaws.{place_below}
use Rattle.object_lists.specs.Listed.{both, firsts_behind, listed, listed_names, place_at}
use Rattle.object_lists.specs.Periods.{own_spans, period_of, periods, periods_among}
use Rattle.object_lists.specs.Receivers.{members_named, receivers, users_named, with_new}
use Rattle.object_lists.specs.Users.{in_groups, members, memberships, memberships_from, user_name, user_of, users}
use Rattle.object_lists.proofs.ListedLaws.{firsts_short, listed_short, type_short}
use Rattle.object_lists.proofs.NewLaws.{new_all, new_once}
use Rattle.typed_site.specs.Checks.{check_made, check_name, checkables, command_of, commands, host_check, hosts, one_at_least, service_check, service_made, services}
use Rattle.typed_site.specs.Depends.{depend_made, depend_name, depend_of, depends, full_name, target_at}
use Rattle.typed_site.specs.Notifies.{notifies, notify_made, notify_name, notify_of}
use Rattle.typed_site.specs.TypedSite.{PlainSettings, typed_site}
use Rattle.typed_site.proofs.DifferLaws.{Apart, Differ, Lacks, all_cons, append_differ, distinct, firsts_differ, kept_differ, no_items}

-- ---- what holds of each element that is made

all_made : {A B : Type 0} (P : B → Type 0) (f : A → B) → ((x : A) → P (f x)) → (xs : List A) → All P (map f xs)
all_made P f each [] = no_items P
all_made P f each (x ∷ xs) = all_cons P (f x) (map f xs) (each x) (all_made P f each xs)

all_kept : {A B : Type 0} (P : B → Type 0) (f : A → Option B) → ((x : A) (y : B) → f x ≡ Some y → P y) → (xs : List A) → All P (flat_map (λ x. option_to_list (f x)) xs)
all_kept P f each [] = no_items P
all_kept {A} {B} P f each (x ∷ xs) = by (all_kept P f each xs) (f x) refl
  where
    by : All P (flat_map (λ z. option_to_list (f z)) xs) → (y : Option B) → f x ≡ y → All P (option_to_list y ++ flat_map (λ z. option_to_list (f z)) xs)
    by rest None e = rest
    by rest (Some y) e = all_cons P y (flat_map (λ z. option_to_list (f z)) xs) (each x y e) rest

-- ---- lengths

kept_short : {A B : Type 0} (f : A → Option B) (xs : List A) → length (flat_map (λ x. option_to_list (f x)) xs) ≤ length xs
kept_short f [] = omega arith
kept_short {A} {B} f (x ∷ xs) = by (kept_short f xs) (f x)
  where
    by : length (flat_map (λ z. option_to_list (f z)) xs) ≤ length xs → (y : Option B) → length (option_to_list y ++ flat_map (λ z. option_to_list (f z)) xs) ≤ length (x ∷ xs)
    by rest None = omega arith
    by rest (Some y) = omega arith

-- objects of two types are no more than all
two_types : (p q : PlainObject → Bool) → ((o : PlainObject) → p o ≡ true → q o ≡ false) → (os : List PlainObject) → length (filter p os) + length (filter q os) ≤ length os
two_types p q never [] = omega arith
two_types p q never (o ∷ os) = by (two_types p q never os) (p o) (q o) (never o)
  where
    by : length (filter p os) + length (filter q os) ≤ length os → (b c : Bool) → (b ≡ true → c ≡ false)
        → length (cond b (o ∷ filter p os) (filter p os)) + length (cond c (o ∷ filter q os) (filter q os)) ≤ length (o ∷ os)
    by rest true true other = let wrong : true ≡ false = other refl in absurd (cc)
    by rest true false other = omega arith
    by rest false true other = omega arith
    by rest false false other = omega arith

names_differ : (t : ObjectType) (os : List PlainObject) → Differ (listed_names t os)
unfolding listed
names_differ t os = firsts_differ [] (of_type t os)

-- ---- places

place_inside : (names : List (List ℕ)) (t : ObjectType) (a : Attribute) (d : Data) → IsIndexOrNone (length names) (place_at names t a d)
place_inside names t a d = by (text_at t a d)
  where
    found : (name : List ℕ) (p : Option ℕ) → place_of name names ≡ p → IfSome p (IsIndex (length names))
    found name None e = tt
    found name (Some k) e = place_below name names k e

    by : (text : Option (List ℕ)) → IsIndexOrNone (length names) (option_and_then (λ name. place_of name names) text)
    by None = tt
    by (Some name) = found name (place_of name names) refl

some_inside : (count : ℕ) (p : Option ℕ) (k : ℕ) → IsIndexOrNone count p → p ≡ Some k → k < count
some_inside count None k h e = absurd (cc)
some_inside count (Some j) k h e = let same : j ≡ k = cc in subst (λ i. i < count) same h

target_inside : (names : List (List ℕ)) (t : ObjectType) (host service : Attribute) (d : Data) → IsIndexOrNone (length names) (target_at names t host service d)
target_inside names t host service d = by (text_at t host d)
  where
    found : (name : List ℕ) (p : Option ℕ) → place_of name names ≡ p → IfSome p (IsIndex (length names))
    found name None e = tt
    found name (Some k) e = place_below name names k e

    by : (text : Option (List ℕ)) → IsIndexOrNone (length names) (option_and_then (λ h. place_of (full_name h (text_at t service d)) names) text)
    by None = tt
    by (Some h) = found (full_name h (text_at t service d)) (place_of (full_name h (text_at t service d)) names) refl

-- what two values make comes of both
both_made : {A B C : Type 0} (make : A → B → C) (a : Option A) (b : Option B) (c : C) → both make a b ≡ Some c → (x : A) × (y : B) × (a ≡ Some x) × (b ≡ Some y) × (c ≡ make x y)
both_made make None b c e = absurd (cc)
both_made make (Some x) None c e = absurd (cc)
both_made make (Some x) (Some y) c e = let same : make x y ≡ c = cc in (x, y, refl, refl, sym same)

map_made : {A B : Type 0} (make : A → B) (a : Option A) (b : B) → option_map make a ≡ Some b → (x : A) × (a ≡ Some x) × (b ≡ make x)
map_made make None b e = absurd (cc)
map_made make (Some x) b e = let same : make x ≡ b = cc in (x, refl, sym same)

-- ---- hosts and services

some_attempt : (n : ℕ) → 1 ≤ one_at_least n
some_attempt zero = omega arith
some_attempt (suc n) = let least : 1 ≤ suc n = omega arith in subst (λ b. 1 ≤ cond b 1 (suc n)) (sym (eqb-suc-zero n)) least

-- a checkable is named so, and what it stands on is there
record IsMade (commands periods : ℕ) (name : List ℕ) (c : PlainCheck) : Type 0 where
  named : c.name ≡ name
  attempts : 1 ≤ c.max
  command : c.command < commands
  period : IsIndexOrNone periods c.period

made : (commands : ℕ) (periods : List (List ℕ)) (t : ObjectType) (o : PlainObject) (host : Option ℕ) (command : ℕ) → command < commands → IsMade commands (length periods) o.name (check_made periods t o host command)
made commands periods t o host command low = record {
  named = refl;
  attempts = some_attempt (count_at t attribute.MaxCheckAttempts o.tree);
  command = low;
  period = place_inside periods t attribute.CheckPeriod o.tree;
}

record IsHost (commands periods : ℕ) (name : List ℕ) (c : PlainCheck) : Type 0 where
  is : IsMade commands periods name c
  none : c.host ≡ None

host_is : (commands periods : List (List ℕ)) (o : PlainObject) (c : PlainCheck) → host_check commands periods o ≡ Some c → IsHost (length commands) (length periods) o.name c
host_is commands periods o c e =
    let from = map_made (check_made periods object.Host o None) (place_at commands object.Host attribute.CheckCommand o.tree) c e in
    let low : from.0 < length commands = some_inside (length commands) (place_at commands object.Host attribute.CheckCommand o.tree) from.0 (place_inside commands object.Host attribute.CheckCommand o.tree) from.1 in
    subst (λ x. IsHost (length commands) (length periods) o.name x) (sym from.2) (record { is = made (length commands) periods object.Host o None from.0 low; none = refl })

record IsService (commands periods : ℕ) (hosts : List (List ℕ)) (name : List ℕ) (c : PlainCheck) : Type 0 where
  is : IsMade commands periods name c
  host : IsSomeAnd c.host (IsIndex (length hosts))
  other : Lacks c.name hosts

cond_some : {A : Type 0} (b : Bool) (x : Option A) (c : A) → cond b None x ≡ Some c → (b ≡ false) × (x ≡ Some c)
cond_some true x c e = absurd (cc)
cond_some false x c e = (refl, e)

service_is : (commands periods hosts : List (List ℕ)) (o : PlainObject) (c : PlainCheck) → service_check commands periods hosts o ≡ Some c → IsService (length commands) (length periods) hosts o.name c
service_is commands periods hosts o c e =
    let host_at = place_at hosts object.Service attribute.HostName o.tree in
    let command_at = place_at commands object.Service attribute.CheckCommand o.tree in
    let other = cond_some (list_any (bytes_eq o.name) hosts) (both (service_made periods o) host_at command_at) c e in
    let from = both_made (service_made periods o) host_at command_at c other.1 in
    let host = from.0 in
    let command = from.1 in
    let inside : host < length hosts = some_inside (length hosts) host_at host (place_inside hosts object.Service attribute.HostName o.tree) from.2 in
    let low : command < length commands = some_inside (length commands) command_at command (place_inside commands object.Service attribute.CheckCommand o.tree) from.3 in
    subst (λ x. IsService (length commands) (length periods) hosts o.name x) (sym from.4) (record {
      is = made (length commands) periods object.Service o (Some host) command low;
      host = inside;
      other = other.0;
    })

-- a property of all hosts and all services of some objects
hosts_all : (os : List PlainObject) (P : PlainCheck → Type 0) → ((name : List ℕ) (c : PlainCheck) → IsHost (length (listed_names object.CheckCommand os)) (length (listed_names object.TimePeriod os)) name c → P c) → All P (hosts os)
unfolding hosts
hosts_all os P each =
    all_kept P (host_check (listed_names object.CheckCommand os) (listed_names object.TimePeriod os))
    (λ o c e. each o.name c (host_is (listed_names object.CheckCommand os) (listed_names object.TimePeriod os) o c e)) (listed object.Host os)

services_all : (os : List PlainObject) (P : PlainCheck → Type 0)
    → ((name : List ℕ) (c : PlainCheck) → IsService (length (listed_names object.CheckCommand os)) (length (listed_names object.TimePeriod os)) (map check_name (hosts os)) name c → P c) → All P (services os)
unfolding services
services_all os P each =
    all_kept P (service_check (listed_names object.CheckCommand os) (listed_names object.TimePeriod os) (map check_name (hosts os)))
    (λ o c e. each o.name c (service_is (listed_names object.CheckCommand os) (listed_names object.TimePeriod os) (map check_name (hosts os)) o c e)) (listed object.Service os)

checks_all : (os : List PlainObject) (P : PlainCheck → Type 0) → ((name : List ℕ) (c : PlainCheck) → IsMade (length (listed_names object.CheckCommand os)) (length (listed_names object.TimePeriod os)) name c → P c) → All P (checkables os)
unfolding checkables
checks_all os P each = All-append P (hosts os) (services os) (hosts_all os P (λ name c h. each name c h.is)) (services_all os P (λ name c h. each name c h.is))

-- their names differ
host_names_differ : (os : List PlainObject) → Differ (map check_name (hosts os))
unfolding hosts
host_names_differ os =
    kept_differ (host_check (listed_names object.CheckCommand os) (listed_names object.TimePeriod os)) check_name
    (λ o c e. (host_is (listed_names object.CheckCommand os) (listed_names object.TimePeriod os) o c e).is.named) (listed object.Host os) (names_differ object.Host os)

service_names_differ : (os : List PlainObject) → Differ (map check_name (services os))
unfolding services
service_names_differ os =
    kept_differ (service_check (listed_names object.CheckCommand os) (listed_names object.TimePeriod os) (map check_name (hosts os))) check_name
    (λ o c e. (service_is (listed_names object.CheckCommand os) (listed_names object.TimePeriod os) (map check_name (hosts os)) o c e).is.named) (listed object.Service os) (names_differ object.Service os)

each_apart : (names : List (List ℕ)) (cs : List PlainCheck) → All (λ (c : PlainCheck). Lacks c.name names) cs → Apart (map check_name cs) names
each_apart names [] h = tt
each_apart names (c ∷ cs) h = (h 0 c (omega arith), each_apart names cs (λ k d low. h (suc k) d (omega arith)))

map_append : {A B : Type 0} (f : A → B) (xs ys : List A) → map f (xs ++ ys) ≡ map f xs ++ map f ys
map_append f [] ys = refl
map_append f (x ∷ xs) ys = ap (λ zs. f x ∷ zs) (map_append f xs ys)

pub names_are_apart : (os : List PlainObject) → Differ (map check_name (hosts os) ++ map check_name (services os))
names_are_apart os =
    append_differ (map check_name (hosts os)) (map check_name (services os)) (host_names_differ os) (service_names_differ os)
    (each_apart (map check_name (hosts os)) (services os) (services_all os (λ (c : PlainCheck). Lacks c.name (map check_name (hosts os))) (λ name c h. h.other)))

pub hosts_are_distinct : (os : List PlainObject) → AreDistinct (map check_name (hosts os))
hosts_are_distinct os = distinct (map check_name (hosts os)) (host_names_differ os)

pub all_distinct : (os : List PlainObject) → AreDistinct (map check_name (hosts os) ++ map check_name (services os))
all_distinct os = distinct (map check_name (hosts os) ++ map check_name (services os)) (names_are_apart os)

checks_distinct : (os : List PlainObject) → AreDistinct (map check_name (checkables os))
unfolding checkables
checks_distinct os = subst AreDistinct (sym (map_append check_name (hosts os) (services os))) (all_distinct os)

in_order : (os : List PlainObject) → AreHostsThenServices (checkables os)
unfolding checkables
in_order os = record {
  hosts = hosts os;
  services = services os;
  in_order = refl;
  hosts_have_none = hosts_all os (λ (c : PlainCheck). c.host ≡ None) (λ name c h. h.none);
  services_have_one =
      subst (λ n. All (λ (c : PlainCheck). IsSomeAnd c.host (IsIndex n)) (services os)) (length-map (hosts os) check_name)
      (services_all os (λ (c : PlainCheck). IsSomeAnd c.host (IsIndex (length (map check_name (hosts os))))) (λ name c h. h.host));
}

commands_count : (os : List PlainObject) → length (listed_names object.CheckCommand os) ≡ length (commands os)
unfolding commands
commands_count os = length-map (listed object.CheckCommand os) name_of ∙ sym (length-map (listed object.CheckCommand os) command_of)

periods_count : (os : List PlainObject) → length (listed_names object.TimePeriod os) ≡ length (periods os)
unfolding periods
periods_count os =
    let ps = listed object.TimePeriod os in
    length-map ps name_of ∙ sym (length-map ps (period_of (map name_of ps) (map own_spans ps)))

checks_count : (os : List PlainObject) → length (map check_name (checkables os)) ≡ length (checkables os)
checks_count os = length-map (checkables os) check_name

users_count : (os : List PlainObject) → length (listed_names object.User os) ≡ length (users os)
unfolding users
users_count os = length-map (listed object.User os) name_of ∙ sym (length-map (listed object.User os) (user_of (listed_names object.TimePeriod os)))

two_kinds : (kind : List ℕ) → bytes_eq kind (type_name object.Host) ≡ true → bytes_eq kind (type_name object.Service) ≡ true → ⊥
two_kinds kind h s =
    let same : type_name object.Host ≡ type_name object.Service = sym ((bytes_eq-Decides kind (type_name object.Host)).0 h) ∙ (bytes_eq-Decides kind (type_name object.Service)).0 s in
    let wrong : Some object.Host ≡ Some object.Service = sym (type_found object.Host) ∙ ap type_named same ∙ type_found object.Service in
    cc

hosts_short : (os : List PlainObject) → length (hosts os) ≤ length (of_type object.Host os)
unfolding hosts
hosts_short os =
    let a = kept_short (host_check (listed_names object.CheckCommand os) (listed_names object.TimePeriod os)) (listed object.Host os) in
    let b = listed_short object.Host os in
    omega arith

services_short : (os : List PlainObject) → length (services os) ≤ length (of_type object.Service os)
unfolding services
services_short os =
    let a = kept_short (service_check (listed_names object.CheckCommand os) (listed_names object.TimePeriod os) (map check_name (hosts os))) (listed object.Service os) in
    let b = listed_short object.Service os in
    omega arith

is_host_or_service : (o : PlainObject) → is_of object.Host o ≡ true → is_of object.Service o ≡ false
is_host_or_service o h = by (is_of object.Service o) refl
  where
    by : (b : Bool) → is_of object.Service o ≡ b → is_of object.Service o ≡ false
    by false e = e
    by true e = absurd (two_kinds o.kind h e)

pub few_checks : (os : List PlainObject) → length (checkables os) ≤ length os
unfolding checkables
few_checks os =
    let first = hosts_short os in
    let then_ = services_short os in
    let all = two_types (is_of object.Host) (is_of object.Service) is_host_or_service os in
    omega (arith, length-append (hosts os) (services os), first, then_, all)

-- ---- dependencies

record IsDepend (checkables periods : ℕ) (name : List ℕ) (d : DependSpec) : Type 0 where
  named : d.name ≡ name
  joins : JoinsCheckables checkables periods d

depend_is : (periods names : List (List ℕ)) (o : PlainObject) (d : DependSpec) → depend_of periods names o ≡ Some d → IsDepend (length names) (length periods) o.name d
depend_is periods names o d e =
    let child_at = target_at names object.Dependency attribute.ChildHostName attribute.ChildServiceName o.tree in
    let parent_at = target_at names object.Dependency attribute.ParentHostName attribute.ParentServiceName o.tree in
    let from = both_made (depend_made periods o) child_at parent_at d e in
    let child : from.0 < length names = some_inside (length names) child_at from.0 (target_inside names object.Dependency attribute.ChildHostName attribute.ChildServiceName o.tree) from.2 in
    let parent : from.1 < length names = some_inside (length names) parent_at from.1 (target_inside names object.Dependency attribute.ParentHostName attribute.ParentServiceName o.tree) from.3 in
    subst (λ x. IsDepend (length names) (length periods) o.name x) (sym from.4) (record {
      named = refl;
      joins = record { child = child; parent = parent; period = place_inside periods object.Dependency attribute.Period o.tree };
    })

depends_all : (os : List PlainObject) → All (JoinsCheckables (length (checkables os)) (length (periods os))) (depends os)
unfolding depends
depends_all os =
    subst (λ n. All (JoinsCheckables n (length (periods os))) (depends os)) (checks_count os)
    (subst (λ n. All (JoinsCheckables (length (map check_name (checkables os))) n) (depends os)) (periods_count os)
    (all_kept (JoinsCheckables (length (map check_name (checkables os))) (length (listed_names object.TimePeriod os))) (depend_of (listed_names object.TimePeriod os) (map check_name (checkables os)))
    (λ o d e. (depend_is (listed_names object.TimePeriod os) (map check_name (checkables os)) o d e).joins) (listed object.Dependency os)))

depends_differ : (os : List PlainObject) → AreDistinct (map (λ (d : DependSpec). d.name) (depends os))
unfolding depends
depends_differ os =
    distinct (map depend_name (depends os))
    (kept_differ (depend_of (listed_names object.TimePeriod os) (map check_name (checkables os))) depend_name
    (λ o d e. (depend_is (listed_names object.TimePeriod os) (map check_name (checkables os)) o d e).named) (listed object.Dependency os) (names_differ object.Dependency os))

depends_short : (os : List PlainObject) → length (depends os) ≤ length os
unfolding depends
depends_short os =
    let a = kept_short (depend_of (listed_names object.TimePeriod os) (map check_name (checkables os))) (listed object.Dependency os) in
    let b = listed_short object.Dependency os in
    let c = type_short object.Dependency os in
    omega arith

-- ---- users

users_all : (os : List PlainObject) → All (λ (u : UserSpec). IsIndexOrNone (length (periods os)) u.period) (users os)
unfolding users
users_all os =
    subst (λ n. All (λ (u : UserSpec). IsIndexOrNone n u.period) (users os)) (periods_count os)
    (all_made (λ (u : UserSpec). IsIndexOrNone (length (listed_names object.TimePeriod os)) u.period) (user_of (listed_names object.TimePeriod os))
    (λ o. place_inside (listed_names object.TimePeriod os) object.User attribute.Period o.tree) (listed object.User os))

same_names : (periods : List (List ℕ)) (os : List PlainObject) → map name_of os ≡ map (λ (u : UserSpec). u.name) (map (user_of periods) os)
same_names periods [] = refl
same_names periods (o ∷ os) = ap (λ ns. o.name ∷ ns) (same_names periods os)

users_differ : (os : List PlainObject) → AreDistinct (map (λ (u : UserSpec). u.name) (users os))
unfolding users
users_differ os = subst AreDistinct (same_names (listed_names object.TimePeriod os) (listed object.User os)) (distinct (listed_names object.User os) (names_differ object.User os))

users_short : (os : List PlainObject) → length (users os) ≤ length os
unfolding users
users_short os =
    let a = length-map (listed object.User os) (user_of (listed_names object.TimePeriod os)) in
    let b = listed_short object.User os in
    let c = type_short object.User os in
    omega arith

-- ---- the members of groups are users

groups_inside : (k count : ℕ) (groups : List (List ℕ)) → k < count → All (λ (m : List ℕ × ℕ). m.1 < count) (in_groups k groups)
groups_inside k count groups low = all_made (λ (m : List ℕ × ℕ). m.1 < count) (λ (group : List ℕ). (group, k)) (λ group. low) groups

memberships_inside : (k : ℕ) (os : List PlainObject) (count : ℕ) → k + length os ≤ count → All (λ (m : List ℕ × ℕ). m.1 < count) (memberships_from k os)
memberships_inside k [] count low = no_items (λ (m : List ℕ × ℕ). m.1 < count)
memberships_inside k (o ∷ os) count low =
    All-append (λ (m : List ℕ × ℕ). m.1 < count) (in_groups k (names_at object.User attribute.Groups o.tree)) (memberships_from (suc k) os)
    (groups_inside k count (names_at object.User attribute.Groups o.tree) (omega arith)) (memberships_inside (suc k) os count (omega arith))

members_inside : (ms : List (List ℕ × ℕ)) (count : ℕ) (group : List ℕ) → All (λ (m : List ℕ × ℕ). m.1 < count) ms → All (λ k. k < count) (members ms group)
members_inside [] count group h = no_items (λ k. k < count)
members_inside (m ∷ ms) count group h = by (members_inside ms count group (λ k d low. h (suc k) d (omega arith))) (bytes_eq group m.0)
  where
    by : All (λ k. k < count) (members ms group) → (b : Bool)
        → All (λ k. k < count) (map (λ (p : List ℕ × ℕ). p.1) (cond b (m ∷ filter (λ (p : List ℕ × ℕ). bytes_eq group p.0) ms) (filter (λ (p : List ℕ × ℕ). bytes_eq group p.0) ms)))
    by rest true = all_cons (λ k. k < count) m.1 (members ms group) (h 0 m (omega arith)) rest
    by rest false = rest

named_inside : (ms : List (List ℕ × ℕ)) (count : ℕ) (groups : List (List ℕ)) → All (λ (m : List ℕ × ℕ). m.1 < count) ms → All (λ k. k < count) (members_named ms groups)
named_inside ms count [] h = no_items (λ k. k < count)
named_inside ms count (g ∷ gs) h = All-append (λ k. k < count) (members ms g) (members_named ms gs) (members_inside ms count g h) (named_inside ms count gs h)

users_inside : (users : List (List ℕ)) (named : List (List ℕ)) → All (λ k. k < length users) (users_named users named)
users_inside users named = all_kept (λ k. k < length users) (λ name. place_of name users) (λ name k e. place_below name users k e) named

told_inside : (users : List (List ℕ)) (ms : List (List ℕ × ℕ)) (d : Data) → All (λ (m : List ℕ × ℕ). m.1 < length users) ms → All (IsIndex (length users)) (receivers users ms d)
told_inside users ms d h =
    new_all (λ k. k < length users) [] (users_named users (names_at object.Notification attribute.Users d) ++ members_named ms (names_at object.Notification attribute.UserGroups d))
    (no_items (λ k. k < length users))
    (All-append (λ k. k < length users) (users_named users (names_at object.Notification attribute.Users d)) (members_named ms (names_at object.Notification attribute.UserGroups d))
    (users_inside users (names_at object.Notification attribute.Users d)) (named_inside ms (length users) (names_at object.Notification attribute.UserGroups d) h))

all_members : (os : List PlainObject) → All (λ (m : List ℕ × ℕ). m.1 < length (listed_names object.User os)) (memberships os)
unfolding memberships
all_members os =
    let same = length-map (listed object.User os) name_of in
    memberships_inside 0 (listed object.User os) (length (listed_names object.User os)) (omega arith)

-- ---- notifications

record IsNotify (checkables users periods : ℕ) (name : List ℕ) (n : NotifySpec) : Type 0 where
  named : n.name ≡ name
  tells : TellsUsers checkables users periods n

notify_is : (periods names users : List (List ℕ)) (ms : List (List ℕ × ℕ)) (o : PlainObject) (n : NotifySpec) → All (λ (m : List ℕ × ℕ). m.1 < length users) ms → notify_of periods names users ms o ≡ Some n
    → IsNotify (length names) (length users) (length periods) o.name n
notify_is periods names users ms o n inside e =
    let at = target_at names object.Notification attribute.HostName attribute.ServiceName o.tree in
    let from = map_made (notify_made periods o (receivers users ms o.tree)) at n e in
    let low : from.0 < length names = some_inside (length names) at from.0 (target_inside names object.Notification attribute.HostName attribute.ServiceName o.tree) from.1 in
    subst (λ x. IsNotify (length names) (length users) (length periods) o.name x) (sym from.2) (record {
      named = refl;
      tells = record {
        checkable = low;
        receivers = told_inside users ms o.tree inside;
        once = new_once (users_named users (names_at object.Notification attribute.Users o.tree) ++ members_named ms (names_at object.Notification attribute.UserGroups o.tree));
        period = place_inside periods object.Notification attribute.Period o.tree;
      };
    })

notifies_all : (os : List PlainObject) → All (TellsUsers (length (checkables os)) (length (users os)) (length (periods os))) (notifies os)
unfolding notifies
notifies_all os =
    subst (λ n. All (TellsUsers n (length (users os)) (length (periods os))) (notifies os)) (checks_count os)
    (subst (λ n. All (TellsUsers (length (map check_name (checkables os))) n (length (periods os))) (notifies os)) (users_count os)
    (subst (λ n. All (TellsUsers (length (map check_name (checkables os))) (length (listed_names object.User os)) n) (notifies os)) (periods_count os)
    (all_kept (TellsUsers (length (map check_name (checkables os))) (length (listed_names object.User os)) (length (listed_names object.TimePeriod os)))
    (notify_of (listed_names object.TimePeriod os) (map check_name (checkables os)) (listed_names object.User os) (memberships os))
    (λ o n e. (notify_is (listed_names object.TimePeriod os) (map check_name (checkables os)) (listed_names object.User os) (memberships os) o n (all_members os) e).tells) (listed object.Notification os))))

notifies_differ : (os : List PlainObject) → AreDistinct (map (λ (n : NotifySpec). n.name) (notifies os))
unfolding notifies
notifies_differ os =
    distinct (map notify_name (notifies os))
    (kept_differ (notify_of (listed_names object.TimePeriod os) (map check_name (checkables os)) (listed_names object.User os) (memberships os)) notify_name
    (λ o n e. (notify_is (listed_names object.TimePeriod os) (map check_name (checkables os)) (listed_names object.User os) (memberships os) o n (all_members os) e).named)
    (listed object.Notification os) (names_differ object.Notification os))

notifies_short : (os : List PlainObject) → length (notifies os) ≤ length os
unfolding notifies
notifies_short os =
    let a = kept_short (notify_of (listed_names object.TimePeriod os) (map check_name (checkables os)) (listed_names object.User os) (memberships os)) (listed object.Notification os) in
    let b = listed_short object.Notification os in
    let c = type_short object.Notification os in
    omega arith

-- ---- the site

-- the names of its checkables
named : (cs : List PlainCheck) → map check_name cs ≡ map (λ (c : PlainCheck). c.name) cs
named cs = refl

-- a typed site has a checkable for each of its names, whatever is wrong with its objects
pub has_names : (files : List (List ℕ)) (settings : PlainSettings) (os : List PlainObject) → HasNames (typed_site files settings os)
unfolding typed_site
has_names files settings os = record { named = named (checkables os); distinct = checks_distinct os }

pub sound : (files : List (List ℕ)) (settings : PlainSettings) (os : List PlainObject) → All (λ (o : PlainObject). o.place.file < length files) os → length os < 2 ^ 32 - 2
    → 1 ≤ settings.max_orders → settings.max_orders ≤ 65535 → IsSound (typed_site files settings os)
unfolding typed_site
sound files settings os placed few some most = record {
  in_order = in_order os;
  names = has_names files settings os;
  attempts = checks_all os (λ (c : PlainCheck). 1 ≤ c.max) (λ name c h. h.attempts);
  places = placed;
  commands = subst (λ n. All (λ (c : PlainCheck). c.command < n) (checkables os)) (commands_count os)
      (checks_all os (λ (c : PlainCheck). c.command < length (listed_names object.CheckCommand os)) (λ name c h. h.command));
  periods = subst (λ n. All (λ (c : PlainCheck). IsIndexOrNone n c.period) (checkables os)) (periods_count os)
      (checks_all os (λ (c : PlainCheck). IsIndexOrNone (length (listed_names object.TimePeriod os)) c.period) (λ name c h. h.period));
  depends = depends_all os;
  depend_names = depends_differ os;
  notifies = notifies_all os;
  notify_names = notifies_differ os;
  users = users_all os;
  user_names = users_differ os;
  few_depends = let a = depends_short os in omega arith;
  few_notifies = let a = notifies_short os in omega arith;
  few_users = let a = users_short os in omega arith;
  some_order = some;
  most_orders = most;
}
