-- What the parts of a site come to together.
use Rattle.std.proofs.Common.{◌≡◌, ◌≢◌, ℕ, zero, suc, ◌+◌, ◌-◌, ◌^◌, ◌<◌, ◌≤◌, List, [], ◌∷◌, ◌++◌, length, map, All, AllPairs, Option, refl, sym, ap, ◌∙◌, subst, arith, length-append}
use Rattle.std.specs.Borrow.{Bor}
use Rattle.std.specs.List.{flat_map}
use Rattle.std.specs.Option.{option_to_list}
use Rattle.std.proofs.lemmas.List.{length-map}
use Rattle.site_base.specs.declared.period_spec.PeriodSpec.{PeriodSpec}
use Rattle.site_model.specs.PlainSite.{PlainCheck, PlainCommand, PlainObject, PlainSite, check_view, object_view}
use Rattle.site_model.specs.Sound.{IsSound}
use Rattle.site_model.specs.declared.check_spec.CheckSpec.{CheckSpec}
use Rattle.site_model.specs.declared.depend_spec.DependSpec.{DependSpec}
use Rattle.site_model.specs.declared.notify_spec.NotifySpec.{NotifySpec}
use Rattle.site_model.specs.declared.object.Object.{Object}
use Rattle.site_model.specs.declared.user_spec.UserSpec.{UserSpec}
use Rattle.object_types.specs.declared.object_type.ObjectType.{ObjectType}
use Rattle.object_types.specs.declared.object_type.ObjectType.TheVariants as object
use Rattle.object_lists.specs.Listed.{lent_view, listed, listed_names}
use Rattle.object_lists.specs.Periods.{periods}
use Rattle.object_lists.specs.Users.{memberships, memberships_from, user_of, users}
use Rattle.object_lists.proofs.ListedLaws.{listed_few}
use Rattle.typed_site.specs.Checks.{check_name, checkables, commands, host_check, hosts, service_check, services}
use Rattle.typed_site.specs.Depends.{depend_of, depends}
use Rattle.typed_site.specs.Notifies.{notifies, notify_of}
use Rattle.typed_site.specs.TypedSite.{PlainSettings, typed_site}
use Rattle.typed_site.proofs.DifferLaws.{all_cons, no_items}
use Rattle.typed_site.proofs.SoundLaws.{all_distinct, few_checks, hosts_are_distinct, sound}

pub hosts_from : (os : List PlainObject) (commands periods : List (List ℕ)) (lent items : List (Bor Object)) (cs : List PlainCheck) → commands ≡ listed_names object.CheckCommand os → periods ≡ listed_names object.TimePeriod os
    → lent ≡ items → lent_view items ≡ listed object.Host os → cs ≡ flat_map (λ o. option_to_list (host_check commands periods o)) (lent_view lent) → cs ≡ hosts os
unfolding hosts
hosts_from os commands periods lent items cs a b l c d =
    d
    ∙ ap (λ ns. flat_map (λ o. option_to_list (host_check ns periods o)) (lent_view lent)) a
    ∙ ap (λ ns. flat_map (λ o. option_to_list (host_check (listed_names object.CheckCommand os) ns o)) (lent_view lent)) b
    ∙ ap (λ xs. flat_map (λ o. option_to_list (host_check (listed_names object.CheckCommand os) (listed_names object.TimePeriod os) o)) xs) (ap lent_view l ∙ c)

pub services_from : (os : List PlainObject) (commands periods names : List (List ℕ)) (lent items : List (Bor Object)) (cs : List PlainCheck) → commands ≡ listed_names object.CheckCommand os
    → periods ≡ listed_names object.TimePeriod os → names ≡ map check_name (hosts os) → lent ≡ items → lent_view items ≡ listed object.Service os → cs ≡ flat_map (λ o. option_to_list (service_check commands periods names o)) (lent_view lent) → cs ≡ services os
unfolding services
services_from os commands periods names lent items cs a b e l c d =
    d
    ∙ ap (λ ns. flat_map (λ o. option_to_list (service_check ns periods names o)) (lent_view lent)) a
    ∙ ap (λ ns. flat_map (λ o. option_to_list (service_check (listed_names object.CheckCommand os) ns names o)) (lent_view lent)) b
    ∙ ap (λ ns. flat_map (λ o. option_to_list (service_check (listed_names object.CheckCommand os) (listed_names object.TimePeriod os) ns o)) (lent_view lent)) e
    ∙ ap (λ xs. flat_map (λ o. option_to_list (service_check (listed_names object.CheckCommand os) (listed_names object.TimePeriod os) (map check_name (hosts os)) o)) xs) (ap lent_view l ∙ c)

pub depends_from : (os : List PlainObject) (periods names : List (List ℕ)) (lent items : List (Bor Object)) (ds : List DependSpec) → periods ≡ listed_names object.TimePeriod os → names ≡ map check_name (checkables os)
    → lent ≡ items → lent_view items ≡ listed object.Dependency os → ds ≡ flat_map (λ o. option_to_list (depend_of periods names o)) (lent_view lent) → ds ≡ depends os
unfolding depends
depends_from os periods names lent items ds b e l c d =
    d
    ∙ ap (λ ns. flat_map (λ o. option_to_list (depend_of ns names o)) (lent_view lent)) b
    ∙ ap (λ ns. flat_map (λ o. option_to_list (depend_of (listed_names object.TimePeriod os) ns o)) (lent_view lent)) e
    ∙ ap (λ xs. flat_map (λ o. option_to_list (depend_of (listed_names object.TimePeriod os) (map check_name (checkables os)) o)) xs) (ap lent_view l ∙ c)

pub notifies_from : (os : List PlainObject) (periods names users : List (List ℕ)) (ms : List (List ℕ × ℕ)) (lent items : List (Bor Object)) (ds : List NotifySpec) → periods ≡ listed_names object.TimePeriod os
    → names ≡ map check_name (checkables os) → users ≡ listed_names object.User os → ms ≡ memberships os → lent ≡ items → lent_view items ≡ listed object.Notification os
    → ds ≡ flat_map (λ o. option_to_list (notify_of periods names users ms o)) (lent_view lent) → ds ≡ notifies os
unfolding notifies
notifies_from os periods names users ms lent items ds b e u m l c d =
    d
    ∙ ap (λ ns. flat_map (λ o. option_to_list (notify_of ns names users ms o)) (lent_view lent)) b
    ∙ ap (λ ns. flat_map (λ o. option_to_list (notify_of (listed_names object.TimePeriod os) ns users ms o)) (lent_view lent)) e
    ∙ ap (λ ns. flat_map (λ o. option_to_list (notify_of (listed_names object.TimePeriod os) (map check_name (checkables os)) ns ms o)) (lent_view lent)) u
    ∙ ap (λ ps. flat_map (λ o. option_to_list (notify_of (listed_names object.TimePeriod os) (map check_name (checkables os)) (listed_names object.User os) ps o)) (lent_view lent)) m
    ∙ ap (λ xs. flat_map (λ o. option_to_list (notify_of (listed_names object.TimePeriod os) (map check_name (checkables os)) (listed_names object.User os) (memberships os) o)) xs) (ap lent_view l ∙ c)

pub users_from : (os : List PlainObject) (periods : List (List ℕ)) (found : List PlainObject) (us : List UserSpec) → periods ≡ listed_names object.TimePeriod os → found ≡ listed object.User os
    → us ≡ map (user_of periods) found → us ≡ users os
unfolding users
users_from os periods found us b c d = d ∙ ap (λ ns. map (user_of ns) found) b ∙ ap (map (user_of (listed_names object.TimePeriod os))) c

pub memberships_are : (os found : List PlainObject) → found ≡ listed object.User os → memberships_from 0 found ≡ memberships os
unfolding memberships
memberships_are os found c = ap (memberships_from 0) c

-- ---- names that may be added

pub hosts_apart : (os : List PlainObject) (names : List (List ℕ)) (cs : List PlainCheck) → names ≡ [] → cs ≡ hosts os → AllPairs (λ x y. x ≢ y) (names ++ map check_name cs)
hosts_apart os names cs none is = subst (AllPairs (λ x y. x ≢ y)) (sym (ap (λ ns. ns ++ map check_name cs) none ∙ ap (map check_name) is)) (hosts_are_distinct os)

pub services_apart : (os : List PlainObject) (names : List (List ℕ)) (cs : List PlainCheck) → names ≡ map check_name (hosts os) → cs ≡ services os → AllPairs (λ x y. x ≢ y) (names ++ map check_name cs)
services_apart os names cs first is =
    subst (AllPairs (λ x y. x ≢ y)) (sym (ap (λ ns. ns ++ map check_name cs) first ∙ ap (λ xs. map check_name (hosts os) ++ map check_name xs) is)) (all_distinct os)

-- there are no more of them than objects

pub hosts_few : (os : List PlainObject) (names : List (List ℕ)) (specs : List CheckSpec) → names ≡ [] → map check_view specs ≡ hosts os → length names + length specs ≤ length os
unfolding checkables
hosts_few os names specs none is =
    let all = few_checks os in
    let split : length (hosts os ++ services os) ≡ length (hosts os) + length (services os) = length-append (hosts os) (services os) in
    let same : length (map check_view specs) ≡ length (hosts os) = ap length is in
    let empty : length names ≡ 0 = ap length none in
    omega (arith, all, split, same, empty, length-map specs check_view)

pub services_few : (os : List PlainObject) (names : List (List ℕ)) (specs : List CheckSpec) → names ≡ map check_name (hosts os) → map check_view specs ≡ services os → length names + length specs ≤ length os
unfolding checkables
services_few os names specs first is =
    let all = few_checks os in
    let split : length (hosts os ++ services os) ≡ length (hosts os) + length (services os) = length-append (hosts os) (services os) in
    let same : length (map check_view specs) ≡ length (services os) = ap length is in
    let before : length names ≡ length (map check_name (hosts os)) = ap length first in
    omega (arith, all, split, same, before, length-map (hosts os) check_name, length-map specs check_view)

pub lent_few : (t : ObjectType) (os : List PlainObject) (lent : List (Bor Object)) → lent_view lent ≡ listed t os → length lent ≤ length os
lent_few t os lent is =
    let all = listed_few t os in
    let same : length (lent_view lent) ≡ length (listed t os) = ap length is in
    omega (arith, all, same, length-map lent (λ (o : Bor Object). object_view o.now))

map_append : {A B : Type 0} (f : A → B) (xs ys : List A) → map f (xs ++ ys) ≡ map f xs ++ map f ys
map_append f [] ys = refl
map_append f (x ∷ xs) ys = ap (λ zs. f x ∷ zs) (map_append f xs ys)

pub checks_from : (os : List PlainObject) (hs ss : List PlainCheck) → hs ≡ hosts os → ss ≡ services os → hs ++ ss ≡ checkables os
unfolding checkables
checks_from os hs ss h s = ap (λ xs. xs ++ ss) h ∙ ap (λ xs. hosts os ++ xs) s

pub names_from : (os : List PlainObject) (hs ss : List (List ℕ)) → hs ≡ map check_name (hosts os) → ss ≡ map check_name (services os) → hs ++ ss ≡ map check_name (checkables os)
unfolding checkables
names_from os hs ss h s = ap (λ xs. xs ++ ss) h ∙ ap (λ xs. map check_name (hosts os) ++ xs) s ∙ sym (map_append check_name (hosts os) (services os))

-- ---- the site

abbrev together : List (List ℕ) → PlainSettings → List PlainObject → List PlainCheck → List DependSpec → List NotifySpec → List UserSpec → List PlainCommand → List PeriodSpec → List (List ℕ) → PlainSite
together files settings os cs ds ns us ms ps names = record {
  files = files;
  objects = os;
  checkables = cs;
  depends = ds;
  notifies = ns;
  users = us;
  commands = ms;
  periods = ps;
  names = names;
  vars = settings.vars;
  zone = settings.zone;
  max_orders = settings.max_orders;
}

pub same_site : (files : List (List ℕ)) (settings : PlainSettings) (os : List PlainObject) (cs : List PlainCheck) (ds : List DependSpec) (ns : List NotifySpec) (us : List UserSpec) (ms : List PlainCommand)
    (ps : List PeriodSpec) (names : List (List ℕ)) → cs ≡ checkables os → ds ≡ depends os → ns ≡ notifies os → us ≡ users os → ms ≡ commands os → ps ≡ periods os → names ≡ map check_name (checkables os)
    → together files settings os cs ds ns us ms ps names ≡ typed_site files settings os
unfolding typed_site
same_site files settings os cs ds ns us ms ps names a b c d e f g = λ i. together files settings os (a i) (b i) (c i) (d i) (e i) (f i) (g i)

all_seen : (P : PlainObject → Type 0) (os : List Object) → All (λ o. P (object_view o)) os → All P (map object_view os)
all_seen P [] h = no_items P
all_seen P (o ∷ os) h = all_cons P (object_view o) (map object_view os) (h 0 o (omega arith)) (all_seen P os (λ k d low. h (suc k) d (omega (arith, low))))

pub is_sound : (files : List (List ℕ)) (settings : PlainSettings) (os : List Object) (s : PlainSite) → All (λ (o : Object). o.place.file < length files) os → length os < 2 ^ 32 - 2
    → 1 ≤ settings.max_orders → settings.max_orders ≤ 65535 → s ≡ typed_site files settings (map object_view os) → IsSound s
is_sound files settings os s placed few some most is =
    subst IsSound (sym is)
    (sound files settings (map object_view os) (all_seen (λ (o : PlainObject). o.place.file < length files) os placed) (omega (arith, length-map os object_view)) some most)

pub are_few : (files : List (List ℕ)) (settings : PlainSettings) (os : List Object) (s : PlainSite) → length os < 2 ^ 32 - 2 → s ≡ typed_site files settings (map object_view os) → length s.checkables < 2 ^ 32 - 1
unfolding typed_site
are_few files settings os s few is =
    let short = few_checks (map object_view os) in
    let same : length s.checkables ≡ length (checkables (map object_view os)) = ap (λ (x : PlainSite). length x.checkables) is in
    omega (arith, length-map os object_view, short, same)
