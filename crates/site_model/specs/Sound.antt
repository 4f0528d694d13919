-- What always holds of a site.
use Rattle.std.specs.Prelude.{◌≡◌, ◌≢◌, ℕ, ◌<◌, ◌≤◌, ◌^◌, List, ◌++◌, Option, None, length, map, All, AllPairs, IfSome, IsSomeAnd}
use Rattle.site_model.specs.PlainSite.{PlainSite, PlainCheck, full_names}
use Rattle.site_model.specs.declared.depend_spec.DependSpec.{DependSpec}
use Rattle.site_model.specs.declared.notify_spec.NotifySpec.{NotifySpec}

-- an index into a list of this length
abbrev pub IsIndex : ℕ → ℕ → Type 0
IsIndex count k = k < count

-- an index if there is one, as a period that may be left out
abbrev pub IsIndexOrNone : ℕ → Option ℕ → Type 0
IsIndexOrNone count place = IfSome place (IsIndex count)

-- no two are the same
abbrev pub AreDistinct : {X : Type 0} → List X → Type 0
AreDistinct xs = AllPairs (λ x y. x ≢ y) xs

-- what looking a checkable up by its name needs: the names are those of the checkables, in their order, and distinct
pub record HasNames (s : PlainSite) : Type 0 where
  pub named : s.names ≡ full_names s
  pub distinct : AreDistinct s.names

-- the hosts stand first, and then services, each of one of these hosts
pub record AreHostsThenServices (checkables : List PlainCheck) : Type 0 where
  pub hosts : List PlainCheck
  pub services : List PlainCheck
  pub in_order : checkables ≡ hosts ++ services
  pub hosts_have_none : All (λ c. c.host ≡ None) hosts
  pub services_have_one : All (λ c. IsSomeAnd c.host (IsIndex (length hosts))) services

-- the checkables that a dependency joins, and its period, are the site's
pub record JoinsCheckables (checkables periods : ℕ) (d : DependSpec) : Type 0 where
  pub child : IsIndex checkables d.child
  pub parent : IsIndex checkables d.parent
  pub period : IsIndexOrNone periods d.period

-- what a notification names is the site's, and it names each user once
pub record TellsUsers (checkables users periods : ℕ) (n : NotifySpec) : Type 0 where
  pub checkable : IsIndex checkables n.checkable
  pub receivers : All (IsIndex users) n.users
  pub once : AreDistinct n.users
  pub period : IsIndexOrNone periods n.period

-- every index is in range, names that stand for one thing are distinct, a problem needs an attempt at least to be HARD, and
-- each list is short enough for its places to be named by 32 bits
pub record IsSound (s : PlainSite) : Type 0 where
  pub in_order : AreHostsThenServices s.checkables
  pub names : HasNames s
  pub attempts : All (λ c. 1 ≤ c.max) s.checkables
  pub places : All (λ o. IsIndex (length s.files) o.place.file) s.objects
  pub commands : All (λ c. IsIndex (length s.commands) c.command) s.checkables
  pub periods : All (λ c. IsIndexOrNone (length s.periods) c.period) s.checkables
  pub depends : All (JoinsCheckables (length s.checkables) (length s.periods)) s.depends
  pub depend_names : AreDistinct (map (λ d. d.name) s.depends)
  pub notifies : All (TellsUsers (length s.checkables) (length s.users) (length s.periods)) s.notifies
  pub notify_names : AreDistinct (map (λ n. n.name) s.notifies)
  pub users : All (λ u. IsIndexOrNone (length s.periods) u.period) s.users
  pub user_names : AreDistinct (map (λ u. u.name) s.users)
  pub few_depends : length s.depends < 2 ^ 32
  pub few_notifies : length s.notifies < 2 ^ 32
  pub few_users : length s.users < 2 ^ 32
  pub some_order : 1 ≤ s.max_orders
  pub most_orders : s.max_orders ≤ 65535
