-- The site of a commit is named well.
use Rattle.std.proofs.Common.{◌≡◌, ◌<◌, ◌==◌, ◌&&◌, ◌||◌, ℕ, zero, suc, not, List, [], ◌∷◌, ◌++◌, length, map, cond, Bool, true, false, refl, sym, ap, ◌∙◌, subst, arith, Some, None, Option, slice_get}
use Rattle.std.specs.List.{list_any, AllByRecursion}
use Rattle.std.specs.Option.{option_and_then, option_map, option_to_list}
use Rattle.std.specs.Str.{bytes_eq, IsUtf8}
use Rattle.std.proofs.Math.Dec.{eqb-suc-zero}
use Rattle.std.proofs.lemmas.Slice.Eq.{bytes_eq-Decides}
use Rattle.site_base.specs.Data as tree
use Rattle.site_base.specs.Data.{Data, Pairs, no_pairs, pair}
use Rattle.site_model.specs.Names.{place_of, IsPlaceOf}
use Rattle.site_model.specs.PlainSite.{PlainCheck, PlainObject, full_names}
use Rattle.site_model.specs.Sound.{IsSound}
use Rattle.site_model.proofs.Places.{place_is}
use Rattle.object_types.specs.Names.{attribute_name, type_name, type_named}
use Rattle.object_types.specs.Schema.{row_named}
use Rattle.object_types.specs.Values.{is_unset}
use Rattle.object_types.specs.declared.attribute.Attribute.TheVariants as attribute
use Rattle.object_types.specs.declared.object_type.ObjectType.{ObjectType}
use Rattle.object_types.specs.declared.object_type.ObjectType.TheVariants as object
use Rattle.object_types.specs.declared.value_kind.SchemaRow.{SchemaRow}
use Rattle.object_types.proofs.TypeLaws.{type_found}
use Rattle.object_values.specs.Attributes.{if_set, set_among, set_value, value_under}
use Rattle.object_values.specs.Values.{string_of, text_at}
use Rattle.conf_check.specs.Keys.{is_of, of_type}
use Rattle.conf_check.specs.References.{text_under}
use Rattle.conf_check.specs.References as references
use Rattle.object_lists.specs.Listed.{both, firsts_behind, listed, listed_names, place_at}
use Rattle.typed_site.specs.Checks.{check_made, check_name, checkables, host_check, hosts, service_check, service_made, services}
use Rattle.typed_site.specs.TypedSite.{PlainSettings, typed_site}
use Rattle.eval_meaning.specs.Load.{Loaded}
use Rattle.eval_meaning.specs.Registration.{is_barred, is_good_name}
use Rattle.commit_meaning.specs.Commits.{committed}
use Rattle.commit_meaning.specs.Names.{joined, text_of}
use Rattle.commit_meaning.proofs.Lists.{all_append, all_both, all_filter, all_flat, all_imp, all_kept}
use Rattle.run_meaning.proofs.Lists.{get_front, get_map, within}
use Rattle.event_text.specs.Cuts.{IsUncut}
use Rattle.site_audit.specs.Commands.{mark}
use Rattle.audit_laws.specs.Names.{IsHostName, IsWellNamed}
use Rattle.load_laws.specs.GoodNames.{AreGood}
use Rattle.audit_laws.proofs.CommitNames.{committed_named, IsObjectNamed}

-- ---- good names

good_some : (n : List ℕ) → is_good_name n ≡ true → 0 < length n
good_some [] e = absurd cc
good_some (b ∷ n) e = omega arith

barred_there : (f b : List ℕ) → list_any is_barred (f ++ 33 ∷ b) ≡ true
barred_there [] b = refl
barred_there (x ∷ f) b = by (is_barred x) (barred_there f b)
  where
    by : (t : Bool) → list_any is_barred (f ++ 33 ∷ b) ≡ true → (t || list_any is_barred (f ++ 33 ∷ b)) ≡ true
    by true h = refl
    by false h = h

none_barred : (a b : Bool) → (not a && not b) ≡ true → b ≡ true → ⊥
none_barred true true e h = absurd cc
none_barred false true e h = absurd cc
none_barred a false e h = absurd cc

good_uncut : (n : List ℕ) → is_good_name n ≡ true → IsUncut mark n
good_uncut n e f b is = none_barred (length n == 0) (list_any is_barred n) e (ap (list_any is_barred) is ∙ barred_there f b)

good_host : (n : List ℕ) → is_good_name n ≡ true → IsHostName n
good_host n e = record { some = good_some n e; unmarked = good_uncut n e }

-- ---- what an attribute sets

abbrev host_key : List ℕ
host_key = attribute_name attribute.HostName

abbrev text_in : Data → List ℕ
text_in d = references.text_of d

some_same : {A : Type 0} (x y : A) → Some x ≡ Some y → x ≡ y
some_same x y e = cc

under_is : (key n : List ℕ) (ps : Pairs) → value_under key ps ≡ Some (tree.string n) → text_under key ps ≡ n
under_is key n no_pairs e = absurd cc
under_is key n (pair k d ps) e = by (bytes_eq k key) d e (under_is key n ps)
  where
    by : (t : Bool) (d : Data) → cond t (Some d) (value_under key ps) ≡ Some (tree.string n) → (value_under key ps ≡ Some (tree.string n) → text_under key ps ≡ n) → cond t (text_in d) (text_under key ps) ≡ n
    by true d e more = ap text_in (some_same d (tree.string n) e)
    by false d e more = more e

string_is : (d : Data) (n : List ℕ) → string_of d ≡ Some n → d ≡ tree.string n
string_is tree.null n e = absurd cc
string_is (tree.boolean b) n e = absurd cc
string_is (tree.number z) n e = absurd cc
string_is (tree.string t) n e = ap tree.string (some_same t n e)
string_is (tree.list ds) n e = absurd cc
string_is (tree.dict ps) n e = absurd cc

set_is : (row : Option SchemaRow) (ps : Pairs) (n : List ℕ) → option_and_then string_of (set_among row host_key ps) ≡ Some n → text_under host_key ps ≡ n
set_is None ps n e = absurd cc
set_is (Some row) ps n e = by (value_under host_key ps) refl e
  where
    kept : (d : Data) → value_under host_key ps ≡ Some d → (t : Bool) → option_and_then string_of (cond t None (Some d)) ≡ Some n → text_under host_key ps ≡ n
    kept d h true e = absurd cc
    kept d h false e = under_is host_key n ps (h ∙ ap Some (string_is d n e))

    by : (o : Option Data) → value_under host_key ps ≡ o → option_and_then string_of (if_set row.kind o) ≡ Some n → text_under host_key ps ≡ n
    by None h e = absurd cc
    by (Some d) h e = kept d h (is_unset row.kind d) e

text_is : (d : Data) (n : List ℕ) → text_at object.Service attribute.HostName d ≡ Some n → text_of d attribute.HostName ≡ n
unfolding set_value
text_is tree.null n e = absurd cc
text_is (tree.boolean b) n e = absurd cc
text_is (tree.number z) n e = absurd cc
text_is (tree.string t) n e = absurd cc
text_is (tree.list ds) n e = absurd cc
text_is (tree.dict ps) n e = set_is (row_named object.Service host_key) ps n e

-- ---- objects of a type

abbrev IsNamedOf : ObjectType → PlainObject → Type 0
IsNamedOf t o = IsObjectNamed o × (type_named o.kind ≡ Some t)

kind_is : (t : ObjectType) (o : PlainObject) → is_of t o ≡ true → type_named o.kind ≡ Some t
kind_is t o e = ap type_named ((bytes_eq-Decides o.kind (type_name t)).0 e) ∙ type_found t

first_named : (P : PlainObject → Type 0) (taken : List (List ℕ)) (os : List PlainObject) → AllByRecursion P os → AllByRecursion P (firsts_behind taken os)
first_named P taken [] h = tt
first_named P taken (o ∷ os) h = by (list_any (bytes_eq o.name) taken) (first_named P taken os h.1) (first_named P (taken ++ o.name ∷ []) os h.1)
  where
    by : (t : Bool) → AllByRecursion P (firsts_behind taken os) → AllByRecursion P (firsts_behind (taken ++ o.name ∷ []) os) → AllByRecursion P (cond t (firsts_behind taken os) (o ∷ firsts_behind (taken ++ o.name ∷ []) os))
    by true same more = same
    by false same more = (h.0, more)

listed_named : (t : ObjectType) (os : List PlainObject) → AllByRecursion IsObjectNamed os → AllByRecursion (IsNamedOf t) (listed t os)
unfolding listed
listed_named t os h =
    first_named (IsNamedOf t) [] (of_type t os)
    (all_both IsObjectNamed (λ o. is_of t o ≡ true) (IsNamedOf t) (λ o p q. (p, kind_is t o q)) (of_type t os) (all_kept IsObjectNamed (is_of t) os h) (all_filter (is_of t) os))

-- ---- hosts and services

abbrev IsHostCheck : PlainCheck → Type 0
IsHostCheck c = (is_good_name c.name ≡ true) × (c.host ≡ None)

-- a service has its own name behind that of the host at the place that it has
record IsServiceCheck (names : List (List ℕ)) (c : PlainCheck) : Type 0 where
  place : ℕ
  name : List ℕ
  own : List ℕ
  host : c.host ≡ Some place
  at : slice_get names place ≡ Some name
  named : c.name ≡ joined (name ∷ []) own

module _ (os : List PlainObject) (all : AllByRecursion IsObjectNamed os) where
  host_made : (o : PlainObject) → IsNamedOf object.Host o → AllByRecursion IsHostCheck (option_to_list (host_check (listed_names object.CheckCommand os) (listed_names object.TimePeriod os) o))
  host_made o h = by (place_at (listed_names object.CheckCommand os) object.Host attribute.CheckCommand o.tree)
    where
      by : (k : Option ℕ) → AllByRecursion IsHostCheck (option_to_list (option_map (check_made (listed_names object.TimePeriod os) object.Host o None) k))
      by None = tt
      by (Some k) = ((h.0.host h.1, refl), tt)

  hosts_named : AllByRecursion IsHostCheck (hosts os)
  unfolding hosts
  hosts_named = all_flat (λ o. option_to_list (host_check (listed_names object.CheckCommand os) (listed_names object.TimePeriod os) o)) (IsNamedOf object.Host) IsHostCheck host_made (listed object.Host os) (listed_named object.Host os all)

  abbrev host_names : List (List ℕ)
  host_names = map check_name (hosts os)

  place_found : (name : List ℕ) (o : Option ℕ) (k : ℕ) → o ≡ Some k → IsPlaceOf name host_names o → slice_get host_names k ≡ Some name
  place_found name o k e h = by (subst (IsPlaceOf name host_names) e h)
    where
      by : IsPlaceOf name host_names (Some k) → slice_get host_names k ≡ Some name
      by h = h

  service_made_so : (o : PlainObject) → IsNamedOf object.Service o → AllByRecursion (IsServiceCheck host_names) (option_to_list (service_check (listed_names object.CheckCommand os) (listed_names object.TimePeriod os) host_names o))
  service_made_so o h = one (list_any (bytes_eq o.name) host_names) (text_at object.Service attribute.HostName o.tree) refl (place_at (listed_names object.CheckCommand os) object.Service attribute.CheckCommand o.tree)
    where
      make : ℕ → ℕ → PlainCheck
      make = service_made (listed_names object.TimePeriod os) o

      placed : (name : List ℕ) → text_at object.Service attribute.HostName o.tree ≡ Some name → (k : Option ℕ) → place_of name host_names ≡ k → (command : Option ℕ) → AllByRecursion (IsServiceCheck host_names) (option_to_list (both make k command))
      placed name e None p command = tt
      placed name e (Some k) p None = tt
      placed name e (Some k) p (Some command) = (
        record {
          place = k;
          name = name;
          own = (h.0.service h.1).0;
          host = refl;
          at = place_found name (place_of name host_names) k p (place_is name host_names);
          named = (h.0.service h.1).1 ∙ ap (λ t. joined (t ∷ []) (h.0.service h.1).0) (text_is o.tree name e);
        },
        tt,
      )

      one : (t : Bool) (text : Option (List ℕ)) → text_at object.Service attribute.HostName o.tree ≡ text → (command : Option ℕ)
          → AllByRecursion (IsServiceCheck host_names) (option_to_list (cond t None (both make (option_and_then (λ name. place_of name host_names) text) command)))
      one true text e command = tt
      one false None e command = tt
      one false (Some name) e command = placed name e (place_of name host_names) refl command

  services_named : AllByRecursion (IsServiceCheck host_names) (services os)
  unfolding services
  services_named =
      all_flat (λ o. option_to_list (service_check (listed_names object.CheckCommand os) (listed_names object.TimePeriod os) host_names o)) (IsNamedOf object.Service) (IsServiceCheck host_names) service_made_so (listed object.Service os) (listed_named object.Service os all)

  -- ---- all checkables

  all_at : {A : Type 0} (P : A → Type 0) (xs : List A) (i : ℕ) (x : A) → AllByRecursion P xs → slice_get xs i ≡ Some x → P x
  all_at P [] i x h e = absurd cc
  all_at P (y ∷ xs) zero x h e = subst P (some_same y x e) h.0
  all_at P (y ∷ xs) (suc i) x h e = all_at P xs i x h.1 e

  some_none : (k : ℕ) → Some k ≡ None → ⊥
  some_none k e = absurd cc

  record IsCheck (c : PlainCheck) : Type 0 where
    host : c.host ≡ None → is_good_name c.name ≡ true
    service : (h : ℕ) → c.host ≡ Some h → IsServiceCheck host_names c

  checks_named : AllByRecursion IsCheck (checkables os)
  unfolding checkables
  checks_named =
      all_append IsCheck (hosts os) (services os)
      (all_imp IsHostCheck IsCheck (λ c p. record { host = λ e. p.0; service = λ k e. absurd (some_none k (sym e ∙ p.1)) }) (hosts os) hosts_named)
      (all_imp (IsServiceCheck host_names) IsCheck (λ c p. record { host = λ e. absurd (some_none p.place (sym p.host ∙ e)); service = λ k e. p }) (services os) services_named)

  record IsHostAt (k : ℕ) (name : List ℕ) : Type 0 where
    check : PlainCheck
    at : slice_get (checkables os) k ≡ Some check
    named : check.name ≡ name
    none : check.host ≡ None

  host_at : (k : ℕ) (name : List ℕ) → slice_get host_names k ≡ Some name → IsHostAt k name
  unfolding checkables
  host_at k name e =
      let (c, at, is) = get_map check_name (hosts os) k name e in
      record {
        check = c;
        at = get_front (hosts os) (services os) k (within (hosts os) k c at) ∙ at;
        named = is;
        none = (all_at IsHostCheck (hosts os) k c hosts_named at).1;
      }

  joined_behind : (name own : List ℕ) → 0 < length name → joined (name ∷ []) own ≡ name ++ 33 ∷ own
  joined_behind [] own h = absurd (omega (arith, h))
  joined_behind (b ∷ name) own h = ap (λ t. cond t own ((b ∷ name) ++ 33 ∷ own)) (eqb-suc-zero (length name))

  name_some : (k : ℕ) (name : List ℕ) → slice_get host_names k ≡ Some name → 0 < length name
  name_some k name e =
      let (c, at, is) = get_map check_name (hosts os) k name e in
      subst (λ n. 0 < length n) is (good_some c.name (all_at IsHostCheck (hosts os) k c hosts_named at).0)

pub commit_well_named : (load : Loaded) (files : List (List ℕ)) (settings : PlainSettings) → AreGood load.items → IsSound (typed_site files settings (committed load)) → AllByRecursion IsUtf8 (full_names (typed_site files settings (committed load))) → IsWellNamed (typed_site files settings (committed load))
unfolding typed_site
commit_well_named load files settings good sound texts = record {
  names = sound.names;
  texts = texts;
  hosts = λ name k h. good_host name (subst (λ n. is_good_name n ≡ true) h.named ((all_at os all (IsCheck os all) (checkables os) k h.check checks h.at).host h.own));
  services = λ k check host at is.
      let p = (all_at os all (IsCheck os all) (checkables os) k check checks at).service host is in
      let g = host_at os all p.place p.name p.at in
      record {
        host = p.name;
        own = p.own;
        is = record {
          place = p.place;
          below = record { check = g.check; at = g.at; named = g.named; own = g.none };
          check = check;
          at = at;
          named = p.named ∙ joined_behind os all p.name p.own (name_some os all p.place p.name p.at);
          joined = p.host;
        };
      };
}
  where
    os : List PlainObject
    os = committed load

    all : AllByRecursion IsObjectNamed os
    all = committed_named load good

    checks : AllByRecursion (IsCheck os all) (checkables os)
    checks = checks_named os all
