-- The attempts of a commit's checkables have their 32 bits.
use Rattle.std.proofs.Common.{◌≡◌, ◌<◌, ◌^◌, ◌/◌, ℕ, ℤ, zero, suc, List, map, Bool, true, false, cond, refl, subst, sym, arith, lit<, Option, Some, None}
use Rattle.std.specs.Prelude.{nat_le}
use Rattle.std.specs.List.{list_any, AllByRecursion}
use Rattle.std.specs.Option.{option_map, option_to_list}
use Rattle.std.specs.Str.{bytes_eq}
use Rattle.std.proofs.lemmas.Bool.Decides.{nat_tests}
use Rattle.std.proofs.Math.Dec.{eqb-suc-zero}
use Rattle.site_base.specs.Data as tree
use Rattle.site_base.specs.Data.{Data}
use Rattle.site_model.specs.PlainSite.{PlainCheck, PlainObject}
use Rattle.object_types.specs.Schema.{row_named}
use Rattle.object_types.specs.declared.attribute.Attribute.TheVariants as attribute
use Rattle.object_types.specs.declared.object_type.ObjectType.{ObjectType}
use Rattle.object_types.specs.declared.object_type.ObjectType.TheVariants as object
use Rattle.object_types.specs.declared.value_kind.Unset.{Unset}
use Rattle.object_values.specs.Attributes.{set_value, unset_of}
use Rattle.object_values.specs.Values.{count_at, count_in, number_by, thousandths_of, unset_number, whole_of}
use Rattle.object_lists.specs.Listed.{both, listed, listed_names, place_at}
use Rattle.typed_site.specs.Checks.{check_made, check_name, checkables, host_check, hosts, one_at_least, service_check, service_made, services}
use Rattle.commit_meaning.proofs.Lists.{all_append, all_flat, all_of_each}

whole_low : (n : ℤ) → whole_of n < 2 ^ 32
whole_low n = by (nat_le (thousandths_of n / 1000) 4294967295) refl
  where
    by : (b : Bool) → nat_le (thousandths_of n / 1000) 4294967295 ≡ b → cond b (thousandths_of n / 1000) 4294967295 < 2 ^ 32
    by true e = grind (arith, nat_tests)
    by false e = lit< tt

number_low : (d : Data) → number_by whole_of d < 2 ^ 32
number_low (tree.number n) = whole_low n
number_low tree.null = lit< tt
number_low (tree.boolean b) = lit< tt
number_low (tree.string t) = lit< tt
number_low (tree.list ds) = lit< tt
number_low (tree.dict ps) = lit< tt

count_low : (o : Option Data) (u : Unset) → unset_number u < 2 ^ 32 → count_in o u < 2 ^ 32
count_low None u h = h
count_low (Some d) u h = number_low d

host_count : (d : Data) → count_at object.Host attribute.MaxCheckAttempts d < 2 ^ 32
unfolding unset_of row_named
host_count d = count_low (set_value object.Host attribute.MaxCheckAttempts d) (unset_of object.Host attribute.MaxCheckAttempts) (lit< tt)

service_count : (d : Data) → count_at object.Service attribute.MaxCheckAttempts d < 2 ^ 32
unfolding unset_of row_named
service_count d = count_low (set_value object.Service attribute.MaxCheckAttempts d) (unset_of object.Service attribute.MaxCheckAttempts) (lit< tt)

least_low : (n : ℕ) → n < 2 ^ 32 → one_at_least n < 2 ^ 32
least_low zero h = lit< tt
least_low (suc n) h = subst (λ b. cond b 1 (suc n) < 2 ^ 32) (sym (eqb-suc-zero n)) h

-- ---- checkables

abbrev HasFew : PlainCheck → Type 0
HasFew c = c.max < 2 ^ 32

module _ (os : List PlainObject) where
  abbrev commands_named : List (List ℕ)
  commands_named = listed_names object.CheckCommand os

  abbrev periods_named : List (List ℕ)
  periods_named = listed_names object.TimePeriod os

  abbrev hosts_named : List (List ℕ)
  hosts_named = map check_name (hosts os)

  abbrev Any : PlainObject → Type 0
  Any o = Unit {0}

  every_one : (xs : List PlainObject) → AllByRecursion Any xs
  every_one xs = all_of_each Any (λ o. tt) xs

  host_few : (o : PlainObject) → Any o → AllByRecursion HasFew (option_to_list (host_check commands_named periods_named o))
  host_few o u = by (place_at commands_named object.Host attribute.CheckCommand o.tree)
    where
      by : (k : Option ℕ) → AllByRecursion HasFew (option_to_list (option_map (check_made periods_named object.Host o None) k))
      by None = tt
      by (Some k) = (least_low (count_at object.Host attribute.MaxCheckAttempts o.tree) (host_count o.tree), tt)

  service_few : (o : PlainObject) → Any o → AllByRecursion HasFew (option_to_list (service_check commands_named periods_named hosts_named o))
  service_few o u = by (list_any (bytes_eq o.name) hosts_named) (place_at hosts_named object.Service attribute.HostName o.tree) (place_at commands_named object.Service attribute.CheckCommand o.tree)
    where
      by : (t : Bool) (host command : Option ℕ) → AllByRecursion HasFew (option_to_list (cond t None (both (service_made periods_named o) host command)))
      by true host command = tt
      by false None command = tt
      by false (Some h) None = tt
      by false (Some h) (Some k) = (least_low (count_at object.Service attribute.MaxCheckAttempts o.tree) (service_count o.tree), tt)

  hosts_few : AllByRecursion HasFew (hosts os)
  unfolding hosts
  hosts_few = all_flat (λ o. option_to_list (host_check commands_named periods_named o)) Any HasFew host_few (listed object.Host os) (every_one (listed object.Host os))

  services_few : AllByRecursion HasFew (services os)
  unfolding services
  services_few = all_flat (λ o. option_to_list (service_check commands_named periods_named hosts_named o)) Any HasFew service_few (listed object.Service os) (every_one (listed object.Service os))

  pub attempts_few : AllByRecursion HasFew (checkables os)
  unfolding checkables
  attempts_few = all_append HasFew (hosts os) (services os) hosts_few services_few
