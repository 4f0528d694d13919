-- Which checkables lines name, both ways.
use Rattle.std.proofs.Common.{◌≡◌, ℕ, ◌==◌, Bool, true, false, cond, List, refl, sym, ap, ◌∙◌, subst, arith, inl, inr, Option, Some, None}
use Rattle.std.proofs.lemmas.Bool.{cases_lt}
use Rattle.std.proofs.lemmas.Bool.Decides.{nat_tests}
use Rattle.std.proofs.lemmas.Option.{slice_get-map, slice_get_within, get_or_from_slice_get}
use Rattle.std.specs.List.{slice_get}
use Rattle.std.specs.Option.{option_map}
use Rattle.site_model.specs.Names.{place_of, IsPlaceOf}
use Rattle.site_model.specs.PlainSite.{PlainSite, PlainCheck, full_names}
use Rattle.site_model.specs.Sound.{HasNames, AreDistinct}
use Rattle.site_model.proofs.Places.{place_is}
use Rattle.event_text.specs.Checkables.{full_name, IsHost, IsService, is_none, is_some_of, is_host, is_service_of, host_at, service_at, host_named, service_below, service_named}

-- what stands at a place of a list stands there alone, where no two are the same
pub place_found : (ns : List (List ℕ)) (name : List ℕ) (k : ℕ) → AreDistinct ns → slice_get ns k ≡ Some name → place_of name ns ≡ Some k
place_found ns name k apart at = by (place_of name ns) refl (place_is name ns)
  where
    same : (j : ℕ) → slice_get ns j ≡ Some name → j ≡ k
    same j here = elim (cases_lt j k) [
      | inl lt ↦ absurd (apart j k name lt (slice_get_within ns k name at) (get_or_from_slice_get ns j name name here ∙ sym (get_or_from_slice_get ns k name name at)))
      | inr le ↦ elim (cases_lt k j) [
        | inl gt ↦ absurd (apart k j name gt (slice_get_within ns j name here) (get_or_from_slice_get ns k name name at ∙ sym (get_or_from_slice_get ns j name name here)))
        | inr ge ↦ omega arith
      ]
    ]

    by : (r : Option ℕ) → place_of name ns ≡ r → IsPlaceOf name ns r → place_of name ns ≡ Some k
    by None e lacks = absurd (lacks (k, slice_get_within ns k name at, get_or_from_slice_get ns k name name at))
    by (Some j) e here = e ∙ ap Some (same j here)

-- the checkable at a place has the name at that place
pub name_there : (s : PlainSite) (name : List ℕ) (k : ℕ) (check : PlainCheck) → s.names ≡ full_names s → slice_get s.checkables k ≡ Some check → slice_get s.names k ≡ Some name → check.name ≡ name
name_there s name k check named at here =
    let mapped : slice_get (full_names s) k ≡ option_map (λ c. c.name) (slice_get s.checkables k) = slice_get-map (λ c. c.name) s.checkables k in
    let both : Some check.name ≡ Some name = sym (mapped ∙ ap (option_map (λ c. c.name)) at) ∙ (sym (ap (λ ns. slice_get ns k) named) ∙ here) in
    cc

pub name_at : (s : PlainSite) (k : ℕ) (check : PlainCheck) → s.names ≡ full_names s → slice_get s.checkables k ≡ Some check → slice_get s.names k ≡ Some check.name
name_at s k check named at =
    ap (λ ns. slice_get ns k) named ∙ (slice_get-map (λ c. c.name) s.checkables k ∙ ap (option_map (λ c. c.name)) at)

none_is : (h : Option ℕ) → is_none h ≡ true → h ≡ None
none_is None e = refl
none_is (Some h) e = cc

some_is : (k : ℕ) (h : Option ℕ) → is_some_of k h ≡ true → h ≡ Some k
some_is k None e = cc
some_is k (Some h) e = let same : h ≡ k = grind (arith, nat_tests) in ap Some same

is_same : (k : ℕ) → (k == k) ≡ true
is_same k = grind (arith, nat_tests)

-- hosts
host_at_place : (s : PlainSite) (name : List ℕ) (j k : ℕ) → s.names ≡ full_names s → slice_get s.names j ≡ Some name → (r : Option PlainCheck) → slice_get s.checkables j ≡ r → cond (is_host r) (Some j) None ≡ Some k → IsHost s name k
host_at_place s name j k named here None at e = cc
host_at_place s name j k named here (Some check) at e = by (is_none check.host) refl e
  where
    by : (t : Bool) → is_none check.host ≡ t → cond t (Some j) None ≡ Some k → IsHost s name k
    by true own e =
        let same : j ≡ k = cc in
        subst (λ i. IsHost s name i) same (record { check = check; at = at; named = name_there s name j check named at here; own = none_is check.host own })
    by false own e = cc

pub host_is : (s : PlainSite) (name : List ℕ) (k : ℕ) → HasNames s → host_named s name ≡ Some k → IsHost s name k
unfolding host_named
host_is s name k has e = by (place_of name s.names) (place_is name s.names) e
  where
    by : (r : Option ℕ) → IsPlaceOf name s.names r → host_at s r ≡ Some k → IsHost s name k
    by None lacks e = cc
    by (Some j) here e = host_at_place s name j k has.named here (slice_get s.checkables j) refl e

pub host_found : (s : PlainSite) (name : List ℕ) (k : ℕ) → HasNames s → IsHost s name k → host_named s name ≡ Some k
unfolding host_named
host_found s name k has h =
    let there : slice_get s.names k ≡ Some name = name_at s k h.check has.named h.at ∙ ap Some h.named in
    ap (host_at s) (place_found s.names name k has.distinct there)
    ∙ (ap (λ r. cond (is_host r) (Some k) None) h.at ∙ ap (λ r. cond (is_none r) (Some k) None) h.own)

pub no_host : (s : PlainSite) (name : List ℕ) → HasNames s → ((k : ℕ) → IsHost s name k → ⊥) → host_named s name ≡ None
no_host s name has h = by (host_named s name) refl
  where
    by : (r : Option ℕ) → host_named s name ≡ r → host_named s name ≡ None
    by None e = e
    by (Some k) e = absurd (h k (host_is s name k has e))

pub host_lacks : (s : PlainSite) (name : List ℕ) → HasNames s → host_named s name ≡ None → (k : ℕ) → IsHost s name k → ⊥
host_lacks s name has e k h = let found : host_named s name ≡ Some k = host_found s name k has h in cc

-- services
service_at_place : (s : PlainSite) (host service : List ℕ) (p j k : ℕ) → s.names ≡ full_names s → IsHost s host p → slice_get s.names j ≡ Some (full_name host service) → (r : Option PlainCheck) → slice_get s.checkables j ≡ r
    → cond (is_service_of p r) (Some j) None ≡ Some k → IsService s host service k
service_at_place s host service p j k named below here None at e = cc
service_at_place s host service p j k named below here (Some check) at e = by (is_some_of p check.host) refl e
  where
    by : (t : Bool) → is_some_of p check.host ≡ t → cond t (Some j) None ≡ Some k → IsService s host service k
    by true own e =
        let same : j ≡ k = cc in
        subst (λ i. IsService s host service i) same (record { place = p; below = below; check = check; at = at; named = name_there s (full_name host service) j check named at here; joined = some_is p check.host own })
    by false own e = cc

pub service_is : (s : PlainSite) (host service : List ℕ) (k : ℕ) → HasNames s → service_named s host service ≡ Some k → IsService s host service k
unfolding service_named
service_is s host service k has e = by (host_named s host) refl e
  where
    at_host : (p : ℕ) → IsHost s host p → (r : Option ℕ) → IsPlaceOf (full_name host service) s.names r → service_at s p r ≡ Some k → IsService s host service k
    at_host p below None lacks e = cc
    at_host p below (Some j) here e = service_at_place s host service p j k has.named below here (slice_get s.checkables j) refl e

    by : (r : Option ℕ) → host_named s host ≡ r → service_below s (full_name host service) r ≡ Some k → IsService s host service k
    by None h e = cc
    by (Some p) h e = at_host p (host_is s host p has h) (place_of (full_name host service) s.names) (place_is (full_name host service) s.names) e

pub service_found : (s : PlainSite) (host service : List ℕ) (k : ℕ) → HasNames s → IsService s host service k → service_named s host service ≡ Some k
unfolding service_named
service_found s host service k has h =
    let there : slice_get s.names k ≡ Some (full_name host service) = name_at s k h.check has.named h.at ∙ ap Some h.named in
    ap (service_below s (full_name host service)) (host_found s host h.place has h.below)
    ∙ (ap (service_at s h.place) (place_found s.names (full_name host service) k has.distinct there)
    ∙ (ap (λ r. cond (is_service_of h.place r) (Some k) None) h.at
    ∙ (ap (λ r. cond (is_some_of h.place r) (Some k) None) h.joined ∙ ap (λ t. cond t (Some k) None) (is_same h.place))))

pub no_service : (s : PlainSite) (host service : List ℕ) → HasNames s → ((k : ℕ) → IsService s host service k → ⊥) → service_named s host service ≡ None
no_service s host service has h = by (service_named s host service) refl
  where
    by : (r : Option ℕ) → service_named s host service ≡ r → service_named s host service ≡ None
    by None e = e
    by (Some k) e = absurd (h k (service_is s host service k has e))

pub service_lacks : (s : PlainSite) (host service : List ℕ) → HasNames s → service_named s host service ≡ None → (k : ℕ) → IsService s host service k → ⊥
service_lacks s host service has e k h = let found : service_named s host service ≡ Some k = service_found s host service k has h in cc
