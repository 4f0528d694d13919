-- The numbers of targets: they rise in committed order.
use Rattle.std.proofs.Common.{◌≡◌, ◌<◌, ◌⊎◌, inl, inr, ℕ, List, [], ◌∷◌, codes, cond, Bool, true, false, Option, Some, None, refl, sym, ap, ◌∙◌, subst, arith, true≢false}
use Rattle.std.specs.List.{AllByRecursion}
use Rattle.std.specs.Ordering.{is_gt, is_lt, ordering_reverse, ordering_then, nat_cmp}
use Rattle.std.specs.Str.{bytes_eq}
use Rattle.std.specs.declared.cmp.Ordering.{Ordering}
use Rattle.std.specs.declared.cmp.Ordering.TheVariants.{Less, Equal, Greater}
use Rattle.std.proofs.lemmas.Cmp.{nat_cmp_total}
use Rattle.std.proofs.lemmas.Slice.Eq.{bytes_eq-Decides}
use Rattle.site_base.specs.Order.{by_fields}
use Rattle.site_base.specs.declared.item_no.ItemNo.{ItemNo}
use Rattle.site_base.specs.declared.target_no.TargetNo.{TargetNo}
use Rattle.site_model.specs.PlainSite.{PlainObject}
use Rattle.object_types.specs.Names.{type_named}
use Rattle.object_types.specs.declared.attribute.Attribute.TheVariants as attribute
use Rattle.eval_meaning.specs.Registered.{PlainRule}
use Rattle.eval_meaning.specs.Registration.{is_among, target_types, of_both_targets, both_targets}
use Rattle.eval_meaning.specs.Views as read
use Rattle.commit_meaning.specs.CommittedOrder.{object_wave}
use Rattle.commit_meaning.specs.Names.{Target, host, service, target_no, target_number, text_of}
use Rattle.commit_meaning.specs.Orders.{is_behind}
use Rattle.commit_meaning.specs.Rules.{pair_number}
use Rattle.commit_meaning.specs.Waves.{wave_of_kind}
use Rattle.commit_meaning.specs.Worlds.{first_object, with_host, service_targets, of_kind, targets}
use Rattle.commit_meaning.proofs.Lists.{AllLater, all_imp, all_both, all_filter, all_kept, all_map, later_map}
use Rattle.commit_laws.specs.Registered.{IsRegisteredRule}
use Rattle.commit_laws.specs.Numbering.{ObjectsRise, TargetsRise}
use Rattle.commit_laws.proofs.Apart.{Across, later_kept, later_imp, later_with, later_made, never_behind_itself}
use Rattle.commit_laws.proofs.Types.{of_among}

-- ---- shapes of numbers

-- the number of a statement: all of its other fields are 0
pub record IsPlain (n : ItemNo) : Type 0 where
  pub item : n.target.item ≡ 0
  pub host : n.target.host ≡ 0
  pub target_key : n.target.key ≡ 0
  pub key : n.key ≡ 0

-- a number without a target, or of a host as target: hosts are made by statements alone
pub record IsOfHost (n : ItemNo) : Type 0 where
  pub host : n.target.host ≡ 0
  pub key : n.target.key ≡ 0

-- objects of the fourth wave, which are hosts, have numbers of statements; those of the fifth, which are services, have hosts as targets
pub record IsShaped (kind : List ℕ) (n : ItemNo) : Type 0 where
  pub hosts : wave_of_kind kind ≡ 4 → IsPlain n
  pub services : wave_of_kind kind ≡ 5 → IsOfHost n

pub plain_of_host : (n : ItemNo) → IsPlain n → IsOfHost n
plain_of_host n h = record { host = h.host; key = h.target_key }

-- ---- a rule's numbers at two targets stand as the targets' own numbers do

self_equal : (r : Ordering) → r ≡ ordering_reverse r → r ≡ Equal
self_equal Less h = absurd (true≢false (ap is_lt h))
self_equal Equal h = refl
self_equal Greater h = absurd (true≢false (ap is_gt h))

same_number : (n : ℕ) → nat_cmp n n ≡ Equal
same_number n = self_equal (nat_cmp n n) (nat_cmp_total.antisymm n n)

abbrev at_target : ℕ → ItemNo → ItemNo
at_target r n = record { item = r; target = target_no n; key = 0 }

zeroes : (x y : ℕ) → x ≡ 0 → y ≡ 0 → nat_cmp x y ≡ Equal
zeroes x y h k = ap (λ m. nat_cmp m y) (h ∙ sym k) ∙ same_number y

stand_alike : (r : ℕ) (a b : ItemNo) → IsOfHost a → IsOfHost b → by_fields (at_target r a) (at_target r b) ≡ by_fields a b
stand_alike r a b h k =
    let items : Ordering = nat_cmp a.item b.item in
    let hosts : Ordering = nat_cmp a.target.item b.target.item in
    let keys : Ordering = ordering_then (nat_cmp a.key b.key) Equal in
    ap (λ o. ordering_then o (ordering_then items (ordering_then hosts keys))) (same_number r)
    ∙ sym (ap (λ o. ordering_then items (ordering_then hosts (ordering_then o (ordering_then (nat_cmp a.target.key b.target.key) keys)))) (zeroes a.target.host b.target.host h.host k.host)
    ∙ ap (λ o. ordering_then items (ordering_then hosts (ordering_then o keys))) (zeroes a.target.key b.target.key h.key k.key))

pairs_follow : (r : PlainRule) (t u : Target) → IsOfHost (target_number t) → IsOfHost (target_number u) → is_behind (target_number u) (target_number t) ≡ true → TargetsRise r t u
pairs_follow r t u h k e = ap is_gt (stand_alike r.number.item (target_number u) (target_number t) k h) ∙ e

-- targets whose pairs rise have different numbers
pub targets_differ : (r : PlainRule) (t u : Target) → TargetsRise r t u → target_no (target_number t) ≡ target_no (target_number u) → ⊥
targets_differ r t u h e =
    never_behind_itself (pair_number r t) (subst (λ (n : TargetNo). is_behind (record { item = r.number.item; target = n; key = 0 }) (pair_number r t) ≡ true) (sym e) h)

-- ---- rules and what they go to

-- a rule of services goes to hosts, and other rules belong to the last wave and go to hosts or services
pub data Goes (kind to : List ℕ) : Type 0 where
  makes_services : wave_of_kind kind ≡ 5 → to ≡ codes "Host" → Goes kind to
  to_hosts : wave_of_kind kind ≡ 6 → to ≡ codes "Host" → Goes kind to
  to_services : wave_of_kind kind ≡ 6 → to ≡ codes "Service" → Goes kind to

is_one : (n m : List ℕ) → is_among n (m ∷ []) ≡ true → n ≡ m
is_one n m e = of_among (λ x. x ≡ m) n (m ∷ []) (refl, tt) e

either_target : (kind to : List ℕ) → wave_of_kind kind ≡ 6 → is_among to both_targets ≡ true → Goes kind to
either_target kind to w e = by (of_among (λ x. (x ≡ codes "Host") ⊎ (x ≡ codes "Service")) to both_targets (inl refl, (inr refl, tt)) e)
  where
    by : (to ≡ codes "Host") ⊎ (to ≡ codes "Service") → Goes kind to
    by (inl h) = to_hosts w h
    by (inr h) = to_services w h

both_wave : AllByRecursion (λ n. wave_of_kind n ≡ 6) of_both_targets
unfolding type_named
both_wave = (refl, (refl, (refl, tt)))

service_wave : wave_of_kind (codes "Service") ≡ 5
unfolding type_named
service_wave = refl

host_wave : wave_of_kind (codes "Host") ≡ 4
unfolding type_named
host_wave = refl

pub goes_by : (kind to : List ℕ) → is_among to (target_types kind) ≡ true → Goes kind to
goes_by kind to = by (bytes_eq kind (codes "Service")) refl (is_among kind of_both_targets) refl
  where
    by : (b : Bool) → bytes_eq kind (codes "Service") ≡ b → (c : Bool) → is_among kind of_both_targets ≡ c → is_among to (cond b (codes "Host" ∷ []) (cond c both_targets [])) ≡ true → Goes kind to
    by true e c f h = makes_services (subst (λ n. wave_of_kind n ≡ 5) (sym ((bytes_eq-Decides kind (codes "Service")).0 e)) service_wave) (is_one to (codes "Host") h)
    by false e true f h = either_target kind to (of_among (λ n. wave_of_kind n ≡ 6) kind of_both_targets both_wave f) h
    by false e false f h = absurd (true≢false (sym h))

-- ---- the targets of a world

module _ (os : List PlainObject) (shaped : AllByRecursion (λ o. IsShaped o.kind o.number) os) (rise : AllLater ObjectsRise os) where
  module _ (kind : List ℕ) (w : ℕ) (is_wave : wave_of_kind kind ≡ w) where
    abbrev own : List PlainObject
    own = of_kind kind os

    of_wave : AllByRecursion (λ o. object_wave o ≡ w) own
    of_wave = all_imp (λ o. bytes_eq o.kind kind ≡ true) (λ o. object_wave o ≡ w) (λ o e. subst (λ n. wave_of_kind n ≡ w) (sym ((bytes_eq-Decides o.kind kind).0 e)) is_wave) own (all_filter (λ o. bytes_eq o.kind kind) os)

    own_shaped : AllByRecursion (λ o. IsShaped o.kind o.number) own
    own_shaped = all_kept (λ o. IsShaped o.kind o.number) (λ o. bytes_eq o.kind kind) os shaped

    own_rise : AllLater (λ o p. is_behind p.number o.number ≡ true) own
    own_rise =
        later_imp (λ o p. (object_wave o ≡ w) × (object_wave p ≡ w) × ObjectsRise o p) (λ o p. is_behind p.number o.number ≡ true) one own
        (later_with (λ o. object_wave o ≡ w) ObjectsRise own of_wave (later_kept ObjectsRise (λ o. bytes_eq o.kind kind) os rise))
      where
        one : (o p : PlainObject) → (object_wave o ≡ w) × (object_wave p ≡ w) × ObjectsRise o p → is_behind p.number o.number ≡ true
        one o p h = by h.2
          where
            by : ObjectsRise o p → is_behind p.number o.number ≡ true
            by (inl lt) = absurd (no lt)
              where
                no : object_wave o < object_wave p → ⊥
                no l = let a = h.0 in let b = h.1 in omega (arith, l, a, b)
            by (inr e) = e.1

  abbrev Stand : PlainObject → PlainObject → Type 0
  Stand o p = IsOfHost o.number × IsOfHost p.number × (is_behind p.number o.number ≡ true)

  -- ---- hosts

  pub hosts_plain : AllByRecursion (λ t. IsPlain (target_number t)) (targets (codes "Host") os)
  hosts_plain =
      all_map host (λ o. IsPlain o.number) (λ t. IsPlain (target_number t)) (λ o h. h) (of_kind (codes "Host") os)
      (all_both (λ o. object_wave o ≡ 4) (λ o. IsShaped o.kind o.number) (λ o. IsPlain o.number) (λ o e h. h.hosts e) (of_kind (codes "Host") os) (of_wave (codes "Host") 4 host_wave) (own_shaped (codes "Host") 4 host_wave))

  hosts_stand : AllLater Stand (of_kind (codes "Host") os)
  hosts_stand =
      later_with (λ o. IsOfHost o.number) (λ o p. is_behind p.number o.number ≡ true) (of_kind (codes "Host") os)
      (all_both (λ o. object_wave o ≡ 4) (λ o. IsShaped o.kind o.number) (λ o. IsOfHost o.number) (λ o e h. plain_of_host o.number (h.hosts e)) (of_kind (codes "Host") os) (of_wave (codes "Host") 4 host_wave) (own_shaped (codes "Host") 4 host_wave))
      (own_rise (codes "Host") 4 host_wave)

  hosts_rise : (r : PlainRule) → AllLater (TargetsRise r) (targets (codes "Host") os)
  hosts_rise r = later_map host Stand (TargetsRise r) (λ o p h. pairs_follow r (host o) (host p) h.0 h.1 h.2) (of_kind (codes "Host") os) hosts_stand

  -- ---- services

  services_of_host : AllByRecursion (λ o. IsOfHost o.number) (of_kind (codes "Service") os)
  services_of_host =
      all_both (λ o. object_wave o ≡ 5) (λ o. IsShaped o.kind o.number) (λ o. IsOfHost o.number) (λ o e h. h.services e) (of_kind (codes "Service") os) (of_wave (codes "Service") 5 service_wave) (own_shaped (codes "Service") 5 service_wave)

  services_stand : AllLater Stand (of_kind (codes "Service") os)
  services_stand = later_with (λ o. IsOfHost o.number) (λ o p. is_behind p.number o.number ≡ true) (of_kind (codes "Service") os) services_of_host (own_rise (codes "Service") 5 service_wave)

  services_rise : (r : PlainRule) → AllLater (TargetsRise r) (targets (codes "Service") os)
  services_rise r = later_made (service_targets os) (λ s. Unit {0}) Stand (TargetsRise r) (λ s u. one (found s) s) (λ s p u v h. two s p h (found s) (found p)) (of_kind (codes "Service") os) (each (of_kind (codes "Service") os)) services_stand
    where
      found : PlainObject → Option PlainObject
      found s = first_object (read.host (text_of s.tree attribute.HostName)) os

      each : (ss : List PlainObject) → AllByRecursion (λ s. Unit {0}) ss
      each [] = tt
      each (s ∷ ss) = (tt, each ss)

      one : (o : Option PlainObject) (s : PlainObject) → AllLater (TargetsRise r) (with_host s o)
      one (Some h) s = (tt, tt)
      one None s = tt

      two : (s p : PlainObject) → Stand s p → (o q : Option PlainObject) → Across (TargetsRise r) (with_host s o) (with_host p q)
      two s p h None q = tt
      two s p h (Some a) None = (tt, tt)
      two s p h (Some a) (Some b) = ((pairs_follow r (service a s) (service b p) h.0 h.1 h.2, tt), tt)

  -- ---- of a rule

  pub targets_rise : (r : PlainRule) → IsRegisteredRule r → AllLater (TargetsRise r) (targets r.target os)
  targets_rise r is = by (goes_by r.kind r.target is.target)
    where
      by : Goes r.kind r.target → AllLater (TargetsRise r) (targets r.target os)
      by (makes_services w e) = subst (λ n. AllLater (TargetsRise r) (targets n os)) (sym e) (hosts_rise r)
      by (to_hosts w e) = subst (λ n. AllLater (TargetsRise r) (targets n os)) (sym e) (hosts_rise r)
      by (to_services w e) = subst (λ n. AllLater (TargetsRise r) (targets n os)) (sym e) (services_rise r)
