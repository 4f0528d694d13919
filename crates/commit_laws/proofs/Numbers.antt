-- No two items of a wave have one number, and numbers rise in committed order.
use Rattle.std.proofs.Common.{◌≡◌, ◌≢◌, ◌<◌, ◌≤◌, inl, inr, ℕ, zero, suc, List, [], ◌∷◌, ◌++◌, filter, true, refl, sym, ap, ◌∙◌, subst, subst₂, arith}
use Rattle.std.specs.Prelude.{Contains}
use Rattle.std.specs.List.{flat_map, AllByRecursion}
use Rattle.site_model.specs.PlainSite.{PlainObject}
use Rattle.eval_meaning.specs.Load.{Loaded}
use Rattle.eval_meaning.specs.Registered.{PlainItem, PlainRule}
use Rattle.eval_meaning.specs.Views.{View}
use Rattle.commit_meaning.specs.Answers as answer
use Rattle.commit_meaning.specs.Answers.{Answer, all_made, made_in}
use Rattle.commit_meaning.specs.CommittedOrder.{object_wave}
use Rattle.commit_meaning.specs.Groups.{grown}
use Rattle.commit_meaning.specs.Items.{item_answer}
use Rattle.commit_meaning.specs.Names.{Target, target_number}
use Rattle.commit_meaning.specs.Orders.{is_behind}
use Rattle.commit_meaning.specs.Rules.{instances}
use Rattle.commit_meaning.specs.Waves.{is_in_wave, item_number, member_answer, rule_answers, view_before, wave_answers, wave_grown, wave_items, wave_objects, wave_of_kind, wave_world, world_after}
use Rattle.commit_meaning.specs.Worlds.{World, targets}
use Rattle.commit_meaning.proofs.ItemTypes.{IsOf, IsOfRule, instances_of, made_of}
use Rattle.commit_meaning.proofs.Lists.{AllLater, all_append, all_both, all_flat, all_imp, all_kept, all_map, later_append, later_flat, later_map, pairs_from_later}
use Rattle.commit_meaning.proofs.Ordered.{IsOfOrder, grown_of_wave}
use Rattle.commit_meaning.proofs.Sorting.{all_by_number}
use Rattle.commit_laws.specs.Registered.{IsRegistered, IsRegisteredItem, IsRegisteredRule}
use Rattle.commit_laws.specs.Accounts.{items_in}
use Rattle.commit_laws.specs.Numbering.{ItemsRise, ObjectsRise, TargetsRise, RisesThroughout}
use Rattle.commit_laws.proofs.Among.{of_one}
use Rattle.commit_laws.proofs.Apart.{Across, Differ, later_from_pairs, later_imp, later_kept, later_made, sorted_follow}
use Rattle.commit_laws.proofs.Instances.{IsAt, instances_at, instances_differ}
use Rattle.commit_laws.proofs.Targets.{IsPlain, IsShaped, Goes, makes_services, to_hosts, to_services, goes_by, hosts_plain, targets_differ, targets_rise}

-- what stands before a wave: its objects are numbered as their waves have it, and rise
record IsNumbered (w : ℕ) (os : List PlainObject) : Type 0 where
  shaped : AllByRecursion (λ o. IsShaped o.kind o.number) os
  rise : AllLater ObjectsRise os
  up_to : AllByRecursion (λ o. object_wave o ≤ w) os

module _ (load : Loaded) (is : IsRegistered load) (before : World) (w : ℕ) (numbered : IsNumbered w before.objects) where
  abbrev view : View
  view = view_before load before

  abbrev ItemShaped : PlainItem → Type 0
  ItemShaped i = IsShaped i.kind i.number

  -- ---- registered items

  abbrev own_items : List PlainItem
  own_items = filter (λ i. is_in_wave (suc w) i.kind) load.items

  plain_statement : (i : PlainItem) → IsRegisteredItem i → ItemShaped i
  plain_statement i h =
      let plain : IsPlain i.number = subst IsPlain (sym h.number) (record { item = refl; host = refl; target_key = refl; key = refl }) in
      record { hosts = λ e. plain; services = λ e. record { host = plain.host; key = plain.target_key } }

  registered_shaped : AllByRecursion ItemShaped own_items
  registered_shaped = all_kept ItemShaped (λ i. is_in_wave (suc w) i.kind) load.items (all_imp IsRegisteredItem ItemShaped plain_statement load.items is.items)

  registered_differ : AllLater (Differ item_number) own_items
  registered_differ =
      later_kept (Differ item_number) (λ i. is_in_wave (suc w) i.kind) load.items
      (later_imp (λ i j. i.number.item < j.number.item) (Differ item_number) (λ i j lt e. absurd (lower i j lt (ap (λ n. n.item) e))) load.items (later_from_pairs (λ i j. i.number.item < j.number.item) load.items is.items_rise))
    where
      lower : (i j : PlainItem) → i.number.item < j.number.item → i.number.item ≡ j.number.item → ⊥
      lower i j lt e = omega (arith, lt, e)

  -- ---- what rules make

  abbrev own_rules : List PlainRule
  own_rules = filter (λ r. is_in_wave (suc w) r.kind) load.rules

  abbrev AnswersDiffer : Answer (List PlainItem) → Answer (List PlainItem) → Type 0
  AnswersDiffer a b = Across (Differ item_number) (all_made a) (all_made b)

  abbrev IsApart : Answer (List PlainItem) → Type 0
  IsApart a = AllLater (Differ item_number) (all_made a)

  -- those of one rule at two targets
  two_targets : (r : PlainRule) (t u : Target) → TargetsRise r t u → AnswersDiffer (instances view r t) (instances view r u)
  two_targets r t u h =
      all_imp (IsAt r t) (λ i. AllByRecursion (Differ item_number i) (all_made (instances view r u))) (λ i p. all_imp (IsAt r u) (Differ item_number i) (λ j q e. targets_differ r t u h (sym p.target ∙ ap (λ n. n.target) e ∙ q.target)) (all_made (instances view r u)) (instances_at r u view)) (all_made (instances view r t)) (instances_at r t view)

  rule_apart : (r : PlainRule) → IsRegisteredRule r → AllLater AnswersDiffer (rule_answers load before r)
  rule_apart r h = later_map (instances view r) (TargetsRise r) AnswersDiffer (two_targets r) (targets r.target before.objects) (targets_rise before.objects numbered.shaped numbered.rise r h)

  -- those of two rules
  abbrev HasNumber : PlainRule → Answer (List PlainItem) → Type 0
  HasNumber r a = AllByRecursion (λ i. i.number.item ≡ r.number.item) (all_made a)

  has_number : (r : PlainRule) → AllByRecursion (HasNumber r) (rule_answers load before r)
  has_number r = all_map (instances view r) (λ t. Unit {0}) (HasNumber r) (λ t u. all_imp (IsAt r t) (λ i. i.number.item ≡ r.number.item) (λ i p. p.item) (all_made (instances view r t)) (instances_at r t view)) (targets r.target before.objects) (each (targets r.target before.objects))
    where
      each : (ts : List Target) → AllByRecursion (λ t. Unit {0}) ts
      each [] = tt
      each (t ∷ ts) = (tt, each ts)

  abbrev RulesDiffer : PlainRule → PlainRule → Type 0
  RulesDiffer r q = r.number.item ≢ q.number.item

  two_rules : (r q : PlainRule) → RulesDiffer r q → Across AnswersDiffer (rule_answers load before r) (rule_answers load before q)
  two_rules r q h =
      all_imp (HasNumber r) (λ a. AllByRecursion (AnswersDiffer a) (rule_answers load before q)) (λ a p. all_imp (HasNumber q) (AnswersDiffer a) (λ b g. apart a b p g) (rule_answers load before q) (has_number q)) (rule_answers load before r) (has_number r)
    where
      apart : (a b : Answer (List PlainItem)) → HasNumber r a → HasNumber q b → AnswersDiffer a b
      apart a b p g = all_imp (λ i. i.number.item ≡ r.number.item) (λ i. AllByRecursion (Differ item_number i) (all_made b)) (λ i e. all_imp (λ j. j.number.item ≡ q.number.item) (Differ item_number i) (λ j f k. h (sym e ∙ ap (λ n. n.item) k ∙ f)) (all_made b) g) (all_made a) p

  rules_differ : AllLater RulesDiffer own_rules
  rules_differ =
      later_kept RulesDiffer (λ r. is_in_wave (suc w) r.kind) load.rules
      (later_imp (λ r q. r.number.item < q.number.item) RulesDiffer (λ r q lt e. absurd (lower r q lt e)) load.rules (later_from_pairs (λ r q. r.number.item < q.number.item) load.rules is.rules_rise))
    where
      lower : (r q : PlainRule) → r.number.item < q.number.item → r.number.item ≡ q.number.item → ⊥
      lower r q lt e = omega (arith, lt, e)

  own_registered : AllByRecursion IsRegisteredRule own_rules
  own_registered = all_kept IsRegisteredRule (λ r. is_in_wave (suc w) r.kind) load.rules is.rules

  answers_differ : AllLater AnswersDiffer (wave_answers load before (suc w))
  answers_differ = later_made (rule_answers load before) IsRegisteredRule RulesDiffer AnswersDiffer rule_apart (λ r q h g d. two_rules r q d) own_rules own_registered rules_differ

  answers_apart : AllByRecursion IsApart (wave_answers load before (suc w))
  answers_apart =
      all_flat (rule_answers load before) (λ r. Unit {0}) IsApart (λ r u. all_map (instances view r) (λ t. Unit {0}) IsApart (λ t v. instances_differ r t view) (targets r.target before.objects) (each (targets r.target before.objects))) own_rules (each own_rules)
    where
      each : {A : Type 0} (ts : List A) → AllByRecursion (λ t. Unit {0}) ts
      each [] = tt
      each (t ∷ ts) = (tt, each ts)

  abbrev of_rules : List PlainItem
  of_rules = flat_map all_made (wave_answers load before (suc w))

  made_differ : AllLater (Differ item_number) of_rules
  made_differ = later_made all_made IsApart AnswersDiffer (Differ item_number) (λ a h. h) (λ a b h g d. d) (wave_answers load before (suc w)) answers_apart answers_differ

  -- ---- items and rules

  abbrev ApartFrom : PlainItem → Answer (List PlainItem) → Type 0
  ApartFrom i a = AllByRecursion (Differ item_number i) (all_made a)

  apart_from_rule : (i : PlainItem) (r : PlainRule) → i.number.item ≢ r.number.item → AllByRecursion (ApartFrom i) (rule_answers load before r)
  apart_from_rule i r h = all_imp (HasNumber r) (ApartFrom i) (λ a p. all_imp (λ j. j.number.item ≡ r.number.item) (Differ item_number i) (λ j e k. h (ap (λ n. n.item) k ∙ e)) (all_made a) p) (rule_answers load before r) (has_number r)

  apart_from_rules : (i : PlainItem) → AllByRecursion (λ r. i.number.item ≢ r.number.item) load.rules → AllByRecursion (Differ item_number i) of_rules
  apart_from_rules i h =
      all_flat all_made (ApartFrom i) (Differ item_number i) (λ a p. p) (wave_answers load before (suc w))
      (all_flat (rule_answers load before) (λ r. i.number.item ≢ r.number.item) (ApartFrom i) (apart_from_rule i) own_rules (all_kept (λ r. i.number.item ≢ r.number.item) (λ r. is_in_wave (suc w) r.kind) load.rules h))

  all_differ : AllLater (Differ item_number) (own_items ++ of_rules)
  all_differ =
      later_append (Differ item_number) own_items of_rules registered_differ made_differ
      (all_kept (λ i. AllByRecursion (Differ item_number i) of_rules) (λ i. is_in_wave (suc w) i.kind) load.items (all_imp (λ i. AllByRecursion (λ r. i.number.item ≢ r.number.item) load.rules) (λ i. AllByRecursion (Differ item_number i) of_rules) apart_from_rules load.items is.apart))

  items_follow : AllLater ItemsRise (wave_items load before (suc w))
  unfolding wave_items
  items_follow = sorted_follow item_number (own_items ++ of_rules) all_differ

  -- ---- shapes of numbers

  no_wave : {P : Type 0} (kind : List ℕ) (n m : ℕ) → wave_of_kind kind ≡ n → wave_of_kind kind ≡ m → (n ≡ m → ⊥) → P
  no_wave kind n m e f h = absurd (h (sym e ∙ f))

  -- what a rule of services makes has a host as target
  service_shaped : (r : PlainRule) (t : Target) → wave_of_kind r.kind ≡ 5 → IsPlain (target_number t) → (i : PlainItem) → IsOfRule r i → IsAt r t i → ItemShaped i
  service_shaped r t e plain i h g = record {
    hosts = λ f. no_wave i.kind 5 4 (ap wave_of_kind h.0 ∙ e) f (λ k. omega (arith, k));
    services = λ f. record { host = ap (λ n. n.host) g.target ∙ plain.item; key = ap (λ n. n.key) g.target ∙ plain.key };
  }

  last_shaped : (r : PlainRule) → wave_of_kind r.kind ≡ 6 → (i : PlainItem) → IsOfRule r i → ItemShaped i
  last_shaped r e i h = record {
    hosts = λ f. no_wave i.kind 6 4 (ap wave_of_kind h.0 ∙ e) f (λ k. omega (arith, k));
    services = λ f. no_wave i.kind 6 5 (ap wave_of_kind h.0 ∙ e) f (λ k. omega (arith, k));
  }

  abbrev AnswerShaped : Answer (List PlainItem) → Type 0
  AnswerShaped a = AllByRecursion ItemShaped (all_made a)

  rule_shaped : (r : PlainRule) → IsRegisteredRule r → AllByRecursion AnswerShaped (rule_answers load before r)
  rule_shaped r h = by (goes_by r.kind r.target h.target)
    where
      each : (ts : List Target) → AllByRecursion (λ t. Unit {0}) ts
      each [] = tt
      each (t ∷ ts) = (tt, each ts)

      last : wave_of_kind r.kind ≡ 6 → AllByRecursion AnswerShaped (rule_answers load before r)
      last e = all_map (instances view r) (λ t. Unit {0}) AnswerShaped (λ t u. all_imp (IsOfRule r) ItemShaped (last_shaped r e) (all_made (instances view r t)) (instances_of view r t)) (targets r.target before.objects) (each (targets r.target before.objects))

      by : Goes r.kind r.target → AllByRecursion AnswerShaped (rule_answers load before r)
      by (makes_services e f) =
          all_map (instances view r) (λ t. IsPlain (target_number t)) AnswerShaped (λ t p. all_both (IsOfRule r) (IsAt r t) ItemShaped (service_shaped r t e p) (all_made (instances view r t)) (instances_of view r t) (instances_at r t view)) (targets r.target before.objects)
          (subst (λ n. AllByRecursion (λ t. IsPlain (target_number t)) (targets n before.objects)) (sym f) (hosts_plain before.objects numbered.shaped numbered.rise))
      by (to_hosts e f) = last e
      by (to_services e f) = last e

  items_shaped : AllByRecursion ItemShaped (wave_items load before (suc w))
  unfolding wave_items
  items_shaped =
      all_by_number item_number ItemShaped (own_items ++ of_rules)
      (all_append ItemShaped own_items of_rules registered_shaped (all_flat all_made AnswerShaped ItemShaped (λ a p. p) (wave_answers load before (suc w)) (all_flat (rule_answers load before) IsRegisteredRule AnswerShaped rule_shaped own_rules own_registered)))

  -- ---- objects

  abbrev answer_of : PlainItem → Answer PlainObject
  answer_of i = item_answer view i

  grown_number : (o : PlainObject) (a : Answer (List (List ℕ))) → (grown o a).number ≡ o.number
  grown_number o (answer.made ns) = refl
  grown_number o (answer.diagnosed ds) = refl
  grown_number o (answer.blocked r) = refl

  grown_kind : (o : PlainObject) (a : Answer (List (List ℕ))) → (grown o a).kind ≡ o.kind
  grown_kind o (answer.made ns) = refl
  grown_kind o (answer.diagnosed ds) = refl
  grown_kind o (answer.blocked r) = refl

  abbrev ObjectFollows : PlainObject → PlainObject → Type 0
  ObjectFollows o p = is_behind p.number o.number ≡ true

  one_or_none : (a : Answer PlainObject) → AllLater ObjectFollows (made_in a)
  one_or_none (answer.made o) = (tt, tt)
  one_or_none (answer.diagnosed ds) = tt
  one_or_none (answer.blocked r) = tt

  objects_follow : AllLater ObjectFollows (wave_objects load before (suc w))
  objects_follow =
      later_flat (λ i. made_in (answer_of i)) ItemsRise ObjectFollows (λ i. one_or_none (answer_of i))
      (λ i j e. all_imp (IsOf i) (λ o. AllByRecursion (ObjectFollows o) (made_in (answer_of j))) (λ o h. all_imp (IsOf j) (ObjectFollows o) (λ p k. subst₂ (λ m n. is_behind n m ≡ true) (sym h.number) (sym k.number) e) (made_in (answer_of j)) (made_of view j)) (made_in (answer_of i)) (made_of view i))
      (wave_items load before (suc w)) items_follow

  abbrev grow : PlainObject → PlainObject
  grow o = grown o (member_answer load before (suc w) o)

  grown_follow : AllLater ObjectFollows (wave_grown load before (suc w))
  grown_follow =
      later_map grow ObjectFollows ObjectFollows (λ a b e. subst₂ (λ m n. is_behind n m ≡ true) (sym (grown_number a (member_answer load before (suc w) a))) (sym (grown_number b (member_answer load before (suc w) b))) e) (wave_objects load before (suc w)) objects_follow

  abbrev ObjectShaped : PlainObject → Type 0
  ObjectShaped o = IsShaped o.kind o.number

  objects_shaped : AllByRecursion ObjectShaped (wave_objects load before (suc w))
  objects_shaped =
      all_flat (λ i. made_in (answer_of i)) ItemShaped ObjectShaped (λ i e. all_imp (IsOf i) ObjectShaped (λ o h. subst₂ IsShaped (sym h.kind) (sym h.number) e) (made_in (answer_of i)) (made_of view i)) (wave_items load before (suc w)) items_shaped

  grown_shaped : AllByRecursion ObjectShaped (wave_grown load before (suc w))
  grown_shaped =
      all_map grow ObjectShaped ObjectShaped (λ o e. subst₂ IsShaped (sym (grown_kind o (member_answer load before (suc w) o))) (sym (grown_number o (member_answer load before (suc w) o))) e) (wave_objects load before (suc w)) objects_shaped

  -- ---- what stands after the wave

  abbrev grown_all : List PlainObject
  grown_all = wave_grown load before (suc w)

  own_wave : AllByRecursion (IsOfOrder (suc w)) grown_all
  own_wave = grown_of_wave load before (suc w)

  in_wave : (xs : List PlainObject) → AllByRecursion (IsOfOrder (suc w)) xs → AllLater ObjectFollows xs → AllLater ObjectsRise xs
  in_wave [] h k = tt
  in_wave (x ∷ xs) h k = (all_both (IsOfOrder (suc w)) (ObjectFollows x) (ObjectsRise x) (λ y e f. inr (h.0 ∙ sym e, f)) xs h.1 k.0, in_wave xs h.1 k.1)

  one_wave_more : IsNumbered (suc w) (before.objects ++ grown_all)
  one_wave_more = record {
    shaped = all_append ObjectShaped before.objects grown_all numbered.shaped grown_shaped;
    rise = later_append ObjectsRise before.objects grown_all numbered.rise (in_wave grown_all own_wave grown_follow) (all_imp (λ o. object_wave o ≤ w) (λ o. AllByRecursion (ObjectsRise o) grown_all) (λ o le. all_imp (IsOfOrder (suc w)) (ObjectsRise o) (λ p e. inl (lower o p le e)) grown_all own_wave) before.objects numbered.up_to);
    up_to = all_append (λ o. object_wave o ≤ suc w) before.objects grown_all (all_imp (λ o. object_wave o ≤ w) (λ o. object_wave o ≤ suc w) (λ o le. higher o le) before.objects numbered.up_to) (all_imp (IsOfOrder (suc w)) (λ o. object_wave o ≤ suc w) (λ o e. exact o e) grown_all own_wave);
  }
    where
      lower : (o p : PlainObject) → object_wave o ≤ w → object_wave p ≡ suc w → object_wave o < object_wave p
      lower o p le e = omega (arith, le, e)

      higher : (o : PlainObject) → object_wave o ≤ w → object_wave o ≤ suc w
      higher o le = omega (arith, le)

      exact : (o : PlainObject) → object_wave o ≡ suc w → object_wave o ≤ suc w
      exact o e = omega (arith, e)

module _ (load : Loaded) (is : IsRegistered load) where
  numbered_after : (w : ℕ) → IsNumbered w (world_after load w).objects
  unfolding wave_world
  numbered_after zero = record { shaped = tt; rise = tt; up_to = tt }
  numbered_after (suc w) = one_wave_more load is (world_after load w) w (numbered_after w)

  of_rule : (w : ℕ) (r : PlainRule) → Contains load.rules r → AllLater (TargetsRise r) (targets r.target (world_after load w).objects)
  of_rule w r c =
      let before = numbered_after w in
      targets_rise (world_after load w).objects before.shaped before.rise r (of_one IsRegisteredRule load.rules r is.rules c)

  pub rises_throughout : RisesThroughout load
  rises_throughout = record {
    items = λ w. pairs_from_later ItemsRise (items_in load w) (items_follow load is (world_after load w) w (numbered_after w));
    objects = λ w. pairs_from_later ObjectsRise (world_after load w).objects (numbered_after w).rise;
    targets = λ w r c. pairs_from_later (TargetsRise r) (targets r.target (world_after load w).objects) (of_rule w r c);
  }
