-- The groups of a wave are those that the load registered, in the order of their numbers.
use Rattle.std.proofs.Common.{◌≡◌, ℕ, List, [], ◌∷◌, ◌++◌, filter, cond, Bool, true, false, refl, sym, ap, ◌∙◌}
use Rattle.std.specs.Prelude.{◌&&◌}
use Rattle.std.specs.List.{flat_map, AllByRecursion}
use Rattle.std.proofs.lemmas.List.{append-nil}
use Rattle.std.proofs.lemmas.List.Elements.{filter-append}
use Rattle.object_types.specs.Names.{type_named}
use Rattle.eval_meaning.specs.Registered.{PlainItem, PlainRule}
use Rattle.eval_meaning.specs.Views.{View}
use Rattle.eval_meaning.specs.Load.{Loaded}
use Rattle.commit_meaning.specs.Answers.{is_made, all_made}
use Rattle.commit_meaning.specs.Items.{item_answer}
use Rattle.commit_meaning.specs.Rules.{instances}
use Rattle.commit_meaning.specs.Worlds.{World, targets}
use Rattle.commit_meaning.specs.Orders.{by_number}
use Rattle.commit_meaning.specs.Waves.{view_before, is_in_wave, rule_answers, wave_answers, item_number, wave_items, is_group, group_made}
use Rattle.commit_meaning.proofs.Lists.{all_of_each, all_imp, all_kept, all_map, all_flat}
use Rattle.commit_meaning.proofs.ItemTypes.{IsOfRule, instances_of}
use Rattle.commit_order.specs.Alike.{makes_group, group_items, MakesNoGroup}
use Rattle.commit_order.proofs.Sorting.{some_sorted}

-- ---- some of a list, twice

module _ {A : Type 0} where
  some_of_both : (p q : A → Bool) (xs : List A) → filter (λ x. p x && q x) xs ≡ filter q (filter p xs)
  some_of_both p q [] = refl
  some_of_both p q (x ∷ xs) = by (p x) (some_of_both p q xs)
    where
      by : (b : Bool) → filter (λ y. p y && q y) xs ≡ filter q (filter p xs) → cond (b && q x) (x ∷ filter (λ y. p y && q y) xs) (filter (λ y. p y && q y) xs) ≡ filter q (cond b (x ∷ filter p xs) (filter p xs))
      by true e = ap (λ l. cond (q x) (x ∷ l) l) e
      by false e = e

  turned_about : (p q : A → Bool) (xs : List A) → filter p (filter q xs) ≡ filter q (filter p xs)
  turned_about p q [] = refl
  turned_about p q (x ∷ xs) = by (p x) (q x) refl refl (turned_about p q xs)
    where
      by : (b c : Bool) → p x ≡ b → q x ≡ c → filter p (filter q xs) ≡ filter q (filter p xs) → filter p (cond c (x ∷ filter q xs) (filter q xs)) ≡ filter q (cond b (x ∷ filter p xs) (filter p xs))
      by true true h k e = ap (λ d. cond d (x ∷ filter p (filter q xs)) (filter p (filter q xs))) h ∙ ap (λ l. x ∷ l) e ∙ sym (ap (λ d. cond d (x ∷ filter q (filter p xs)) (filter q (filter p xs))) k)
      by true false h k e = e ∙ sym (ap (λ d. cond d (x ∷ filter q (filter p xs)) (filter q (filter p xs))) k)
      by false true h k e = ap (λ d. cond d (x ∷ filter p (filter q xs)) (filter p (filter q xs))) h ∙ e
      by false false h k e = e

  none_of : (p : A → Bool) (xs : List A) → AllByRecursion (λ x. p x ≡ false) xs → filter p xs ≡ []
  none_of p [] h = refl
  none_of p (x ∷ xs) h = ap (λ d. cond d (x ∷ filter p xs) (filter p xs)) h.0 ∙ none_of p xs h.1

module _ (load : Loaded) (no_group : AllByRecursion MakesNoGroup load.rules) (before : World) (w : ℕ) where
  abbrev IsNoGroup : PlainItem → Type 0
  IsNoGroup i = makes_group i ≡ false

  rule_items : (r : PlainRule) → MakesNoGroup r → AllByRecursion (λ a. AllByRecursion IsNoGroup (all_made a)) (rule_answers load before r)
  rule_items r h =
      all_map (instances (view_before load before) r) (λ t. Unit {0}) (λ a. AllByRecursion IsNoGroup (all_made a))
      (λ t u. all_imp (IsOfRule r) IsNoGroup (λ i q. ap (λ kind. is_group (type_named kind)) q.0 ∙ h) (all_made (instances (view_before load before) r t)) (instances_of (view_before load before) r t))
      (targets r.target before.objects) (all_of_each (λ t. Unit {0}) (λ t. tt) (targets r.target before.objects))

  from_rules : AllByRecursion IsNoGroup (flat_map all_made (wave_answers load before w))
  from_rules =
      all_flat all_made (λ a. AllByRecursion IsNoGroup (all_made a)) IsNoGroup (λ a h. h) (wave_answers load before w)
      (all_flat (rule_answers load before) MakesNoGroup (λ a. AllByRecursion IsNoGroup (all_made a)) rule_items (filter (λ r. is_in_wave w r.kind) load.rules) (all_kept MakesNoGroup (λ r. is_in_wave w r.kind) load.rules no_group))

  abbrev in_wave : PlainItem → Bool
  in_wave i = is_in_wave w i.kind

  loaded_groups : filter makes_group (filter in_wave load.items ++ flat_map all_made (wave_answers load before w)) ≡ filter in_wave (filter makes_group load.items)
  loaded_groups =
      filter-append makes_group (filter in_wave load.items) (flat_map all_made (wave_answers load before w))
      ∙ ap (λ l. filter makes_group (filter in_wave load.items) ++ l) (none_of makes_group (flat_map all_made (wave_answers load before w)) from_rules)
      ∙ append-nil (filter makes_group (filter in_wave load.items))
      ∙ turned_about makes_group in_wave load.items

  wave_group_items : filter makes_group (wave_items load before w) ≡ filter in_wave (group_items load)
  unfolding wave_items
  wave_group_items =
      some_sorted item_number makes_group (filter in_wave load.items ++ flat_map all_made (wave_answers load before w))
      ∙ ap (by_number item_number) loaded_groups
      ∙ sym (some_sorted item_number in_wave (filter makes_group load.items))

  -- those of which groups were made
  pub groups_made : (view : View) → filter (group_made view) (wave_items load before w) ≡ filter (λ i. is_made (item_answer view i)) (filter in_wave (group_items load))
  groups_made view = some_of_both makes_group (λ i. is_made (item_answer view i)) (wave_items load before w) ∙ ap (filter (λ i. is_made (item_answer view i))) wave_group_items
