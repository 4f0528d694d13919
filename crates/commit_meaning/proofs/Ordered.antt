-- What is committed stands in order of wave, and in one wave of number.
use Rattle.std.proofs.Common.{◌≡◌, ◌≤◌, inl, inr, ℕ, zero, suc, List, [], ◌∷◌, ◌++◌, filter, false, refl, sym, ap, ◌∙◌, arith, eqb-true, subst₂, AllPairs}
use Rattle.std.specs.List.{flat_map, AllByRecursion}
use Rattle.site_model.specs.PlainSite.{PlainObject}
use Rattle.eval_meaning.specs.Load.{Loaded}
use Rattle.commit_meaning.specs.Answers as answer
use Rattle.commit_meaning.specs.Answers.{Answer, made_in, all_made}
use Rattle.commit_meaning.specs.Items.{item_answer}
use Rattle.commit_meaning.specs.Groups.{grown}
use Rattle.commit_meaning.specs.Worlds.{World}
use Rattle.commit_meaning.specs.Orders.{is_behind}
use Rattle.commit_meaning.specs.Waves.{view_before, wave_of_kind, is_in_wave, item_number, wave_answers, wave_items, wave_objects, member_answer, wave_grown, wave_world, world_after}
use Rattle.commit_meaning.specs.Commits.{committed}
use Rattle.commit_meaning.specs.CommittedOrder.{object_wave, Precedes}
use Rattle.commit_meaning.proofs.Lists.{AllLater, all_imp, all_both, all_append, all_map, all_flat, later_append, later_map, later_flat, pairs_from_later}
use Rattle.commit_meaning.proofs.Sorting.{Rises, by_number_rises}
use Rattle.commit_meaning.proofs.ItemTypes.{IsOfWave, items_of_wave, IsOf, made_of}

-- an object that takes groups keeps its number and its type
grown_number : (o : PlainObject) (a : Answer (List (List ℕ))) → (grown o a).number ≡ o.number
grown_number o (answer.made ns) = refl
grown_number o (answer.diagnosed ds) = refl
grown_number o (answer.blocked r) = refl

grown_kind : (o : PlainObject) (a : Answer (List (List ℕ))) → (grown o a).kind ≡ o.kind
grown_kind o (answer.made ns) = refl
grown_kind o (answer.diagnosed ds) = refl
grown_kind o (answer.blocked r) = refl

abbrev pub ObjectRises : PlainObject → PlainObject → Type 0
ObjectRises a b = is_behind a.number b.number ≡ false

abbrev pub IsOfOrder : ℕ → PlainObject → Type 0
IsOfOrder w o = object_wave o ≡ w

one_or_none : (view_answer : Answer PlainObject) → AllLater ObjectRises (made_in view_answer)
one_or_none (answer.made o) = (tt, tt)
one_or_none (answer.diagnosed ds) = tt
one_or_none (answer.blocked r) = tt

module _ (load : Loaded) (before : World) (w : ℕ) where
  items_rise : AllLater (Rises item_number) (wave_items load before w)
  unfolding wave_items
  items_rise = by_number_rises item_number (filter (λ i. is_in_wave w i.kind) load.items ++ flat_map all_made (wave_answers load before w))

  objects_rise : AllLater ObjectRises (wave_objects load before w)
  objects_rise =
      later_flat (λ i. made_in (item_answer (view_before load before) i)) (Rises item_number) ObjectRises (λ i. one_or_none (item_answer (view_before load before) i))
      (λ i j e. all_imp (IsOf i) (λ o. AllByRecursion (ObjectRises o) (made_in (item_answer (view_before load before) j))) (λ o h. all_imp (IsOf j) (ObjectRises o) (λ p k. subst₂ (λ m n. is_behind m n ≡ false) (sym h.number) (sym k.number) e) (made_in (item_answer (view_before load before) j)) (made_of (view_before load before) j)) (made_in (item_answer (view_before load before) i)) (made_of (view_before load before) i))
      (wave_items load before w) items_rise

  pub grown_rise : AllLater ObjectRises (wave_grown load before w)
  grown_rise =
      later_map (λ o. grown o (member_answer load before w o)) ObjectRises ObjectRises (λ a b e. subst₂ (λ m n. is_behind m n ≡ false) (sym (grown_number a (member_answer load before w a))) (sym (grown_number b (member_answer load before w b))) e) (wave_objects load before w) objects_rise

  objects_of_wave : AllByRecursion (IsOfOrder w) (wave_objects load before w)
  objects_of_wave =
      all_flat (λ i. made_in (item_answer (view_before load before) i)) (IsOfWave load before w) (IsOfOrder w)
      (λ i e. all_imp (IsOf i) (IsOfOrder w) (λ o h. ap wave_of_kind h.kind ∙ eqb-true (wave_of_kind i.kind) w e) (made_in (item_answer (view_before load before) i)) (made_of (view_before load before) i))
      (wave_items load before w) (items_of_wave load before w)

  pub grown_of_wave : AllByRecursion (IsOfOrder w) (wave_grown load before w)
  grown_of_wave =
      all_map (λ o. grown o (member_answer load before w o)) (IsOfOrder w) (IsOfOrder w) (λ o e. ap wave_of_kind (grown_kind o (member_answer load before w o)) ∙ e) (wave_objects load before w) objects_of_wave

-- within a wave what rises stands in order
in_wave : (w : ℕ) (xs : List PlainObject) → AllByRecursion (IsOfOrder w) xs → AllLater ObjectRises xs → AllLater Precedes xs
in_wave w [] h k = tt
in_wave w (x ∷ xs) h k = (all_both (IsOfOrder w) (ObjectRises x) (Precedes x) (λ y e f. inr (h.0 ∙ sym e, f)) xs h.1 k.0, in_wave w xs h.1 k.1)

abbrev IsUpTo : ℕ → PlainObject → Type 0
IsUpTo w o = object_wave o ≤ w

-- what stands after so many waves is of these waves and in order
pub record IsOrdered (w : ℕ) (xs : List PlainObject) : Type 0 where
  pub up_to : AllByRecursion (IsUpTo w) xs
  pub in_order : AllLater Precedes xs

one_wave_more : (load : Loaded) (before : World) (w : ℕ) → IsOrdered w before.objects → IsOrdered (suc w) (before.objects ++ wave_grown load before (suc w))
one_wave_more load before w h =
    let own = grown_of_wave load before (suc w) in
    record {
      up_to = all_append (IsUpTo (suc w)) before.objects (wave_grown load before (suc w)) (all_imp (IsUpTo w) (IsUpTo (suc w)) (λ o e. omega arith) before.objects h.up_to) (all_imp (IsOfOrder (suc w)) (IsUpTo (suc w)) (λ o e. omega arith) (wave_grown load before (suc w)) own);
      in_order = later_append Precedes before.objects (wave_grown load before (suc w)) h.in_order (in_wave (suc w) (wave_grown load before (suc w)) own (grown_rise load before (suc w))) (all_imp (IsUpTo w) (λ x. AllByRecursion (Precedes x) (wave_grown load before (suc w))) (λ x e. all_imp (IsOfOrder (suc w)) (Precedes x) (λ y f. inl (omega arith)) (wave_grown load before (suc w)) own) before.objects h.up_to);
    }

ordered_after : (load : Loaded) (w : ℕ) → IsOrdered w (world_after load w).objects
unfolding wave_world
ordered_after load zero = record { up_to = tt; in_order = tt }
ordered_after load (suc w) = one_wave_more load (world_after load w) w (ordered_after load w)

pub committed_in_order : (load : Loaded) → AllPairs Precedes (committed load)
committed_in_order load = pairs_from_later Precedes (committed load) (ordered_after load 6).in_order
