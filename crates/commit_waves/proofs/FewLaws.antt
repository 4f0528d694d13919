-- A wave that tells nothing makes at most as many objects as it may have items, so that all waves together make few.
use Rattle.std.proofs.Common.{◌≡◌, ◌⊎◌, inl, inr, ◌+◌, ◌<◌, ◌≤◌, ℕ, suc, List, [], ◌∷◌, ◌++◌, Option, Some, None, length, map, slice_get, get_or, arith, refl, sym, ap, ◌∙◌, length-append}
use Rattle.std.specs.List.{flat_map}
use Rattle.std.proofs.lemmas.List.{length-map}
use Rattle.std.proofs.lemmas.Option.{slice_get_cases}
use Rattle.site_base.specs.declared.diag.Diag.{Diag}
use Rattle.site_model.specs.PlainSite.{PlainObject}
use Rattle.eval_meaning.specs.Load.{Loaded}
use Rattle.eval_meaning.specs.Registered.{PlainItem}
use Rattle.commit_meaning.specs.Answers.{Answer, made, diagnosed, blocked, made_in}
use Rattle.commit_meaning.specs.Commits.{committed, first_told, waves}
use Rattle.commit_meaning.specs.Groups.{grown}
use Rattle.commit_meaning.specs.Items.{item_answer}
use Rattle.commit_meaning.specs.Orders.{by_number}
use Rattle.commit_meaning.specs.Waves.{diag_number, diags_of, limited, member_answer, most_items, view_before, wave_diags, wave_faults, wave_grown, wave_items, wave_objects, wave_world, world_after}
use Rattle.commit_meaning.specs.Worlds.{World}

-- ---- one wave

short : {A B : Type 0} (f : A → Answer B) (xs : List A) → length (flat_map (λ x. made_in (f x)) xs) ≤ length xs
short f [] = omega arith
short {A} {B} f (x ∷ xs) = by (short f xs) (f x)
  where
    by : length (flat_map (λ y. made_in (f y)) xs) ≤ length xs → (a : Answer B) → length (made_in a ++ flat_map (λ y. made_in (f y)) xs) ≤ length (x ∷ xs)
    by rest (made b) = omega arith
    by rest (diagnosed ds) = omega arith
    by rest (blocked r) = omega arith

few_items : (load : Loaded) (before : World) (w : ℕ) → wave_diags load before w ≡ [] → length (wave_items load before w) ≤ most_items
unfolding wave_diags
few_items load before w none = by (slice_get_cases items most_items).1
  where
    items : List PlainItem
    items = wave_items load before w

    more : (o : Option PlainItem) → slice_get items most_items ≡ o → limited (slice_get items most_items) (by_number diag_number (wave_faults load before w)) ≡ [] → (i : PlainItem) → o ≡ Some i → length items ≤ most_items
    more o e h i some = let one : limited (Some i) (by_number diag_number (wave_faults load before w)) ≡ [] = sym (ap (λ x. limited x (by_number diag_number (wave_faults load before w))) (e ∙ some)) ∙ h in absurd (cc)

    by : ((i : PlainItem) × (most_items < length items) × (slice_get items most_items ≡ Some i) × (get_or items most_items i ≡ i)) ⊎ ((length items ≤ most_items) × (slice_get items most_items ≡ None)) → length items ≤ most_items
    by (inl h) = more (slice_get items most_items) refl none h.0 h.2
    by (inr h) = h.0

few_more : (load : Loaded) (w n : ℕ) → diags_of load (suc w) ≡ [] → length (world_after load w).objects ≤ n → length (world_after load (suc w)).objects ≤ n + most_items
unfolding wave_world
few_more load w n none few =
    let before = world_after load w in
    let items = few_items load before (suc w) none in
    let objects = short (λ i. item_answer (view_before load before) i) (wave_items load before (suc w)) in
    let joined = length-map (wave_objects load before (suc w)) (λ o. grown o (member_answer load before (suc w) o)) in
    let split = length-append before.objects (wave_grown load before (suc w)) in
    omega (arith, items, objects, joined, split, few)

-- ---- all waves

none_told : (ds : List Diag) (more : List (List Diag)) → first_told (ds ∷ more) ≡ [] → (ds ≡ []) × (first_told more ≡ [])
none_told [] more h = (refl, h)
none_told (d ∷ ds) more h = absurd (cc)

pub committed_few : (load : Loaded) → first_told (map (diags_of load) waves) ≡ [] → length (committed load) ≤ 6000000
committed_few load none =
    let d = diags_of load in
    let first = none_told (d 1) (d 2 ∷ d 3 ∷ d 4 ∷ d 5 ∷ d 6 ∷ []) none in
    let second = none_told (d 2) (d 3 ∷ d 4 ∷ d 5 ∷ d 6 ∷ []) first.1 in
    let third = none_told (d 3) (d 4 ∷ d 5 ∷ d 6 ∷ []) second.1 in
    let fourth = none_told (d 4) (d 5 ∷ d 6 ∷ []) third.1 in
    let fifth = none_told (d 5) (d 6 ∷ []) fourth.1 in
    let sixth = none_told (d 6) [] fifth.1 in
    few_more load 5 5000000 sixth.0 (few_more load 4 4000000 fifth.0 (few_more load 3 3000000 fourth.0 (few_more load 2 2000000 third.0 (few_more load 1 1000000 second.0 (few_more load 0 0 first.0 (omega arith))))))
