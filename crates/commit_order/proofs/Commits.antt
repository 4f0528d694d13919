-- Commits of loads in another order.
use Rattle.std.proofs.Common.{◌≡◌, ℕ, zero, suc, List, [], ◌∷◌, ◌++◌, length, map, false, Option, Some, None, refl, sym, ap, ◌∙◌, arith}
use Rattle.std.specs.Prelude.{slice_get}
use Rattle.std.specs.List.{AllByRecursion}
use Rattle.std.proofs.lemmas.List.{length-map}
use Rattle.site_base.specs.declared.diag.Diag.{Diag}
use Rattle.site_model.specs.PlainSite.{PlainObject}
use Rattle.eval_meaning.specs.Registered.{PlainItem}
use Rattle.eval_meaning.specs.Load.{Loaded}
use Rattle.commit_meaning.specs.Orders.{by_number}
use Rattle.commit_meaning.specs.Waves.{wave_items, wave_grown, wave_world, wave_faults, diag_number, most_items, limited, wave_diags, world_after, diags_of}
use Rattle.commit_meaning.specs.Commits.{committed}
use Rattle.commit_order.specs.Reordered.{Reordered, empty}
use Rattle.commit_order.specs.Unordered.{unordered_item, unordered_object, unordered_diag}
use Rattle.commit_order.specs.Alike.{has_name_of, AreReordered, AreApart, SameObjects, SameFaults}
use Rattle.commit_order.proofs.Lists.{back, as_long, none}
use Rattle.commit_order.proofs.Sorting.{sorted}
use Rattle.commit_order.proofs.Names.{apart_unordered, first_unordered, first_reordered}
use Rattle.commit_order.proofs.Waves.{SameWorlds, items_reordered, world_reordered, faults_reordered}

-- ---- objects that stand apart

all_front : {A : Type 0} (P : A → Type 0) (xs ys : List A) → AllByRecursion P (xs ++ ys) → AllByRecursion P xs
all_front P [] ys h = tt
all_front P (x ∷ xs) ys h = (h.0, all_front P xs ys h.1)

apart_front : (xs ys : List PlainObject) → AreApart (xs ++ ys) → AreApart xs
apart_front [] ys h = tt
apart_front (x ∷ xs) ys h = (all_front (λ p. has_name_of x p ≡ false) xs ys h.0, apart_front xs ys h.1)

-- those before a wave are among those after it
earlier : (load : Loaded) (w : ℕ) → AreApart (world_after load (suc w)).objects → AreApart (world_after load w).objects
unfolding wave_world
earlier load w h = apart_front (world_after load w).objects (wave_grown load (world_after load w) (suc w)) h

-- ---- diagnostics

no_more : {A B : Type 0} (f : A → B) (xs : List A) → map f xs ≡ [] → xs ≡ []
no_more f [] e = refl
no_more f (x ∷ xs) e = absurd cc

-- where one of two lists that are as long ends, so does the other
ends_too : {A : Type 0} (xs ys : List A) (k : ℕ) → length xs ≡ length ys → slice_get xs k ≡ None → slice_get ys k ≡ None
ends_too xs [] k e h = refl
ends_too [] (y ∷ ys) k e h = absurd cc
ends_too (x ∷ xs) (y ∷ ys) zero e h = absurd cc
ends_too (x ∷ xs) (y ∷ ys) (suc k) e h = ends_too xs ys k (omega (arith, e)) h

-- nothing is told where no item is one too many and nothing is wrong
silent : (is js : List PlainItem) (ds es : List Diag) (k : ℕ) → length is ≡ length js → (ds ≡ [] → es ≡ []) → limited (slice_get is k) (by_number diag_number ds) ≡ [] → limited (slice_get js k) (by_number diag_number es) ≡ []
silent is js ds es k e f h = by (slice_get is k) refl h
  where
    by : (o : Option PlainItem) → slice_get is k ≡ o → limited o (by_number diag_number ds) ≡ [] → limited (slice_get js k) (by_number diag_number es) ≡ []
    by (Some i) g h = absurd cc
    by None g h =
        ap (λ o. limited o (by_number diag_number es)) (ends_too is js k e g)
        ∙ ap (by_number diag_number) (f (none (by_number diag_number ds) ds (sorted diag_number ds) h))

module _ (load other : Loaded) (h : AreReordered load other) where
  worlds : (w : ℕ) → AreApart (world_after load w).objects → SameWorlds (world_after load w) (world_after other w)
  worlds zero apart = record { objects = empty; groups = refl }
  worlds (suc w) apart =
      let before : AreApart (world_after load w).objects = earlier load w apart in
      world_reordered load other h (world_after load w) (world_after other w) (worlds w before) before (suc w)

  pub same_objects : AreApart (committed load) → SameObjects load other
  same_objects apart =
      let all = (worlds 6 apart).objects in
      record {
        all = all;
        found = λ r. sym (first_unordered r (committed load)) ∙ first_reordered r (map unordered_object (committed load)) (map unordered_object (committed other)) all (apart_unordered (committed load) apart) ∙ first_unordered r (committed other);
      }

  module _ (w : ℕ) (apart : AreApart (world_after load w).objects) where
    same_worlds : SameWorlds (world_after load w) (world_after other w)
    same_worlds = worlds w apart

    faults : Reordered (map unordered_diag (wave_faults load (world_after load w) (suc w))) (map unordered_diag (wave_faults other (world_after other w) (suc w)))
    faults = faults_reordered load other h (world_after load w) (world_after other w) same_worlds apart (suc w)

    lengths : length (wave_items load (world_after load w) (suc w)) ≡ length (wave_items other (world_after other w) (suc w))
    lengths =
        sym (length-map (wave_items load (world_after load w) (suc w)) unordered_item)
        ∙ as_long _ _ (items_reordered load other h (world_after load w) (world_after other w) same_worlds apart (suc w))
        ∙ length-map (wave_items other (world_after other w) (suc w)) unordered_item

    none_there : wave_faults load (world_after load w) (suc w) ≡ [] → wave_faults other (world_after other w) (suc w) ≡ []
    none_there e = no_more unordered_diag (wave_faults other (world_after other w) (suc w)) (none _ _ faults (ap (map unordered_diag) e))

    none_here : wave_faults other (world_after other w) (suc w) ≡ [] → wave_faults load (world_after load w) (suc w) ≡ []
    none_here e = no_more unordered_diag (wave_faults load (world_after load w) (suc w)) (none _ _ (back _ _ faults) (ap (map unordered_diag) e))

    silent_there : diags_of load (suc w) ≡ [] → diags_of other (suc w) ≡ []
    unfolding wave_diags
    silent_there = silent (wave_items load (world_after load w) (suc w)) (wave_items other (world_after other w) (suc w)) (wave_faults load (world_after load w) (suc w)) (wave_faults other (world_after other w) (suc w)) most_items lengths none_there

    silent_here : diags_of other (suc w) ≡ [] → diags_of load (suc w) ≡ []
    unfolding wave_diags
    silent_here = silent (wave_items other (world_after other w) (suc w)) (wave_items load (world_after load w) (suc w)) (wave_faults other (world_after other w) (suc w)) (wave_faults load (world_after load w) (suc w)) most_items (sym lengths) none_here

    pub same_faults : SameFaults load other w
    same_faults = record { all = faults; none = silent_there; other_none = silent_here }
