-- Where no two objects have one type and one full name, the order doesn't matter in which they are looked through for one.
use Rattle.std.proofs.Common.{◌≡◌, ℕ, List, [], ◌∷◌, map, cond, Bool, true, false, Some, refl, sym, ap, ◌∙◌, true≢false}
use Rattle.std.specs.Prelude.{◌&&◌, option_map}
use Rattle.std.specs.Str.{bytes_eq}
use Rattle.std.proofs.lemmas.Bool.Decides.{same_from_decides}
use Rattle.std.proofs.lemmas.Slice.Eq.{bytes_eq-Decides}
use Rattle.site_base.specs.Data.{Data}
use Rattle.site_model.specs.PlainSite.{PlainObject}
use Rattle.eval_meaning.specs.Views.{is_object, object_in, is_absent, sight_by, sight, template_in}
use Rattle.eval_meaning.specs.Load.{Loaded}
use Rattle.eval_meaning.specs.declared.read.Read.{Read}
use Rattle.commit_meaning.specs.Worlds.{shown_as, world_view, first_object}
use Rattle.commit_meaning.proofs.Lists.{all_map}
use Rattle.commit_order.specs.Reordered.{Reordered, empty, behind, swapped, again}
use Rattle.commit_order.specs.Unordered.{unordered_object}
use Rattle.commit_order.specs.Alike.{LookAlike, has_name_of, AreApart}
use Rattle.commit_order.proofs.Lists.{all_reordered}

-- ---- types and names

both_true : (a b : Bool) → (a && b) ≡ true → (a ≡ true) × (b ≡ true)
both_true true true e = (refl, refl)
both_true true false e = absurd (true≢false (sym e))
both_true false b e = absurd (true≢false (sym e))

equal_texts : (xs ys : List ℕ) → bytes_eq xs ys ≡ true → xs ≡ ys
equal_texts xs ys = (bytes_eq-Decides xs ys).0

turned_texts : (xs ys : List ℕ) → bytes_eq xs ys ≡ bytes_eq ys xs
turned_texts xs ys = same_from_decides (bytes_eq xs ys) (bytes_eq ys xs) (bytes_eq-Decides xs ys) ((λ e. sym (equal_texts ys xs e)), (λ e. (bytes_eq-Decides ys xs).1 (sym e)))

turned : (o p : PlainObject) → has_name_of o p ≡ has_name_of p o
turned o p = ap (λ a. a && bytes_eq o.name p.name) (turned_texts o.kind p.kind) ∙ ap (λ b. bytes_eq p.kind o.kind && b) (turned_texts o.name p.name)

-- what finds two objects has the type and the name of both
found_both : (r : Read) (o p : PlainObject) → is_object r (shown_as o) ≡ true → is_object r (shown_as p) ≡ true → has_name_of o p ≡ true
found_both r o p h k =
    let a = both_true (bytes_eq r.kind o.kind) (bytes_eq r.name o.name) h in
    ap (λ x. bytes_eq x p.kind && bytes_eq o.name p.name) (sym (equal_texts r.kind o.kind a.0)) ∙ ap (λ x. bytes_eq r.kind p.kind && bytes_eq x p.name) (sym (equal_texts r.name o.name a.1)) ∙ k

-- ---- objects in another order

pub apart_reordered : (xs ys : List PlainObject) → Reordered xs ys → AreApart xs → AreApart ys
apart_reordered xs ys empty all = tt
apart_reordered xs ys (behind a h) all = (all_reordered (λ p. has_name_of a p ≡ false) _ _ h all.0, apart_reordered _ _ h all.1)
apart_reordered xs ys (swapped a b more) all = ((turned b a ∙ all.0.0, all.1.0), (all.0.1, all.1.1))
apart_reordered xs ys (again h k) all = apart_reordered _ _ k (apart_reordered _ _ h all)

pub first_reordered : (r : Read) (xs ys : List PlainObject) → Reordered xs ys → AreApart xs → first_object r xs ≡ first_object r ys
first_reordered r xs ys empty all = refl
first_reordered r xs ys (behind a h) all = ap (λ o. cond (is_object r (shown_as a)) (Some a) o) (first_reordered r _ _ h all.1)
first_reordered r xs ys (swapped a b more) all = by (is_object r (shown_as a)) (is_object r (shown_as b)) refl refl
  where
    by : (p q : Bool) → is_object r (shown_as a) ≡ p → is_object r (shown_as b) ≡ q → cond p (Some a) (cond q (Some b) (first_object r more)) ≡ cond q (Some b) (cond p (Some a) (first_object r more))
    by true true h k = absurd (true≢false (sym (found_both r a b h k) ∙ all.0.0))
    by true false h k = refl
    by false true h k = refl
    by false false h k = refl
first_reordered r xs ys (again h k) all = first_reordered r _ _ h all ∙ first_reordered r _ _ k (apart_reordered _ _ h all)

-- ---- objects without the numbers of statements

pub apart_unordered : (os : List PlainObject) → AreApart os → AreApart (map unordered_object os)
apart_unordered [] h = tt
apart_unordered (o ∷ os) h = (all_map unordered_object (λ p. has_name_of o p ≡ false) (λ p. has_name_of (unordered_object o) p ≡ false) (λ p e. e) os h.0, apart_unordered os h.1)

pub first_unordered : (r : Read) (os : List PlainObject) → first_object r (map unordered_object os) ≡ option_map unordered_object (first_object r os)
first_unordered r [] = refl
first_unordered r (o ∷ os) = by (is_object r (shown_as o)) (first_unordered r os)
  where
    by : (b : Bool) → first_object r (map unordered_object os) ≡ option_map unordered_object (first_object r os) → cond b (Some (unordered_object o)) (first_object r (map unordered_object os)) ≡ option_map unordered_object (cond b (Some o) (first_object r os))
    by true e = refl
    by false e = e

-- ---- what a view says of a name

tree_of : PlainObject → Data
tree_of o = o.tree

shown_first : (r : Read) (os : List PlainObject) → object_in r (map shown_as os) ≡ option_map tree_of (first_object r (map unordered_object os))
unfolding tree_of
shown_first r [] = refl
shown_first r (o ∷ os) = by (is_object r (shown_as o)) (shown_first r os)
  where
    by : (b : Bool) → object_in r (map shown_as os) ≡ option_map tree_of (first_object r (map unordered_object os)) → cond b (Some o.tree) (object_in r (map shown_as os)) ≡ option_map tree_of (cond b (Some (unordered_object o)) (first_object r (map unordered_object os)))
    by true e = refl
    by false e = e

module _ (load other : Loaded) (os ps : List PlainObject) (found : (r : Read) → first_object r (map unordered_object os) ≡ first_object r (map unordered_object ps)) where
  sights : (r : Read) → sight (world_view load os) r ≡ sight (world_view other ps) r
  unfolding sight
  sights r = ap (λ o. sight_by o (is_absent (world_view load os) r)) (shown_first r os ∙ ap (option_map tree_of) (found r) ∙ sym (shown_first r ps))

  pub worlds_look_alike : load.store ≡ other.store → ((kind name : List ℕ) → template_in kind name load.templates ≡ template_in kind name other.templates) → LookAlike (world_view load os) (world_view other ps)
  worlds_look_alike store templates = record { store = store; files = refl; templates = templates; sights = sights }
