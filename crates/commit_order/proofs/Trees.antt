-- Files that are read in another order have other numbers in places, too: no tree changes.
use Rattle.std.proofs.Common.{◌≡◌, List, [], ◌∷◌, map, Bool, true, false, cond, Option, Some, None, refl, sym, ap, ◌∙◌, subst}
use Rattle.std.specs.Prelude.{option_map}
use Rattle.site_base.specs.declared.place.Place.{Place}
use Rattle.site_model.specs.PlainSite.{PlainObject}
use Rattle.eval_meaning.specs.Views.{is_object}
use Rattle.eval_meaning.specs.Load.{Loaded}
use Rattle.eval_meaning.specs.declared.read.Read.{Read}
use Rattle.commit_meaning.specs.Worlds.{shown_as, first_object}
use Rattle.commit_meaning.specs.Commits.{committed}
use Rattle.commit_meaning.proofs.Lists.{all_map}
use Rattle.place_laws.specs.MovedStates.{moved_loaded}
use Rattle.commit_places.specs.MovedAnswers.{moved_object}
use Rattle.commit_places.proofs.Commits.{committed_moved}
use Rattle.commit_order.specs.Unordered.{unordered_object}
use Rattle.commit_order.specs.Alike.{has_name_of, AreApart, AreReordered, tree_under}
use Rattle.commit_order.proofs.Commits.{same_objects}

module _ (move : Place → Place) where
  apart_moved : (os : List PlainObject) → AreApart os → AreApart (map (moved_object move) os)
  apart_moved [] h = tt
  apart_moved (o ∷ os) h = (all_map (moved_object move) (λ p. has_name_of o p ≡ false) (λ p. has_name_of (moved_object move o) p ≡ false) (λ p e. e) os h.0, apart_moved os h.1)

  tree_moved : (r : Read) (os : List PlainObject) → tree_under r (map (moved_object move) os) ≡ tree_under r os
  tree_moved r [] = refl
  tree_moved r (o ∷ os) = by (is_object r (shown_as o)) (tree_moved r os)
    where
      by : (b : Bool) → tree_under r (map (moved_object move) os) ≡ tree_under r os → option_map (λ p. p.tree) (cond b (Some (moved_object move o)) (first_object r (map (moved_object move) os))) ≡ option_map (λ p. p.tree) (cond b (Some o) (first_object r os))
      by true e = refl
      by false e = e

  tree_unordered : (o : Option PlainObject) → option_map (λ p. p.tree) (option_map unordered_object o) ≡ option_map (λ p. p.tree) o
  tree_unordered (Some o) = refl
  tree_unordered None = refl

  pub same_trees : (load other : Loaded) → AreReordered (moved_loaded move load) other → AreApart (committed load) → (r : Read) → tree_under r (committed load) ≡ tree_under r (committed other)
  same_trees load other h apart r =
      let moved : AreApart (committed (moved_loaded move load)) = subst AreApart (sym (committed_moved move load)) (apart_moved (committed load) apart) in
      sym (tree_moved r (committed load))
      ∙ ap (tree_under r) (sym (committed_moved move load))
      ∙ sym (tree_unordered (first_object r (committed (moved_loaded move load))))
      ∙ ap (option_map (λ p. p.tree)) ((same_objects (moved_loaded move load) other h moved).found r)
      ∙ tree_unordered (first_object r (committed other))
