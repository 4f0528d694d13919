-- The view of some reads is part of the world of which they are.
use Rattle.std.proofs.Common.{◌≡◌, ℕ, List, [], ◌∷◌, ◌++◌, ◌||◌, ◌&&◌, cond, Bool, true, false, Option, Some, None, map, refl, sym, ap, ap₂, ◌∙◌}
use Rattle.std.specs.List.{filter, flat_map, list_any}
use Rattle.std.specs.Str.{bytes_eq}
use Rattle.std.proofs.lemmas.Slice.Eq.{bytes_eq-Decides}
use Rattle.site_base.specs.Data.{Data}
use Rattle.site_model.specs.PlainSite.{PlainObject}
use Rattle.dsl_value.specs.PlainStores.{PlainStore}
use Rattle.eval_meaning.specs.Load.{Loaded}
use Rattle.eval_meaning.specs.Registered.{PlainTemplate}
use Rattle.eval_meaning.specs.Views.{View, Shown, Sight, shown, absent, undecided, sight, sight_by, is_read, object_in, IsPart}
use Rattle.eval_meaning.specs.declared.read.Read.{Read}
use Rattle.commit_meaning.specs.Worlds.{world_view}
use Rattle.commit_order.specs.Alike.{LookAlike}
use Rattle.place_laws.specs.Alike.{nowhere, AlikeViews}
use Rattle.place_laws.specs.MovedStates.{moved_store, moved_template}
use Rattle.kept_tasks.specs.Bare.{Agree}
use Rattle.kept_tasks.specs.Reads.{SeenAlike, found, is_absent, view_of_reads}

-- ---- reads

both_true : (a b : Bool) → (a && b) ≡ true → (a ≡ true) × (b ≡ true)
both_true true true h = (refl, refl)
both_true true false h = absurd cc
both_true false b h = absurd cc

one_read : (r q : Read) → is_read r q ≡ true → r ≡ q
one_read r q h =
    let parts = both_true (bytes_eq r.kind q.kind) (bytes_eq r.name q.name) h in
    let kinds : r.kind ≡ q.kind = (bytes_eq-Decides r.kind q.kind).0 parts.0 in
    let names : r.name ≡ q.name = (bytes_eq-Decides r.name q.name).0 parts.1 in
    let both : List ℕ → List ℕ → Read = λ k n. record { kind = k; name = n } in
    ap (λ k. both k r.name) kinds ∙ ap (both q.kind) names

same_data : (d e : Data) → shown d ≡ shown e → d ≡ e
same_data d e h = cc

same_some : (d e : Data) → Some d ≡ Some e → d ≡ e
same_some d e h = cc

-- ---- what a view says, from its two looks

from_shown : (o : Option Data) (b : Bool) (d : Data) → sight_by o b ≡ shown d → o ≡ Some d
from_shown (Some e) b d h = ap Some (same_data e d h)
from_shown None true d h = absurd cc
from_shown None false d h = absurd cc

from_absent : (o : Option Data) (b : Bool) → sight_by o b ≡ absent → b ≡ true
from_absent (Some e) b h = absurd cc
from_absent None true h = refl
from_absent None false h = absurd cc

or_none : (b : Bool) → (b || false) ≡ true → b ≡ true
or_none true h = refl
or_none false h = absurd cc

either : (a b : Bool) → (a || b) ≡ true → (a ≡ false → b ≡ true)
either true b h e = absurd cc
either false b h e = h

module _ (world : View) (r : Read) where
  finds : (d : Data) (rs : List Read) → object_in r (flat_map (λ q. found q (sight world q)) rs) ≡ Some d → sight world r ≡ shown d
  finds d [] h = absurd cc
  finds d (q ∷ rs) h = by (finds d rs) (sight world q) refl h
    where
      hit : (e : Data) → sight world q ≡ shown e → (b : Bool) → is_read r q ≡ b → (object_in r (flat_map (λ p. found p (sight world p)) rs) ≡ Some d → sight world r ≡ shown d)
          → cond b (Some e) (object_in r (flat_map (λ p. found p (sight world p)) rs)) ≡ Some d → sight world r ≡ shown d
      hit e at true t rest k = ap (sight world) (one_read r q t) ∙ at ∙ ap shown (same_some e d k)
      hit e at false t rest k = rest k

      by : (object_in r (flat_map (λ p. found p (sight world p)) rs) ≡ Some d → sight world r ≡ shown d) → (o : Sight) → sight world q ≡ o
          → object_in r (found q o ++ flat_map (λ p. found p (sight world p)) rs) ≡ Some d → sight world r ≡ shown d
      by rest (shown e) at k = hit e at (is_read r q) refl rest k
      by rest absent at k = rest k
      by rest undecided at k = rest k

  lacks : (rs : List Read) → list_any (is_read r) (filter (λ q. is_absent (sight world q)) rs) ≡ true → sight world r ≡ absent
  lacks [] h = absurd cc
  lacks (q ∷ rs) h = by (lacks rs) (sight world q) refl h
    where
      none : (b : Bool) → is_read r q ≡ b → sight world q ≡ absent → (list_any (is_read r) (filter (λ p. is_absent (sight world p)) rs) ≡ true → sight world r ≡ absent)
          → (b || list_any (is_read r) (filter (λ p. is_absent (sight world p)) rs)) ≡ true → sight world r ≡ absent
      none true t at rest k = ap (sight world) (one_read r q t) ∙ at
      none false t at rest k = rest k

      by : (list_any (is_read r) (filter (λ p. is_absent (sight world p)) rs) ≡ true → sight world r ≡ absent) → (o : Sight) → sight world q ≡ o
          → list_any (is_read r) (cond (is_absent o) (q ∷ filter (λ p. is_absent (sight world p)) rs) (filter (λ p. is_absent (sight world p)) rs)) ≡ true → sight world r ≡ absent
      by rest (shown e) at k = rest k
      by rest absent at k = none (is_read r q) refl at rest k
      by rest undecided at k = rest k

-- ---- the world without its rules

abbrev pub unruled : View → View
unruled view = record view { rules = [] }

unruled_sight : (view : View) (r : Read) → sight view r ≡ sight (unruled view) r
unfolding sight
unruled_sight view r = refl

pub unruled_looks : (view : View) → LookAlike (unruled view) view
unruled_looks view = record { store = refl; files = refl; templates = λ kind name. refl; sights = λ r. sym (unruled_sight view r) }

module _ (load : Loaded) (os : List PlainObject) (rs : List Read) where
  abbrev world : View
  world = world_view load os

  abbrev view : View
  view = view_of_reads load world rs

  shows : (r : Read) (d : Data) → sight view r ≡ shown d → sight (unruled world) r ≡ shown d
  unfolding sight
  shows r d h = finds world r d rs (from_shown (object_in r view.objects) (list_any (is_read r) view.absent || false) d h)

  gone : (r : Read) → sight view r ≡ absent → sight (unruled world) r ≡ absent
  unfolding sight
  gone r h = lacks world r rs (or_none (list_any (is_read r) view.absent) (from_absent (object_in r view.objects) (list_any (is_read r) view.absent || false) h))

  pub is_part : IsPart view (unruled world)
  is_part = record { store = refl; templates = refl; rules = refl; files = refl; shows = shows; lacks = gone }

-- ---- two worlds

module _ (world other : View) where
  objects_alike : (rs : List Read) → SeenAlike world other rs → flat_map (λ r. found r (sight world r)) rs ≡ flat_map (λ r. found r (sight other r)) rs
  objects_alike [] h = refl
  objects_alike (r ∷ rs) h = ap₂ (λ o xs. found r o ++ xs) h.0 (objects_alike rs h.1)

  absent_alike : (rs : List Read) → SeenAlike world other rs → filter (λ r. is_absent (sight world r)) rs ≡ filter (λ r. is_absent (sight other r)) rs
  absent_alike [] h = refl
  absent_alike (r ∷ rs) h = ap₂ (λ o xs. cond (is_absent o) (r ∷ xs) xs) h.0 (absent_alike rs h.1)

abbrev viewed : PlainStore → List PlainTemplate → List Shown → List Read → View
viewed store templates objects gone = record { store = store; templates = templates; rules = []; objects = objects; absent = gone; whole = []; files = [] }

-- the views of reads that two loads see alike, where the loads agree, are alike
pub views_alike : (load other : Loaded) (world stands : View) (rs : List Read) → Agree load other → SeenAlike world stands rs → AlikeViews (view_of_reads load world rs) (view_of_reads other stands rs)
views_alike load other world stands rs agree alike =
    ap (λ s. viewed s (map (moved_template nowhere) load.templates) (view_of_reads load world rs).objects (view_of_reads load world rs).absent) agree.store
    ∙ ap (λ ts. viewed (moved_store nowhere other.store) ts (view_of_reads load world rs).objects (view_of_reads load world rs).absent) agree.templates
    ∙ ap (λ os. viewed (moved_store nowhere other.store) (map (moved_template nowhere) other.templates) os (view_of_reads load world rs).absent) (objects_alike world stands rs alike)
    ∙ ap (viewed (moved_store nowhere other.store) (map (moved_template nowhere) other.templates) (view_of_reads other stands rs).objects) (absent_alike world stands rs alike)
