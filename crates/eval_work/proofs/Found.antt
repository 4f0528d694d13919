-- The first thing of a type and a name is found by its place.
use Rattle.std.proofs.Common.{◌≡◌, ℕ, suc, Bool, true, false, cond, List, [], ◌∷◌, ◌++◌, length, map, Option, Some, None, refl, sym, ap, ◌∙◌}
use Rattle.std.specs.Prelude.{◌&&◌, option_map, slice_get, option_copied, IfSome, IfNone}
use Rattle.std.specs.Borrow.{Bor}
use Rattle.std.specs.Slice.{IsItemAt}
use Rattle.std.proofs.lemmas.Option.{slice_get-get_or, slice_get_past}
use Rattle.std.specs.Str.{bytes_eq}
use Rattle.std.specs.Arc.{arc_value}
use Rattle.site_base.specs.View.{view}
use Rattle.site_model.specs.declared.object.Object.{Object}
use Rattle.eval_meaning.specs.Views.{object_in, template_in}
use Rattle.eval_meaning.specs.declared.read.Read.{Read}
use Rattle.eval_work.specs.Lists.{object_at, object_key, template_key}
use Rattle.eval_work.specs.Works.{shown_object, plain_template}
use Rattle.eval_work.specs.declared.template.Template.{Template}
use Rattle.eval_work.specs.Placing.{first_place, first_of, placed}

-- ---- one more key

-- a place that is given to one more is moved as all are
moved : (t : Bool) (x : Option ℕ) (m : ℕ) → cond t (first_of (option_map suc x) (suc m)) (option_map suc x) ≡ option_map suc (cond t (first_of x m) x)
moved true None m = refl
moved true (Some i) m = refl
moved false x m = refl

same : (t : Bool) (i m : ℕ) → cond t (first_of (Some i) m) (Some i) ≡ Some i
same true i m = refl
same false i m = refl

pub one_more : (k n : List ℕ) (q : Read) (keys : List Read) → placed k n q.kind q.name (length keys) (first_place k n keys) ≡ first_place k n (keys ++ q ∷ [])
one_more k n q [] = by (bytes_eq k q.kind && bytes_eq n q.name)
  where
    by : (b : Bool) → cond b (first_of None 0) None ≡ cond b (Some 0) (option_map suc (first_place k n []))
    by true = refl
    by false = refl
one_more k n q (r ∷ keys) = by (one_more k n q keys) (bytes_eq k r.kind && bytes_eq n r.name)
  where
    by : placed k n q.kind q.name (length keys) (first_place k n keys) ≡ first_place k n (keys ++ q ∷ []) → (b : Bool) → placed k n q.kind q.name (suc (length keys)) (cond b (Some 0) (option_map suc (first_place k n keys))) ≡ cond b (Some 0) (option_map suc (first_place k n (keys ++ q ∷ [])))
    by rest true = same (bytes_eq k q.kind && bytes_eq n q.name) 0 (suc (length keys))
    by rest false = moved (bytes_eq k q.kind && bytes_eq n q.name) (first_place k n keys) (length keys) ∙ ap (option_map suc) rest

-- ---- what stands at a place

abbrev at_place : {A : Type 0} → Option ℕ → List A → Option A
at_place None xs = None
at_place (Some i) xs = slice_get xs i

behind_one : {A : Type 0} (x : Option ℕ) (a : A) (xs : List A) → at_place x xs ≡ at_place (option_map suc x) (a ∷ xs)
behind_one None a xs = refl
behind_one (Some i) a xs = refl

object_there : (k n : List ℕ) (os : List Object) → object_at k n os ≡ at_place (first_place k n (map object_key os)) os
object_there k n [] = refl
object_there k n (o ∷ os) = by (object_there k n os) (bytes_eq k o.kind && bytes_eq n o.name)
  where
    by : object_at k n os ≡ at_place (first_place k n (map object_key os)) os → (b : Bool) → cond b (Some o) (object_at k n os) ≡ at_place (cond b (Some 0) (option_map suc (first_place k n (map object_key os)))) (o ∷ os)
    by rest true = refl
    by rest false = rest ∙ behind_one (first_place k n (map object_key os)) o os

template_there : (k n : List ℕ) (ts : List Template) → template_in k n (map plain_template ts) ≡ option_map plain_template (at_place (first_place k n (map template_key ts)) ts)
template_there k n [] = refl
template_there k n (t ∷ ts) = by (template_there k n ts) (bytes_eq k t.kind && bytes_eq n t.name)
  where
    by : template_in k n (map plain_template ts) ≡ option_map plain_template (at_place (first_place k n (map template_key ts)) ts) → (b : Bool) → cond b (Some (plain_template t)) (template_in k n (map plain_template ts)) ≡ option_map plain_template (at_place (cond b (Some 0) (option_map suc (first_place k n (map template_key ts)))) (t ∷ ts))
    by rest true = refl
    by rest false = rest ∙ ap (option_map plain_template) (behind_one (first_place k n (map template_key ts)) t ts)

-- an object is found at the place of its key
pub object_found : (k n : List ℕ) (os : List Object) (i : ℕ) → first_place k n (map object_key os) ≡ Some i → object_at k n os ≡ slice_get os i
object_found k n os i e = object_there k n os ∙ ap (λ x. at_place x os) e

pub object_lost : (k n : List ℕ) (os : List Object) → first_place k n (map object_key os) ≡ None → object_at k n os ≡ None
object_lost k n os e = object_there k n os ∙ ap (λ x. at_place x os) e

pub template_found : (k n : List ℕ) (ts : List Template) (i : ℕ) → first_place k n (map template_key ts) ≡ Some i → template_in k n (map plain_template ts) ≡ option_map plain_template (slice_get ts i)
template_found k n ts i e = template_there k n ts ∙ ap (λ x. option_map plain_template (at_place x ts)) e

pub template_lost : (k n : List ℕ) (ts : List Template) → first_place k n (map template_key ts) ≡ None → template_in k n (map plain_template ts) ≡ None
template_lost k n ts e = template_there k n ts ∙ ap (λ x. option_map plain_template (at_place x ts)) e

-- ---- what is read

pub shown_at : (r : Read) (os : List Object) → object_in r (map shown_object os) ≡ option_map (λ o. view (arc_value o.tree)) (object_at r.kind r.name os)
shown_at r [] = refl
shown_at r (o ∷ os) = by (shown_at r os) (bytes_eq r.kind o.kind && bytes_eq r.name o.name)
  where
    by : object_in r (map shown_object os) ≡ option_map (λ x. view (arc_value x.tree)) (object_at r.kind r.name os) → (b : Bool) → cond b (Some (view (arc_value o.tree))) (object_in r (map shown_object os)) ≡ option_map (λ o. view (arc_value o.tree)) (cond b (Some o) (object_at r.kind r.name os))
    by rest true = refl
    by rest false = rest

-- ---- what is lent

pub lent_at : {A : Type 0} (xs : List A) (i : ℕ) (r : Option (Bor A)) → IsItemAt xs i r → option_copied r ≡ slice_get xs i
lent_at xs i None h = sym (slice_get_past xs i h.3)
lent_at xs i (Some x) h = ap Some h.1 ∙ sym (slice_get-get_or xs i x.now h.3.0)

pub some_of : {A B : Type 0} (f : A → B) (r : Option (Bor A)) (x : Option B) → option_map f (option_copied r) ≡ x → IfSome r (λ a. x ≡ Some (f a.now))
some_of f None x e = tt
some_of f (Some a) x e = sym e

pub none_of : {A B : Type 0} (f : A → B) (r : Option (Bor A)) (x : Option B) → option_map f (option_copied r) ≡ x → IfNone r (x ≡ None)
none_of f None x e = sym e
none_of f (Some a) x e = tt

pub some_is : {A : Type 0} (r : Option (Bor A)) (x : Option A) → option_copied r ≡ x → IfSome r (λ a. x ≡ Some a.now)
some_is None x e = tt
some_is (Some a) x e = sym e

pub none_is : {A : Type 0} (r : Option (Bor A)) (x : Option A) → option_copied r ≡ x → IfNone r (x ≡ None)
none_is None x e = sym e
none_is (Some a) x e = tt
