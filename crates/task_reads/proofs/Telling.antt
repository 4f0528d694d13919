-- What a task was told, with one read more.
use Rattle.std.proofs.Common.{◌≡◌, ℕ, List, [], ◌∷◌, ◌++◌, cond, Bool, true, false, Some, None, Result, Ok, Err, map, refl, sym, ap, ◌∙◌, subst, append_assoc}
use Rattle.std.specs.Prelude.{OnOk, option_map}
use Rattle.std.specs.Arc.{arc_value}
use Rattle.std.specs.List.{filter, flat_map}
use Rattle.site_base.specs.Data.{Data}
use Rattle.site_base.specs.View.{view as tree_view}
use Rattle.site_model.specs.PlainSite.{PlainObject}
use Rattle.site_model.specs.declared.object.Object.{Object}
use Rattle.dsl_value.specs.PlainStores.{PlainStore, plain_store}
use Rattle.eval_meaning.specs.Load.{Loaded}
use Rattle.eval_meaning.specs.Registered.{PlainTemplate}
use Rattle.eval_meaning.specs.Views.{View, Shown, Sight, shown, absent, sight, sight_by, object_in, is_absent}
use Rattle.eval_meaning.specs.declared.read.Read.{Read}
use Rattle.eval_work.specs.Lists.{object_at}
use Rattle.eval_work.specs.Works.{plain_template, shown_object, view_of}
use Rattle.eval_work.specs.declared.view.Known.{Known}
use Rattle.eval_work.specs.declared.view.WorldView.{WorldView}
use Rattle.eval_work.proofs.Found.{shown_at}
use Rattle.item_start.specs.Ready.{IsLawfulView}
use Rattle.eval_work.specs.Kept.{HasGlobals, IsTold}
use Rattle.commit_meaning.specs.Worlds.{world_view}
use Rattle.kept_tasks.specs.Reads.{found, is_absent as says_absent, view_of_reads}
use Rattle.task_reads.specs.Looks.{AreSeenIn, IsSeenIn, PlainLook, reads_of}
use Rattle.task_reads.specs.Telling.{IsToldOf, looks_told}
use Rattle.task_reads.specs.declared.told.Told.{Told}

-- ---- what a world says of a read

pub sight_shown : (world : View) (r : Read) (d : Data) → object_in r world.objects ≡ Some d → sight world r ≡ shown d
unfolding sight
sight_shown world r d h = ap (λ o. sight_by o (is_absent world r)) h

pub sight_absent : (world : View) (r : Read) → object_in r world.objects ≡ None → is_absent world r ≡ true → sight world r ≡ absent
unfolding sight
sight_absent world r h k = ap (λ o. sight_by o (is_absent world r)) h ∙ ap (sight_by None) k

pub sight_found : (w : WorldView) (r : Read) (o : Object) → object_at r.kind r.name w.objects.now ≡ Some o → sight (view_of w) r ≡ shown (tree_view (arc_value o.tree))
sight_found w r o h = sight_shown (view_of w) r (tree_view (arc_value o.tree)) (shown_at r w.objects.now ∙ ap (option_map (λ (x : Object). tree_view (arc_value x.tree))) h)

pub sight_lost : (w : WorldView) (r : Read) → object_at r.kind r.name w.objects.now ≡ None → is_absent (view_of w) r ≡ true → sight (view_of w) r ≡ absent
sight_lost w r h k = sight_absent (view_of w) r (shown_at r w.objects.now ∙ ap (option_map (λ (x : Object). tree_view (arc_value x.tree))) h) k

-- ---- one read more

flat_more : {A B : Type 0} (f : A → List B) (xs : List A) (x : A) → flat_map f (xs ++ x ∷ []) ≡ flat_map f xs ++ f x
flat_more f [] x = append_nil (f x)
  where
    append_nil : {C : Type 0} (ys : List C) → ys ++ [] ≡ ys
    append_nil [] = refl
    append_nil (y ∷ ys) = ap (λ l. y ∷ l) (append_nil ys)
flat_more f (y ∷ xs) x = ap (λ l. f y ++ l) (flat_more f xs x) ∙ sym (append_assoc (f y) (flat_map f xs) (f x))

filter_more : {A : Type 0} (p : A → Bool) (xs : List A) (x : A) → filter p (xs ++ x ∷ []) ≡ filter p xs ++ cond (p x) (x ∷ []) []
filter_more p [] x = refl
filter_more p (y ∷ xs) x = by (p y) (filter_more p xs x)
  where
    by : (b : Bool) → filter p (xs ++ x ∷ []) ≡ filter p xs ++ cond (p x) (x ∷ []) [] → cond b (y ∷ filter p (xs ++ x ∷ [])) (filter p (xs ++ x ∷ [])) ≡ cond b (y ∷ filter p xs) (filter p xs) ++ cond (p x) (x ∷ []) []
    by true h = ap (λ l. y ∷ l) h
    by false h = h

reads_more : (ls : List PlainLook) (l : PlainLook) → reads_of (ls ++ l ∷ []) ≡ reads_of ls ++ l.read ∷ []
reads_more [] l = refl
reads_more (k ∷ ls) l = ap (λ rs. k.read ∷ rs) (reads_more ls l)

seen_more : (world : View) (ls : List PlainLook) (l : PlainLook) → AreSeenIn world ls → IsSeenIn world l → AreSeenIn world (ls ++ l ∷ [])
seen_more world [] l h k = (k, tt)
seen_more world (m ∷ ls) l h k = (h.0, seen_more world ls l h.1 k)

module _ (world : View) (old new : Told) (l : PlainLook) (h : IsToldOf world old) (looks : looks_told new ≡ looks_told old ++ l ∷ []) where
  reads : reads_of (looks_told new) ≡ reads_of (looks_told old) ++ l.read ∷ []
  reads = ap reads_of looks ∙ reads_more (looks_told old) l

  told_more : IsSeenIn world l → map shown_object new.objects ≡ map shown_object old.objects ++ found l.read (sight world l.read) → new.known.absent.items ≡ old.known.absent.items ++ cond (says_absent (sight world l.read)) (l.read ∷ []) []
      → new.known.whole.items ≡ old.known.whole.items → IsToldOf world new
  told_more seen objects gone whole = record {
    objects = objects ∙ ap (λ os. os ++ found l.read (sight world l.read)) h.objects ∙ sym (flat_more (λ r. found r (sight world r)) (reads_of (looks_told old)) l.read) ∙ ap (flat_map (λ r. found r (sight world r))) (sym reads);
    absent = gone ∙ ap (λ rs. rs ++ cond (says_absent (sight world l.read)) (l.read ∷ []) []) h.absent ∙ sym (filter_more (λ r. says_absent (sight world r)) (reads_of (looks_told old)) l.read) ∙ ap (filter (λ r. says_absent (sight world r))) (sym reads);
    whole = whole ∙ h.whole;
    seen = subst (AreSeenIn world) (sym looks) (seen_more world (looks_told old) l h.seen seen);
  }

no_more : {A : Type 0} (xs : List A) → xs ≡ xs ++ []
no_more [] = refl
no_more (x ∷ xs) = ap (λ l. x ∷ l) (no_more xs)

-- an object that was found is shown
pub told_shown : {E : Type 0} (world : View) (old new : Told) (r : Read) (d : Data) (res : Result Unit E) → IsToldOf world old → sight world r ≡ shown d
    → OnOk res (map shown_object new.objects ≡ map shown_object old.objects ++ (record { kind = r.kind; name = r.name; tree = d }) ∷ []) → OnOk res (new.known ≡ old.known)
    → OnOk res (looks_told new ≡ looks_told old ++ (record { read = r; tree = Some d }) ∷ []) → OnOk res (IsToldOf world new)
told_shown world old new r d (Err e) h at objects known looks = tt
told_shown world old new r d (Ok u) h at objects known looks =
    told_more world old new (record { read = r; tree = Some d }) h looks at
    (objects ∙ ap (λ s. map shown_object old.objects ++ found r s) (sym at))
    (ap (λ (k : Known). k.absent.items) known ∙ no_more old.known.absent.items ∙ ap (λ s. old.known.absent.items ++ cond (says_absent s) (r ∷ []) []) (sym at))
    (ap (λ (k : Known). k.whole.items) known)

-- a name that is absent is noted
pub told_lacking : {E : Type 0} (world : View) (old new : Told) (r : Read) (res : Result Unit E) → IsToldOf world old → sight world r ≡ absent
    → OnOk res (new.objects ≡ old.objects) → OnOk res (new.known.absent.items ≡ old.known.absent.items ++ r ∷ []) → OnOk res (new.known.whole.items ≡ old.known.whole.items)
    → OnOk res (looks_told new ≡ looks_told old ++ (record { read = r; tree = None }) ∷ []) → OnOk res (IsToldOf world new)
told_lacking world old new r (Err e) h at objects gone whole looks = tt
told_lacking world old new r (Ok u) h at objects gone whole looks =
    told_more world old new (record { read = r; tree = None }) h looks at
    (ap (map shown_object) objects ∙ no_more (map shown_object old.objects) ∙ ap (λ s. map shown_object old.objects ++ found r s) (sym at))
    (gone ∙ ap (λ s. old.known.absent.items ++ cond (says_absent s) (r ∷ []) []) (sym at))
    whole

pub read_more : {E : Type 0} (old new : Told) (l : PlainLook) (res : Result Unit E) → OnOk res (looks_told new ≡ looks_told old ++ l ∷ []) → OnOk res (reads_of (looks_told new) ≡ reads_of (looks_told old) ++ l.read ∷ [])
read_more old new l (Err e) h = tt
read_more old new l (Ok u) h = ap reads_of h ∙ reads_more (looks_told old) l

-- ---- the view of what was told

abbrev viewed : PlainStore → List PlainTemplate → List Shown → List Read → List (List ℕ) → View
viewed store templates objects gone whole = record { store = store; templates = templates; rules = []; objects = objects; absent = gone; whole = whole; files = [] }

-- it is the view of the reads
pub told_view : (w : WorldView) (t : Told) (load : Loaded) (os : List PlainObject) → view_of w ≡ world_view load os → IsToldOf (view_of w) t
    → viewed (plain_store w.store.now) (map plain_template w.templates.now) (map shown_object t.objects) t.known.absent.items t.known.whole.items ≡ view_of_reads load (world_view load os) (reads_of (looks_told t))
told_view w t load os e h =
    ap (λ xs. viewed (plain_store w.store.now) (map plain_template w.templates.now) xs t.known.absent.items t.known.whole.items) h.objects
    ∙ ap (λ rs. viewed (plain_store w.store.now) (map plain_template w.templates.now) (flat_map (λ r. found r (sight (view_of w) r)) (reads_of (looks_told t))) rs t.known.whole.items) h.absent
    ∙ ap (viewed (plain_store w.store.now) (map plain_template w.templates.now) (flat_map (λ r. found r (sight (view_of w) r)) (reads_of (looks_told t))) (filter (λ r. says_absent (sight (view_of w) r)) (reads_of (looks_told t)))) h.whole
    ∙ ap (λ (v : View). viewed v.store v.templates (flat_map (λ r. found r (sight v r)) (reads_of (looks_told t))) (filter (λ r. says_absent (sight v r)) (reads_of (looks_told t))) []) e

-- a view with the store and the templates of a lawful one is lawful
pub lawful_like : (v w : WorldView) → w.store.now ≡ v.store.now → w.templates.now ≡ v.templates.now → IsLawfulView v → IsLawfulView w
lawful_like v w stores templates h = record {
  globals = subst HasGlobals (sym stores) h.globals;
  told = record { templates = λ kind name t at. subst (λ c. Rattle.eval_work.specs.Kept.PairsNamed c t.captured) (sym stores) (h.told.templates kind name t (ap (λ ts. Rattle.eval_meaning.specs.Views.template_in kind name (map plain_template ts)) (sym templates) ∙ at)) };
}
