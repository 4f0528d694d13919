-- An item that is kept makes the object that it made, under its new number and at its new place.
use Rattle.std.proofs.Common.{◌≡◌, ℕ, List, [], ◌∷◌, None, refl, sym, ap, ◌∙◌, subst}
use Rattle.site_base.specs.Data.{Data}
use Rattle.site_base.specs.declared.diag.Diag.{Diag}
use Rattle.site_base.specs.declared.item_no.ItemNo.{ItemNo}
use Rattle.site_base.specs.declared.place.Place.{Place}
use Rattle.site_model.specs.PlainSite.{PlainObject}
use Rattle.object_types.specs.Checks.{object_faults}
use Rattle.object_types.specs.Names.{type_named}
use Rattle.eval_meaning.specs.Load.{Loaded}
use Rattle.eval_meaning.specs.Registered.{PlainItem}
use Rattle.eval_meaning.specs.States as outcome
use Rattle.eval_meaning.specs.States.{Outcome, gives, faults}
use Rattle.eval_meaning.specs.Views.{View}
use Rattle.eval_meaning.specs.declared.read.Read.{Read}
use Rattle.commit_meaning.specs.Answers.{Answer, answered, made, diagnosed, blocked, diags_in}
use Rattle.commit_meaning.specs.Items.{checked, checked_by, item_answer, item_run}
use Rattle.commit_meaning.specs.Staying.{Stays}
use Rattle.commit_meaning.specs.Worlds.{world_view}
use Rattle.commit_meaning.proofs.ViewAnswers.{answers_stay}
use Rattle.commit_order.proofs.Answers.{answers_alike}
use Rattle.commit_places.specs.Alike.{AlikeItems, AlikeObjects}
use Rattle.commit_places.specs.MovedAnswers.{moved_object}
use Rattle.commit_places.proofs.Commits.{items_alike}
use Rattle.place_laws.specs.Alike.{nowhere}
use Rattle.kept_tasks.specs.Bare.{Agree, bare_item}
use Rattle.kept_tasks.specs.Kept.{IsKeptItem, renewed_object, standing, standing_view}
use Rattle.kept_tasks.specs.Reads.{AreReadsOf, IsAnswered, SeenAlike, view_of_reads}
use Rattle.kept_tasks.proofs.Carried.{carried, moved_read, read_in}
use Rattle.kept_tasks.proofs.Numbers.{Speaks, item_speaks, made_at, made_numbered, numbered}
use Rattle.kept_tasks.proofs.Reading.{answered_by_reads, made_before, made_behind, unblocked}
use Rattle.kept_tasks.proofs.Seen.{is_part, unruled, unruled_looks, views_alike}
use Rattle.kept_tasks.proofs.Told.{item_right}

pub made_of : {A : Type 0} (a : Answer A) → Speaks a → IsAnswered a → diags_in a ≡ [] → (x : A) × (a ≡ made x)
made_of (made x) s h e = (x, refl)
made_of (diagnosed []) s h e = elim s [ ]
made_of (diagnosed (d ∷ ds)) s h e = absurd cc
made_of (blocked r) s h e = elim h [ ]

-- over a whole world, with its rules or without them, the same is answered
module _ (load : Loaded) (os : List PlainObject) (rs : List Read) where
  abbrev part : View
  part = view_of_reads load (world_view load os) rs

  pub item_stays : (i : PlainItem) → Stays (item_answer part i) (item_answer (world_view load os) i)
  item_stays i =
      subst (Stays (item_answer part i)) ((answers_alike (unruled (world_view load os)) (world_view load os) (unruled_looks (world_view load os))).items i)
      ((answers_stay part (unruled (world_view load os)) (is_part load os rs)).items i)

-- items without their numbers are alike
alike_numbered : (i j : PlainItem) → bare_item i ≡ bare_item j → AlikeItems i (numbered i.number j)
alike_numbered i j h = ap (numbered i.number) h

module _ (view other : View) (i j : PlainItem) (alike : AlikeObjects (item_answer view i) (item_answer other (numbered i.number j))) where
  matched : (o : PlainObject) (a b : Answer PlainObject) → a ≡ made o → AlikeObjects a b → (p : PlainObject) × (b ≡ made p) × (moved_object nowhere o ≡ moved_object nowhere p)
  matched o (made q) (made p) e h = (p, refl, (let q_is : q ≡ o = cc in ap (moved_object nowhere) (sym q_is) ∙ cc))
  matched o (made q) (diagnosed ds) e h = absurd cc
  matched o (made q) (blocked r) e h = absurd cc
  matched o (diagnosed ds) b e h = absurd cc
  matched o (blocked r) b e h = absurd cc

  placed : (o p : PlainObject) → moved_object nowhere o ≡ moved_object nowhere p → p.place ≡ j.place → record p { number = j.number } ≡ renewed_object j o
  placed o p h at =
      ap (λ (l : Place). record p { number = j.number; place = l }) at
      ∙ sym (ap (λ (x : PlainObject). record x { number = j.number; place = j.place }) h)

  made_renewed : (o : PlainObject) → item_answer view i ≡ made o → item_answer other j ≡ made (renewed_object j o)
  made_renewed o e =
      let m = matched o (item_answer view i) (item_answer other (numbered i.number j)) e alike in
      let at = made_at other (numbered i.number j) m.0 m.1 in
      made_numbered j.number (numbered i.number j) other m.0 m.1 ∙ ap made (placed o m.0 m.2 at.0)

-- the read on which an item is blocked doesn't depend on its number
checked_read : (i : PlainItem) (n : ItemNo) (x : Outcome Data) → read_in (checked (numbered n i) (answered n x)) ≡ read_in (checked i (answered i.number x))
checked_read i n (gives d s) =
    by (numbered n i) d (object_faults (record { number = n; place = i.place }) (type_named i.kind) d) ∙ sym (by i d (object_faults (record { number = i.number; place = i.place }) (type_named i.kind) d))
  where
    by : (j : PlainItem) (e : Data) (fs : List Diag) → read_in (checked_by j e fs) ≡ None
    by j e [] = refl
    by j e (f ∷ fs) = refl
checked_read i n (faults l k t rs) = refl
checked_read i n (outcome.blocked r rs) = refl

numbered_read : (view : View) (n : ItemNo) (i : PlainItem) → read_in (item_answer view (numbered n i)) ≡ read_in (item_answer view i)
unfolding item_answer item_run
numbered_read view n i = checked_read i n (item_run view i)

-- ---- items that read alike

module _ (old new : Loaded) (os ps : List PlainObject) (agree : Agree old new) (i j : PlainItem) (same : bare_item i ≡ bare_item j) where
  abbrev world : View
  world = world_view old os

  abbrev other : View
  other = world_view new ps

  alike : (rs : List Read) → SeenAlike world other rs → AlikeObjects (item_answer (view_of_reads old world rs) i) (item_answer (view_of_reads new other rs) (numbered i.number j))
  alike rs seen =
      items_alike (view_of_reads old world rs) (view_of_reads new other rs) (views_alike old new world other rs agree seen) i (numbered i.number j) (alike_numbered i j same)

  same_read : (rs : List Read) → SeenAlike world other rs → read_in (item_answer (view_of_reads old world rs) i) ≡ read_in (item_answer (view_of_reads new other rs) j)
  same_read rs seen =
      sym (moved_read (moved_object nowhere) (item_answer (view_of_reads old world rs) i)) ∙ ap read_in (alike rs seen)
      ∙ moved_read (moved_object nowhere) (item_answer (view_of_reads new other rs) (numbered i.number j)) ∙ numbered_read (view_of_reads new other rs) i.number j

  -- items that are alike have the same reads, where these find the same
  pub item_reads : (rs : List Read) → AreReadsOf (λ view. item_answer view i) old os rs → SeenAlike world other rs → AreReadsOf (λ view. item_answer view j) new ps rs
  item_reads rs are seen = carried world other (λ qs. item_answer (view_of_reads old world qs) i) (λ qs. item_answer (view_of_reads new other qs) j) same_read rs seen are

  -- and the one makes of the new load what the other made of the old one
  pub item_follows : (rs : List Read) (o : PlainObject) → AreReadsOf (λ view. item_answer view i) old os rs → SeenAlike world other rs → item_answer world i ≡ made o → item_answer other j ≡ made (renewed_object j o)
  item_follows rs o are seen e =
      let old_part = view_of_reads old world rs in
      let new_part = view_of_reads new other rs in
      let by_reads : IsAnswered (item_answer old_part i) = answered_by_reads (λ view. item_answer view i) old os rs are in
      let before : item_answer old_part i ≡ made o = made_before (item_answer old_part i) (item_answer world i) o by_reads (item_stays old os rs i) e in
      made_behind (item_answer new_part j) (item_answer other j) (renewed_object j o) (item_stays new ps rs j) (made_renewed old_part new_part i j (alike rs seen) o before)

module _ (phases : List PlainObject → List (List Diag)) (old new : Loaded) (w : ℕ) (j : PlainItem) (kept : IsKeptItem phases old new w j) where
  abbrev reads : List Read
  reads = kept.reads.reads

  abbrev old_part : View
  old_part = view_of_reads old (standing_view old w) reads

  made_old : (o : PlainObject) × (item_answer (standing_view old w) kept.task ≡ made o)
  made_old =
      made_of (item_answer (standing_view old w) kept.task) (item_speaks (standing_view old w) kept.task)
      (unblocked (item_answer old_part kept.task) (item_answer (standing_view old w) kept.task) (answered_by_reads (λ view. item_answer view kept.task) old (standing old w) reads kept.reads.are) (item_stays old (standing old w) reads kept.task))
      (item_right phases old w kept.wave kept.gave kept.task kept.had)

  -- what the new load makes of it is what the old one made
  pub item_kept : (o : PlainObject) × (item_answer (standing_view old w) kept.task ≡ made o) × (item_answer (standing_view new w) j ≡ made (renewed_object j o))
  item_kept =
      (made_old.0, made_old.1, item_follows old new (standing old w) (standing new w) kept.agree kept.task j kept.same reads made_old.0 kept.reads.are kept.reads.alike made_old.1)
