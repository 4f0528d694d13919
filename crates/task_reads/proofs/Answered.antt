-- A task that is evaluated over what it was told of a world.
use Rattle.std.proofs.Common.{◌≡◌, List, ◌∷◌, ◌++◌, [], map, sym, ap, ◌∙◌, subst}
use Rattle.site_model.specs.PlainSite.{PlainObject}
use Rattle.dsl_value.specs.PlainStores.{plain_store}
use Rattle.eval_meaning.specs.Load.{Loaded}
use Rattle.eval_meaning.specs.Views.{View}
use Rattle.eval_meaning.specs.declared.read.Read.{Read}
use Rattle.eval_work.specs.Works.{plain_template, shown_object, view_of}
use Rattle.eval_work.specs.declared.view.WorldView.{WorldView}
use Rattle.commit_meaning.specs.Answers.{Answer, blocked}
use Rattle.commit_meaning.specs.Staying.{Stays}
use Rattle.commit_meaning.specs.Worlds.{world_view}
use Rattle.kept_tasks.specs.Reads.{IsAnswered, view_of_reads}
use Rattle.task_reads.specs.Looks.{IsWithReads, PlainLook, reads_of}
use Rattle.task_reads.specs.Telling.{IsToldOf, looks_told}
use Rattle.task_reads.specs.declared.told.Told.{Told}
use Rattle.task_reads.proofs.Reading.{Answers, GoesOn, ends, goes_on}
use Rattle.task_reads.proofs.Telling.{told_view}

-- the view of what was told
abbrev pub view_told : WorldView → Told → View
view_told w t = record {
  store = plain_store w.store.now;
  templates = map plain_template w.templates.now;
  rules = [];
  objects = map shown_object t.objects;
  absent = t.known.absent.items;
  whole = t.known.whole.items;
  files = [];
}

module _ {A : Type 0} (answer : View → Answer A) (w : WorldView) (t : Told) (h : IsToldOf (view_of w) t) (v : View) (ev : v ≡ view_told w t) (goes : GoesOn answer (view_of w) (reads_of (looks_told t))) (a : Answer A) (is : a ≡ answer v) where
  answers : Answers answer (view_of w) (reads_of (looks_told t)) a
  answers load os same = is ∙ ap answer (ev ∙ told_view w t load os same h)

  -- it asks for one read more
  pub asks : (r : Read) → a ≡ blocked r → (qs : List Read) → qs ≡ reads_of (looks_told t) ++ r ∷ [] → GoesOn answer (view_of w) qs
  asks r e qs more = goes_on answer (view_of w) (reads_of (looks_told t)) qs r goes (subst (Answers answer (view_of w) (reads_of (looks_told t))) e answers) more

  -- it is answered
  pub is_answered : (ls : List PlainLook) → ls ≡ looks_told t → IsAnswered a
      → ((load : Loaded) (os : List PlainObject) → Stays (answer (view_of_reads load (world_view load os) (reads_of (looks_told t)))) (answer (world_view load os)))
      → (load : Loaded) (os : List PlainObject) → view_of w ≡ world_view load os → IsWithReads answer load os a ls
  is_answered ls el done stays load os same =
      subst (IsWithReads answer load os a) (sym el) (ends answer (view_of w) (looks_told t) a goes answers done h.seen stays load os same)
