-- The reads of a task, one after another.
use Rattle.std.proofs.Common.{◌≡◌, List, [], ◌∷◌, ◌++◌, sym, ap, ◌∙◌, subst, append_assoc, append-nil}
use Rattle.site_model.specs.PlainSite.{PlainObject}
use Rattle.eval_meaning.specs.Load.{Loaded}
use Rattle.eval_meaning.specs.Views.{View}
use Rattle.eval_meaning.specs.declared.read.Read.{Read}
use Rattle.commit_meaning.specs.Answers.{Answer, made, diagnosed, blocked}
use Rattle.commit_meaning.specs.Staying.{Stays}
use Rattle.commit_meaning.specs.Worlds.{world_view}
use Rattle.kept_tasks.specs.Reads.{AreReadsBehind, AreReadsOf, IsAnswered, view_of_reads}
use Rattle.task_reads.specs.Looks.{AreSeenIn, IsWithReads, PlainLook, reads_of}

module _ {A : Type 0} (answer : View → Answer A) (world : View) where
  -- reads that follow these ones make the reads of the task with them
  abbrev pub GoesOn : List Read → Type 0
  GoesOn rs =
      (load : Loaded) (os : List PlainObject) → world ≡ world_view load os → (more : List Read)
      → AreReadsBehind (λ qs. answer (view_of_reads load (world_view load os) qs)) rs more → AreReadsOf answer load os (rs ++ more)

  -- over what was told of a world
  abbrev pub Answers : List Read → Answer A → Type 0
  Answers rs a = (load : Loaded) (os : List PlainObject) → world ≡ world_view load os → a ≡ answer (view_of_reads load (world_view load os) rs)

  pub begins : (rs : List Read) → rs ≡ [] → GoesOn rs
  begins rs none load os e more h = subst (λ qs. AreReadsBehind (λ ps. answer (view_of_reads load (world_view load os) ps)) qs more → AreReadsOf answer load os (qs ++ more)) (sym none) (λ k. k) h

  pub goes_on : (rs qs : List Read) (r : Read) → GoesOn rs → Answers rs (blocked r) → qs ≡ rs ++ r ∷ [] → GoesOn qs
  goes_on rs qs r before told longer load os e more h =
      subst (AreReadsOf answer load os) (sym (ap (λ ps. ps ++ more) longer ∙ append_assoc rs (r ∷ []) more))
      (before load os e (r ∷ more) (sym (told load os e), subst (λ ps. AreReadsBehind (λ xs. answer (view_of_reads load (world_view load os) xs)) ps more) longer h))

  there : (x y a : Answer A) → a ≡ x → IsAnswered a → Stays x y → y ≡ a
  there (made b) y a e h k = k ∙ sym e
  there (diagnosed ds) y a e h k = k ∙ sym e
  there (blocked r) y a e h k = let never : ⊥ = subst IsAnswered e h in absurd never

  pub ends : (ls : List PlainLook) (a : Answer A) → GoesOn (reads_of ls) → Answers (reads_of ls) a → IsAnswered a → AreSeenIn world ls
      → ((load : Loaded) (os : List PlainObject) → Stays (answer (view_of_reads load (world_view load os) (reads_of ls))) (answer (world_view load os)))
      → (load : Loaded) (os : List PlainObject) → world ≡ world_view load os → IsWithReads answer load os a ls
  ends ls a before told h seen stays load os e = record {
    answered = there (answer (view_of_reads load (world_view load os) (reads_of ls))) (answer (world_view load os)) a (told load os e) h (stays load os);
    reads = subst (AreReadsOf answer load os) (append-nil (reads_of ls)) (before load os e [] (subst IsAnswered (told load os e) h));
    seen = subst (λ v. AreSeenIn v ls) e seen;
  }
