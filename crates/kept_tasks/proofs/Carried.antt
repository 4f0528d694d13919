-- What a task reads, where its answers are blocked on the same reads as those of another one.
use Rattle.std.proofs.Common.{◌≡◌, List, [], ◌∷◌, ◌++◌, Option, Some, None, refl, sym, ap, ◌∙◌, subst, append_assoc, append-nil}
use Rattle.eval_meaning.specs.Views.{View, sight}
use Rattle.eval_meaning.specs.declared.read.Read.{Read}
use Rattle.commit_meaning.specs.Answers.{Answer, made, diagnosed, blocked}
use Rattle.commit_places.specs.MovedAnswers.{moved_answer}
use Rattle.place_laws.specs.Alike.{nowhere}
use Rattle.kept_tasks.specs.Reads.{AreReadsBehind, IsAnswered, SeenAlike}

-- the read on which an answer is blocked
abbrev pub read_in : {A : Type 0} → Answer A → Option Read
read_in (made a) = None
read_in (diagnosed ds) = None
read_in (blocked r) = Some r

module _ {A : Type 0} where
  of_blocked : (a : Answer A) (r : Read) → read_in a ≡ Some r → a ≡ blocked r
  of_blocked (made a) r h = absurd cc
  of_blocked (diagnosed ds) r h = absurd cc
  of_blocked (blocked q) r h = let one : q ≡ r = cc in ap blocked one

  of_answered : (a : Answer A) → IsAnswered a → read_in a ≡ None
  of_answered (made a) h = refl
  of_answered (diagnosed ds) h = refl
  of_answered (blocked r) h = elim h [ ]

  answered_by : (a : Answer A) → read_in a ≡ None → IsAnswered a
  answered_by (made a) h = tt
  answered_by (diagnosed ds) h = tt
  answered_by (blocked r) h = absurd cc

  -- places change no read
  pub moved_read : (f : A → A) (a : Answer A) → read_in (moved_answer nowhere f a) ≡ read_in a
  moved_read f (made a) = refl
  moved_read f (diagnosed ds) = refl
  moved_read f (blocked r) = refl

module _ {A B : Type 0} (world other : View) (f : List Read → Answer A) (g : List Read → Answer B) (same : (qs : List Read) → SeenAlike world other qs → read_in (f qs) ≡ read_in (g qs)) where
  first_alike : (qs rs : List Read) → SeenAlike world other (qs ++ rs) → SeenAlike world other qs
  first_alike [] rs h = tt
  first_alike (q ∷ qs) rs h = (h.0, first_alike qs rs h.1)

  behind : (before rs : List Read) → SeenAlike world other (before ++ rs) → AreReadsBehind f before rs → AreReadsBehind g before rs
  behind before [] alike h =
      answered_by (g before) (sym (same before (first_alike before [] alike)) ∙ of_answered (f before) h)
  behind before (r ∷ rs) alike h =
      (of_blocked (g before) r (sym (same before (first_alike before (r ∷ rs) alike)) ∙ ap read_in h.0), behind (before ++ r ∷ []) rs (subst (SeenAlike world other) (sym (append_assoc before (r ∷ []) rs)) alike) h.1)

  -- where both are blocked on the same reads, the reads of the one are those of the other
  pub carried : (rs : List Read) → SeenAlike world other rs → AreReadsBehind f [] rs → AreReadsBehind g [] rs
  carried rs alike h = behind [] rs alike h
