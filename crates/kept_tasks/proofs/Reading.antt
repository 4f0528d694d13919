-- Where a task's reads come to the same in two worlds, its answers there come to the same.
use Rattle.std.proofs.Common.{◌≡◌, List, [], ◌∷◌, ◌++◌, refl, sym, ap, ◌∙◌, subst, append_assoc, append-nil}
use Rattle.site_model.specs.PlainSite.{PlainObject}
use Rattle.eval_meaning.specs.Load.{Loaded}
use Rattle.eval_meaning.specs.Views.{View}
use Rattle.eval_meaning.specs.declared.read.Read.{Read}
use Rattle.commit_meaning.specs.Answers.{Answer, made, diagnosed, blocked}
use Rattle.commit_meaning.specs.Staying.{Stays}
use Rattle.commit_meaning.specs.Worlds.{world_view}
use Rattle.kept_tasks.specs.Reads.{AreReadsBehind, AreReadsOf, IsAnswered, view_of_reads}

module _ {A : Type 0} where
  behind : (answer : List Read → Answer A) (before rs : List Read) → AreReadsBehind answer before rs → IsAnswered (answer (before ++ rs))
  behind answer before [] h = subst (λ qs. IsAnswered (answer qs)) (sym (append-nil before)) h
  behind answer before (r ∷ rs) h = subst (λ qs. IsAnswered (answer qs)) (append_assoc before (r ∷ []) rs) (behind answer (before ++ r ∷ []) rs h.1)

  -- the view of all its reads answers a task
  pub answered_by_reads : (answer : View → Answer A) (load : Loaded) (os : List PlainObject) (rs : List Read) → AreReadsOf answer load os rs → IsAnswered (answer (view_of_reads load (world_view load os) rs))
  answered_by_reads answer load os rs h = behind (λ qs. answer (view_of_reads load (world_view load os) qs)) [] rs h

  -- what is made over a world is made over a part of it that answers
  pub made_before : (x y : Answer A) (a : A) → IsAnswered x → Stays x y → y ≡ made a → x ≡ made a
  made_before (made b) y a h k e = sym k ∙ e
  made_before (diagnosed ds) y a h k e = sym k ∙ e
  made_before (blocked r) y a h k e = elim h [ ]

  pub made_behind : (x y : Answer A) (a : A) → Stays x y → x ≡ made a → y ≡ made a
  made_behind (made b) y a k e = k ∙ e
  made_behind (diagnosed ds) y a k e = absurd cc
  made_behind (blocked r) y a k e = absurd cc

  pub unblocked : (x y : Answer A) → IsAnswered x → Stays x y → IsAnswered y
  unblocked (made b) y h k = subst IsAnswered (sym k) tt
  unblocked (diagnosed ds) y h k = subst IsAnswered (sym k) tt
  unblocked (blocked r) y h k = elim h [ ]

  one_list : (answer : List Read → Answer A) (before rs qs : List Read) → AreReadsBehind answer before rs → AreReadsBehind answer before qs → rs ≡ qs
  one_list answer before [] [] h k = refl
  one_list answer before [] (q ∷ qs) h k = let never : ⊥ = subst IsAnswered k.0 h in absurd never
  one_list answer before (r ∷ rs) [] h k = let never : ⊥ = subst IsAnswered h.0 k in absurd never
  one_list answer before (r ∷ rs) (q ∷ qs) h k =
      let first : r ≡ q = one_read r q (answer before) h.0 k.0 in
      ap (λ x. x ∷ rs) first ∙ ap (λ xs. q ∷ xs) (one_list answer (before ++ q ∷ []) rs qs (subst (λ x. AreReadsBehind answer (before ++ x ∷ []) rs) first h.1) k.1)
    where
      one_read : (r q : Read) (a : Answer A) → a ≡ blocked r → a ≡ blocked q → r ≡ q
      one_read r q a e f = cc

  pub one_reading : (answer : View → Answer A) (load : Loaded) (os : List PlainObject) (rs qs : List Read) → AreReadsOf answer load os rs → AreReadsOf answer load os qs → rs ≡ qs
  one_reading answer load os rs qs h k = one_list (λ ps. answer (view_of_reads load (world_view load os) ps)) [] rs qs h k
