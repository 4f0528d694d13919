-- The entries before the first turn, or why there are none.
use Rattle.std.proofs.Common.{◌≡◌, ◌⊎◌, inl, inr, true, ℕ, List, [], Option, Some, None, IfSome, refl, sym, ap, subst}
use Rattle.run_meaning.specs.Turns.{Histories}
use Rattle.run_replies.specs.Runs.{Files, replied}
use Rattle.site_answers.specs.SiteAnswers.{Before, OnBefore, absent, bad, has, has_none, name_of}
use Rattle.site_answers.specs.declared.before.Lost.{Lost}
use Rattle.site_answers.specs.declared.before.Lost.TheVariants as lost
use Rattle.site_replies.specs.Replies.{bad_state, no_file}
use Rattle.site_run.specs.Logs.{EndsRun, EndsOutput, Output}
use Rattle.site_run.specs.declared.status.Status.{Status}
use Rattle.site_run.specs.declared.status.Status.TheVariants as status
use Rattle.run_replies.proofs.Finding.{always}
use Rattle.site_run.proofs.Wholes.{ended}

-- what holds of what there is holds of what the files tell
pub on_before : (told : Option Files) (at : Files → Before) (b : Before) (Q : Files → Before → Type 0) → ((files : Files) → told ≡ Some files → at files ≡ b) → IfSome told (λ all. Q all b) → IfSome told (λ all. Q all (at all))
on_before None at b Q is p = tt
on_before (Some files) at b Q is p = subst (Q files) (sym (is files refl)) p

-- for each of the files
pub each : (told : Option Files) (P : Files → Type 0) → ((files : Files) → P files) → IfSome told P
each None P f = tt
each (Some files) P f = f files

module _ (told : Option Files) (at : Files → Before) (state : Option (List ℕ)) (why : Lost) (is_absent : (files : Files) → told ≡ Some files → why ≡ lost.NoFile → at files ≡ absent) (is_bad : (files : Files) → told ≡ Some files → why ≡ lost.BadState → at files ≡ bad) where
  -- a run that writes why has that as its answer
  pub lost_ends : (Is : Files → Histories → Output → Type 0) (end : Status) (old new : Option (List ℕ)) → (why ≡ lost.NoFile → EndsOutput end (replied (no_file (name_of state))) old new)
      → (why ≡ lost.BadState → EndsOutput end (replied (bad_state (name_of state))) old new) → (why ≡ lost.Failed → (end ≡ status.ReadFault) × (new ≡ old)) → (why ≡ lost.OutOfMemory → (end ≡ status.OutOfMemory) × (new ≡ old))
      → EndsRun end (λ w. IfSome told (λ all. OnBefore (Is all) state (at all) w)) old new
  lost_ends Is end old new none wrong failed memory = by why refl
    where
      by : (l : Lost) → why ≡ l → EndsRun end (λ w. IfSome told (λ all. OnBefore (Is all) state (at all) w)) old new
      by lost.NoFile e =
          let w = replied (no_file (name_of state)) in
          ended end (λ w. IfSome told (λ all. OnBefore (Is all) state (at all) w)) old new
          (w, on_before told at absent (λ all b. OnBefore (Is all) state b w) (λ files h. is_absent files h e) (each told (λ all. OnBefore (Is all) state absent w) (λ files. refl)), none e)
      by lost.BadState e =
          let w = replied (bad_state (name_of state)) in
          ended end (λ w. IfSome told (λ all. OnBefore (Is all) state (at all) w)) old new
          (w, on_before told at bad (λ all b. OnBefore (Is all) state b w) (λ files h. is_bad files h e) (each told (λ all. OnBefore (Is all) state bad w) (λ files. refl)), wrong e)
      by lost.Failed e = subst (λ x. EndsRun x (λ w. IfSome told (λ all. OnBefore (Is all) state (at all) w)) old new) (sym (failed e).0) (failed e).1
      by lost.OutOfMemory e = subst (λ x. EndsRun x (λ w. IfSome told (λ all. OnBefore (Is all) state (at all) w)) old new) (sym (memory e).0) (inl (memory e).1)

  -- where it is told by a diagnostic there are no entries
  pub none_there : (why ≡ lost.NoFile) ⊎ (why ≡ lost.BadState) → IfSome told (λ all. has_none (at all) ≡ true)
  none_there (inl e) = on_before told at absent (λ all b. has_none b ≡ true) (λ files h. is_absent files h e) (each told (λ all. has_none absent ≡ true) (λ files. refl))
  none_there (inr e) = on_before told at bad (λ all b. has_none b ≡ true) (λ files h. is_bad files h e) (each told (λ all. has_none bad ≡ true) (λ files. refl))
