-- How runs end whose files can't be read.
use Rattle.std.proofs.Common.{◌≡◌, inl, inr, ℕ, List, Option, refl, sym, subst}
use Rattle.conf_sources.specs.declared.load_fault.LoadFault.{LoadFault}
use Rattle.conf_sources.specs.declared.load_fault.LoadFault.TheVariants as load
use Rattle.site_program.specs.Runs.{status_by}
use Rattle.site_answers.specs.SiteAnswers.{IsUnanswered}
use Rattle.site_run.specs.Ends.{HandsOn, Outside}
use Rattle.site_run.specs.Logs.{EndsRun, Output}
use Rattle.site_run.specs.declared.status.Status.{Status}

-- files that can't be read leave nothing written
pub unread : (fault : LoadFault) (end : Status) (Is : Output → Type 0) (old : Option (List ℕ)) → end ≡ status_by fault → EndsRun end Is old old
unread load.Failed end Is old e = subst (λ s. EndsRun s Is old old) (sym e) refl
unread load.OutOfMemory end Is old e = subst (λ s. EndsRun s Is old old) (sym e) (inl refl)

-- and nothing of a run to be handed on
pub unread_through : (fault : LoadFault) (end : Status) (kept : ℕ) → end ≡ status_by fault → HandsOn end kept
unread_through load.Failed end kept e = subst (λ s. HandsOn s kept) (sym e) tt
unread_through load.OutOfMemory end kept e = subst (λ s. HandsOn s kept) (sym e) tt

pub unanswered : (fault : LoadFault) (end : Status) (old : Outside) → end ≡ status_by fault → IsUnanswered end old old
unanswered load.Failed end old e = record { cause = inl e; same = refl }
unanswered load.OutOfMemory end old e = record { cause = inr e; same = refl }
