-- What is remarked of a root's configuration.
use Rattle.std.proofs.Common.{◌≡◌, ℕ, List, Bool, Option, Some, None, IfSome, refl, subst}
use Rattle.std.specs.Bool.{Decides}
use Rattle.conf_sources.specs.declared.load_fault.LoadFault.{LoadFault}
use Rattle.conf_sources.specs.declared.load_fault.LoadFault.TheVariants as load
use Rattle.site_load.specs.Configs.{IsBadZone, config_outcome}
use Rattle.site_load.specs.Idle.{idle_by, rules_of}
use Rattle.site_load.specs.Loads.{load_outcome}
use Rattle.site_phases.specs.Phases.{answer_view}
use Rattle.site_phases.specs.declared.answer.Answer.{Answer}
use Rattle.site_program.specs.Runs.{status_by}
use Rattle.run_replies.specs.Runs.{Files}
use Rattle.site_program.specs.TaskAnswers.{RemarkedOf, RemarksOn}
use Rattle.site_replies.specs.Remarks.{remarks_of, with_remarks}
use Rattle.site_replies.specs.declared.remarks.Remark.{Remark}
use Rattle.site_run.specs.declared.status.Status.{Status}
use Rattle.site_run.specs.declared.status.Status.TheVariants as status

-- what is remarked of an answer was told
abbrev pub IsRemarked : Bool → Option Files → List ℕ → Answer → Option (List Remark) → Option (List Remark) → Type 0
IsRemarked recur told root a old new = (files : Files) → told ≡ Some files → new ≡ with_remarks old (remarks_of recur (answer_view a) (idle_by (rules_of (load_outcome files root)) (answer_view a)))

abbrev pub IsOf : Option Files → List ℕ → Answer → Type 0
IsOf told root a = (files : Files) → told ≡ Some files → (bad : Bool) → Decides bad (IsBadZone (load_outcome files root)) → answer_view a ≡ config_outcome bad (load_outcome files root)

remarks_on : (recur : Bool) (root : List ℕ) (told : Option Files) (a : Answer) (old new : Option (List Remark)) → IsRemarked recur told root a old new → IsOf told root a
    → IfSome told (λ all. RemarksOn recur all root old new)
remarks_on recur root None a old new h is = tt
remarks_on recur root (Some files) a old new h is = λ bad decided.
    subst (λ c. new ≡ with_remarks old (remarks_of recur c (idle_by (rules_of (load_outcome files root)) c))) (is files refl bad decided) (h files refl)

-- it is that of the root's configuration
pub remarked_on : (end : Status) (recur : Bool) (root : List ℕ) (told : Option Files) (a : Answer) (old new : Option (List Remark)) → IsRemarked recur told root a old new → IsOf told root a
    → RemarkedOf end recur root told old new
remarked_on end recur root told a old new h is = λ read memory. remarks_on recur root told a old new h is

-- of files that can't be read nothing is said
pub unread_unremarked : (fault : LoadFault) (end : Status) (recur : Bool) (root : List ℕ) (told : Option Files) (old new : Option (List Remark)) → end ≡ status_by fault → RemarkedOf end recur root told old new
unread_unremarked load.Failed end recur root told old new e = λ read memory. absurd (read e)
unread_unremarked load.OutOfMemory end recur root told old new e = λ read memory. absurd (memory e)
