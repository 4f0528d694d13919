-- What answers to a root.
use Rattle.std.proofs.Common.{◌≡◌, ℕ, List, Bool, Option, Some, None, IfSome, refl, subst}
use Rattle.std.specs.Bool.{Decides}
use Rattle.commit_meaning.specs.Commits as commits
use Rattle.commit_meaning.specs.Commits.{Committed}
use Rattle.site_base.specs.declared.diag.Diag.{Diag}
use Rattle.site_load.specs.Configs.{IsBadZone, config_outcome, names_of}
use Rattle.site_load.specs.Loads.{load_outcome}
use Rattle.site_model.specs.PlainSite.{PlainSite, site_view}
use Rattle.site_model.specs.declared.site.Site.{Site}
use Rattle.site_phases.specs.Phases.{FilesStay, answer_view}
use Rattle.site_phases.specs.declared.answer.Answer.{Answer}
use Rattle.site_phases.specs.declared.answer.Answer.TheVariants as answer
use Rattle.run_replies.specs.Runs.{Files, replied}
use Rattle.site_run.specs.Logs.{Output}
use Rattle.site_program.specs.TaskAnswers.{AnswersOver, AnswersRoot, AnswersShown, AnswersSite, HasNoSite, IsSiteOf}
use Rattle.site_replies.specs.Replies.{config_reply, diagnoses, files_in}
use Rattle.site_replies.specs.declared.replies.Shown.{Shown}

files_are : (names : List (List ℕ)) (a : Answer) → FilesStay names a → files_in a ≡ names
files_are names (answer.Site s) h = h
files_are names (answer.Diags files list) h = h

-- the answer is that of the files, where they are told
abbrev pub IsTold : Option Files → List ℕ → Answer → Type 0
IsTold told root a =
    (files : Files) → told ≡ Some files
    → FilesStay (names_of (load_outcome files root)) a × ((bad : Bool) → Decides bad (IsBadZone (load_outcome files root)) → answer_view a ≡ config_outcome bad (load_outcome files root))

-- what is said of an answer is said of the root's
root_answers : (Is : List (List ℕ) → Committed PlainSite → Type 0) (root : List ℕ) (files : Files) (a : Answer) → FilesStay (names_of (load_outcome files root)) a
    → ((bad : Bool) → Decides bad (IsBadZone (load_outcome files root)) → answer_view a ≡ config_outcome bad (load_outcome files root)) → Is (files_in a) (answer_view a) → AnswersRoot files root Is
root_answers Is root files a same is h = λ bad decided.
    subst (Is (names_of (load_outcome files root))) (is bad decided) (subst (λ names. Is names (answer_view a)) (files_are (names_of (load_outcome files root)) a same) h)

pub shown_answers : (how : Shown) (root : List ℕ) (told : Option Files) (a : Answer) → IsTold told root a
    → IfSome told (λ all. AnswersShown all how root (replied (config_reply how (files_in a) (answer_view a))))
shown_answers how root None a h = tt
shown_answers how root (Some files) a h =
    root_answers (λ names c. replied (config_reply how (files_in a) (answer_view a)) ≡ replied (config_reply how names c)) root files a (h files refl).0 (h files refl).1 refl

by_site : (Is : Files → PlainSite → Output → Type 0) (root : List ℕ) (told : Option Files) (s : Site) → IsTold told root (answer.Site s)
    → (w : Output) → IfSome told (λ all. Is all (site_view s) w) → IfSome told (λ all. AnswersSite all root (Is all) w)
by_site Is root None s h w is = tt
by_site Is root (Some files) s h w is = root_answers (AnswersOver (Is files) w) root files (answer.Site s) (h files refl).0 (h files refl).1 is

-- what is asked of its site
pub site_answers : (Is : Files → PlainSite → Output → Type 0) (root : List ℕ) (told : Option Files) (a : Answer) (s : Site) → a ≡ answer.Site s → IsTold told root a
    → (w : Output) → IfSome told (λ all. Is all (site_view s) w) → IfSome told (λ all. AnswersSite all root (Is all) w)
site_answers Is root told a s e h w is = by_site Is root told s (subst (IsTold told root) e h) w is

site_is : (root : List ℕ) (told : Option Files) (s : Site) → IsTold told root (answer.Site s) → IfSome told (λ all. IsSiteOf all root (site_view s))
site_is root None s h = tt
site_is root (Some files) s h = root_answers (λ names c. c ≡ commits.site (site_view s)) root files (answer.Site s) (h files refl).0 (h files refl).1 refl

-- it is the root's
pub site_found : (root : List ℕ) (told : Option Files) (a : Answer) (s : Site) → a ≡ answer.Site s → IsTold told root a → IfSome told (λ all. IsSiteOf all root (site_view s))
site_found root told a s e h = site_is root told s (subst (IsTold told root) e h)

no_site_is : (root : List ℕ) (told : Option Files) (names : List (List ℕ)) (list : List Diag) → IsTold told root (answer.Diags names list) → IfSome told (λ all. HasNoSite all root)
no_site_is root None names list h = tt
no_site_is root (Some files) names list h =
    root_answers (λ names c. (list : List Diag) × (c ≡ commits.refused list)) root files (answer.Diags names list) (h files refl).0 (h files refl).1 (list, refl)

-- it makes none
pub no_site_found : (root : List ℕ) (told : Option Files) (a : Answer) (names : List (List ℕ)) (list : List Diag) → a ≡ answer.Diags names list → IsTold told root a → IfSome told (λ all. HasNoSite all root)
no_site_found root told a names list e h = no_site_is root told names list (subst (IsTold told root) e h)

by_diags : (Is : Files → PlainSite → Output → Type 0) (root : List ℕ) (told : Option Files) (names : List (List ℕ)) (list : List Diag) → IsTold told root (answer.Diags names list)
    → IfSome told (λ all. AnswersSite all root (Is all) (replied (diagnoses names list)))
by_diags Is root None names list h = tt
by_diags Is root (Some files) names list h =
    root_answers (AnswersOver (Is files) (replied (diagnoses names list))) root files (answer.Diags names list) (h files refl).0 (h files refl).1 refl

-- its diagnostics
pub diags_answer : (Is : Files → PlainSite → Output → Type 0) (root : List ℕ) (told : Option Files) (a : Answer) (names : List (List ℕ)) (list : List Diag) → a ≡ answer.Diags names list → IsTold told root a
    → IfSome told (λ all. AnswersSite all root (Is all) (replied (diagnoses names list)))
diags_answer Is root told a names list e h = by_diags Is root told names list (subst (IsTold told root) e h)
