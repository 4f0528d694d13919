-- What a run writes for a task over files and the turns of the world.
use Rattle.std.specs.Prelude.{ℕ, ◌≡◌, ◌≢◌, ◌≤◌, ◌⊎◌, Bool, true, false, List, [], ◌∷◌, codes, length, Option, Some, None, IfSome}
use Rattle.std.specs.Bool.{Decides}
use Rattle.commit_meaning.specs.Commits as commits
use Rattle.commit_meaning.specs.Commits.{Committed}
use Rattle.log_audits.specs.Audits.{AnswersAudited}
use Rattle.run_text.specs.declared.style.Style.{Style}
use Rattle.site_base.specs.declared.diag.Diag.{Diag}
use Rattle.site_edge.specs.Told.{find_file}
use Rattle.site_edge.specs.declared.turn.Turn.{Turn}
use Rattle.site_gen.specs.Counts.{AreCounts}
use Rattle.site_gen.specs.Lines.{count_lines}
use Rattle.site_gen.specs.Root.{root_text}
use Rattle.site_gen.specs.declared.counts.Counts.{Counts}
use Rattle.site_load.specs.Configs.{IsBadZone, config_outcome, names_of}
use Rattle.site_load.specs.Idle.{idle_by, rules_of}
use Rattle.site_load.specs.Loads.{load_outcome}
use Rattle.site_model.specs.PlainSite.{PlainSite}
use Rattle.run_replies.specs.Runs.{Files, replied}
use Rattle.site_answers.specs.SiteAnswers.{AnswersKept, AnswersReplayed, AnswersWatched, AnswersQueried, IsUnanswered, CameBehind}
use Rattle.site_replies.specs.Remarks.{remarks_of, with_remarks}
use Rattle.site_replies.specs.Replies.{config_reply, diagnoses, listed}
use Rattle.site_replies.specs.declared.remarks.Remark.{Remark}
use Rattle.site_replies.specs.declared.replies.Shown.{Shown}
use Rattle.site_replies.specs.declared.replies.Shown.TheVariants as shown
use Rattle.site_run.specs.Ends.{Outside}
use Rattle.site_run.specs.Logs.{Output}
use Rattle.site_run.specs.declared.status.Status.{Status}
use Rattle.site_run.specs.declared.status.Status.TheVariants as status
use Rattle.site_words.specs.Commands.{Command}
use Rattle.site_words.specs.Tasks.{Task, audit, check, daemon, generate, keep, objects, query, replay, resume}

-- Configurations.

-- what a root's configuration comes to, by the names of its files, given whether the file of its zone is none
abbrev pub AnswersRoot : Files → List ℕ → (List (List ℕ) → Committed PlainSite → Type 0) → Type 0
AnswersRoot files root Is =
    (bad : Bool) → Decides bad (IsBadZone (load_outcome files root)) → Is (names_of (load_outcome files root)) (config_outcome bad (load_outcome files root))

-- its objects, as they are asked for, or its diagnostics
abbrev pub AnswersShown : Files → Shown → List ℕ → Output → Type 0
AnswersShown files how root w = AnswersRoot files root (λ names c. w ≡ replied (config_reply how names c))

-- what is asked of its site, or its diagnostics
abbrev pub AnswersOver : (PlainSite → Output → Type 0) → Output → List (List ℕ) → Committed PlainSite → Type 0
AnswersOver Is w names (commits.site s) = Is s w
AnswersOver Is w names (commits.refused list) = w ≡ replied (diagnoses names list)

abbrev pub AnswersSite : Files → List ℕ → (PlainSite → Output → Type 0) → Output → Type 0
AnswersSite files root Is w = AnswersRoot files root (AnswersOver Is w)

-- Generated sites.

-- how many objects a site lists, and what is counted of its run over so many hosts
pub record IsCounted (hosts : ℕ) (s : PlainSite) (w : Output) : Type 0 where
  pub counts : Counts
  pub are : AreCounts hosts s counts
  pub is : w ≡ replied (record { lines = count_lines (length (listed s.objects)) counts; diagnosed = false })

-- the name of the one file of a generated site
abbrev pub root_name : List ℕ
root_name = codes "gen"

abbrev pub files_of : ℕ → Files
files_of hosts = (root_name, root_text hosts) ∷ []

abbrev pub AnswersGenerated : ℕ → Output → Type 0
AnswersGenerated hosts w = AnswersSite (files_of hosts) root_name (IsCounted hosts) w

-- Tasks.

-- what answers to a task that so many workers do. If it is over files and they aren't told, anything does. What is counted of a generated
-- site is the same for each number, for all its events are dealt to the first.
abbrev pub Answers : ℕ → Task → Option Files → Option (List Turn) → Output → Type 0
Answers callers (check root) files turns w = IfSome files (λ all. AnswersShown all shown.Count root w)
Answers callers (objects root) files turns w = IfSome files (λ all. AnswersShown all shown.Listing root w)
Answers callers (replay style recur root script) files turns w =
    IfSome files (λ all. AnswersSite all root (AnswersReplayed callers style recur None script all) w)
Answers callers (daemon style recur root state) files turns w =
    IfSome files (λ all. AnswersSite all root (AnswersWatched callers style recur state turns all) w)
Answers callers (generate hosts) files turns w = AnswersGenerated hosts w
Answers callers (query root script name) files turns w =
    IfSome files (λ all. AnswersSite all root (λ s. AnswersQueried callers script name s (find_file script all) (find_file name all)) w)
Answers callers (keep root script) files turns w = IfSome files (λ all. AnswersSite all root (λ s. AnswersKept callers script s (find_file script all)) w)
Answers callers (audit root log) files turns w = IfSome files (λ all. AnswersSite all root (λ s. AnswersAudited callers log s (find_file log all)) w)
Answers callers (resume style root state script) files turns w =
    IfSome files (λ all. AnswersSite all root (AnswersReplayed callers style false (Some state) script all) w)

abbrev pub is_daemon : Task → Bool
is_daemon (daemon style recur root state) = true
is_daemon task = false

abbrev pub is_generate : Task → Bool
is_generate (generate hosts) = true
is_generate task = false

-- How far a daemon came: to no answer of its files, to no site or no entries before its first turn, or over the site of its root.

abbrev pub HasNoSite : Files → List ℕ → Type 0
HasNoSite files root = AnswersRoot files root (λ names c. (list : List Diag) × (c ≡ commits.refused list))

-- they make no site; nothing was taken or started
pub record IsRefused (root : List ℕ) (files : Option Files) (old new : Outside) : Type 0 where
  pub is : IfSome files (λ all. HasNoSite all root)
  pub turns : new.turns ≡ old.turns
  pub started : new.started ≡ old.started
  pub calls : new.calls ≡ old.calls

abbrev pub IsSiteOf : Files → List ℕ → PlainSite → Type 0
IsSiteOf files root s = AnswersRoot files root (λ names c. c ≡ commits.site s)

pub record IsOverSite (end : Status) (callers : ℕ) (style : Style) (recur : Bool) (root : List ℕ) (state : Option (List ℕ)) (files : Option Files) (old new : Outside) : Type 0 where
  pub site : PlainSite
  pub is : IfSome files (λ all. IsSiteOf all root site)
  pub came : CameBehind end callers style recur state files site old new

abbrev pub CameFar : Status → ℕ → Style → Bool → List ℕ → Option (List ℕ) → Option Files → Outside → Outside → Type 0
CameFar end callers style recur root state files old new =
    IsUnanswered end old new ⊎ (IsRefused root files old new ⊎ IsOverSite end callers style recur root state files old new)

-- of a daemon with so many callers
abbrev pub Came : Status → ℕ → Task → Option Files → Outside → Outside → Type 0
Came end callers (daemon style recur root state) files old new = CameFar end callers style recur root state files old new
Came end callers task files old new = Unit {0}

-- Remarks.

-- what is remarked of what a root's configuration comes to, with downtimes that recur or don't, was told
abbrev pub RemarksOn : Bool → Files → List ℕ → Option (List Remark) → Option (List Remark) → Type 0
RemarksOn recur files root old new =
    AnswersRoot files root (λ names c. new ≡ with_remarks old (remarks_of recur c (idle_by (rules_of (load_outcome files root)) c)))

-- that is said of a run that found out what its configuration comes to
abbrev pub RemarkedOf : Status → Bool → List ℕ → Option Files → Option (List Remark) → Option (List Remark) → Type 0
RemarkedOf end recur root files old new =
    end ≢ status.ReadFault → end ≢ status.OutOfMemory → IfSome files (λ all. RemarksOn recur all root old new)

-- by the task; but for these two nothing is remarked
abbrev pub Remarked : Status → Task → Option Files → Option (List Remark) → Option (List Remark) → Type 0
Remarked end (check root) files old new = RemarkedOf end false root files old new
Remarked end (daemon style recur root state) files old new = RemarkedOf end recur root files old new
Remarked end task files old new = new ≡ old

-- Command lines.

-- the words ask for two or more workers
abbrev pub AskForMany : Option Command → Type 0
AskForMany None = ⊥
AskForMany (Some c) = 2 ≤ c.workers
