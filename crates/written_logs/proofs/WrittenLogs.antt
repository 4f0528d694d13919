-- The logs that the program writes are legal.
use Rattle.std.proofs.Common.{◌≡◌, ◌<◌, ◌≤◌, ◌^◌, ℕ, zero, suc, List, [], ◌∷◌, length, take, false, refl, sym, ap, ◌∙◌, subst, arith, lit≤, IfSome, Option, Some, None}
use Rattle.std.specs.List.{AllByRecursion}
use Rattle.site_edge.specs.Told.{find_file}
use Rattle.site_edge.specs.declared.turn.Turn.{Turn}
use Rattle.site_load.specs.Configs.{config_outcome, names_of}
use Rattle.site_load.specs.Loads.{load_outcome}
use Rattle.site_model.specs.PlainSite.{PlainSite}
use Rattle.site_run.specs.Callers.{AreCallers}
use Rattle.site_run.specs.Logs.{AnswersWorld, IsLog, Output, nothing_given}
use Rattle.site_text.specs.Scripts.{Answer, Has, bad_line, told}
use Rattle.run_meaning.specs.Runs.{no_entries}
use Rattle.run_replies.specs.Runs.{Files}
use Rattle.run_text.specs.declared.style.Style.{Style}
use Rattle.whole_runs.specs.Logs.{IsSiteLog}
use Rattle.site_answers.specs.SiteAnswers.{AnswersReplayed, AnswersWatched, OnScript, OnTurns, most_turns}
use Rattle.site_program.specs.TaskAnswers.{Answers, AnswersOver, AnswersSite, IsSiteOf}
use Rattle.site_words.specs.Tasks.{daemon, replay}
use Rattle.audit_laws.specs.Fitting.{FitsTurn, entries_in}
use Rattle.audit_laws.specs.LegalLogs.{CanBeRun, IsLogInMemory}
use Rattle.audit_laws.proofs.LegalLogs.{only_legal, said_legal}
use Rattle.written_logs.specs.Written.{AreFew, IsSaidLegal, IsSiteInMemory, IsWholeLog}
use Rattle.written_logs.proofs.FewEntries.{entries_few}
use Rattle.written_logs.proofs.ScriptTurns.{script_fits}
use Rattle.written_logs.proofs.Sites.{decided, runs}

-- ---- a log over a site

few_taken : {A : Type 0} (n : ℕ) (xs : List A) → length (take n xs) ≤ n
few_taken zero xs = omega arith
few_taken (suc n) [] = omega arith
few_taken (suc n) (x ∷ xs) = let rest = few_taken n xs in omega (arith, rest)

all_taken : {A : Type 0} (P : A → Type 0) (n : ℕ) (xs : List A) → AllByRecursion P xs → AllByRecursion P (take n xs)
all_taken P zero xs h = tt
all_taken P (suc n) [] h = tt
all_taken P (suc n) (x ∷ xs) h = (h.0, all_taken P n xs h.1)

few_turns : (turns : List Turn) → length (take most_turns turns) ≤ 2 ^ 40
few_turns turns = let low = few_taken most_turns turns in let most : most_turns ≤ 2 ^ 40 = lit≤ tt in omega (arith, low, most)

module _ (callers : ℕ) (style : Style) (s : PlainSite) (can : CanBeRun s) (many : AreCallers callers) (w : Output) (few : AreFew w.text) where
  in_memory : (turns : List Turn) → AllByRecursion FitsTurn turns → IsLog callers style most_turns s (nothing_given s) turns w → IsLogInMemory callers style most_turns s turns w
  in_memory turns fits log = record {
    log = log;
    turns_fit = all_taken FitsTurn most_turns turns fits;
    few_turns = few_turns turns;
    few_entries = λ k. let low = entries_few style s k log.logs in let same = ap length log.text in omega (arith, low, same, few);
  }

  log_legal : (turns : List Turn) → AllByRecursion FitsTurn turns → IsLog callers style most_turns s (nothing_given s) turns w → IsSaidLegal callers s w
  log_legal turns fits log = record {
    said = said_legal style most_turns s callers can many.0 many.1 turns w (in_memory turns fits log);
    only = only_legal style most_turns s callers can many.0 many.1 turns w (in_memory turns fits log);
  }

  site_log_legal : (turns : List Turn) → AllByRecursion FitsTurn turns → IsSiteLog callers style false most_turns s (no_entries s) turns w → IsSaidLegal callers s w
  site_log_legal turns fits h = log_legal turns fits (subst (λ given. IsLog callers style most_turns s given turns w) h.1 h.2)

-- ---- that of a script

module _ (callers : ℕ) (style : Style) (s : PlainSite) (can : CanBeRun s) (many : AreCallers callers) (w : Output) (whole : IsWholeLog w) (script : List ℕ) where
  turns_legal : (bytes : List ℕ) → AreFew bytes → (a : Answer) → Has bytes a → OnTurns (IsSiteLog callers style false most_turns s (no_entries s)) script a w → IsSaidLegal callers s w
  turns_legal bytes few (told turns) has h = site_log_legal callers style s can many w whole.few turns (script_fits bytes turns has few) h
  turns_legal bytes few (bad_line n) has h = absurd (whole.ends (ap (λ (x : Output). x.ends) h))

  script_legal : (found : Option (List ℕ)) → IfSome found AreFew → OnScript (IsSiteLog callers style false most_turns s (no_entries s)) script found w → IsSaidLegal callers s w
  script_legal None few h = absurd (whole.ends (ap (λ (x : Output). x.ends) h))
  script_legal (Some bytes) few h = turns_legal bytes few h.0 h.1 h.2

-- ---- over the site of files

-- what is asked of the site of a root is asked of this one
of_site : (all : Files) (root : List ℕ) (s : PlainSite) (Is : PlainSite → Output → Type 0) (w : Output) → IsSiteInMemory all root s → AnswersSite all root Is w → Is s w
of_site all root s Is w h answers =
    let sure = decided all root s h.is h.ready in
    subst (AnswersOver Is w (names_of (load_outcome all root))) (h.is false sure) (answers false sure)

pub replayed_legal : (callers : ℕ) (style : Style) (root script : List ℕ) (all : Files) (turns : Option (List Turn)) (s : PlainSite) (w : Output)
    → AreCallers callers → IsSiteInMemory all root s → IfSome (find_file script all) AreFew
    → Answers callers (replay style false root script) (Some all) turns w → IsWholeLog w → IsSaidLegal callers s w
replayed_legal callers style root script all turns s w many h few answers whole =
    script_legal callers style s (runs all root s h) many w whole script (find_file script all) few
    (of_site all root s (AnswersReplayed callers style false None script all) w h answers)

pub watched_legal : (callers : ℕ) (style : Style) (root : List ℕ) (all : Files) (turns : List Turn) (s : PlainSite) (w : Output)
    → AreCallers callers → IsSiteInMemory all root s → AllByRecursion FitsTurn turns
    → Answers callers (daemon style false root None) (Some all) (Some turns) w → IsWholeLog w → IsSaidLegal callers s w
watched_legal callers style root all turns s w many h fits answers whole =
    let given = of_site all root s (AnswersWatched callers style false None (Some turns) all) w h answers in
    let world = subst (λ g. AnswersWorld callers style most_turns g (Some turns) s w) given.1 given.2 in
    log_legal callers style s (runs all root s h) many w whole.few turns fits (subst (λ came. IsLog callers style most_turns s (nothing_given s) came w) world.told world.log)
