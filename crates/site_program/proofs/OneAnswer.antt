-- With one worker one answer is right.
use Rattle.std.proofs.Common.{◌≡◌, ℕ, ◌⊎◌, inl, inr, List, [], ◌∷◌, ◌++◌, length, map, nat_eq, cond, Bool, true, false, Option, Some, None, refl, sym, ap, ◌∙◌, subst}
use Rattle.std.specs.Bool.{Decides}
use Rattle.std.specs.Str.{bytes_eq}
use Rattle.std.proofs.lemmas.Slice.Eq.{bytes_eq-Decides}
use Rattle.commit_meaning.specs.Commits as commits
use Rattle.commit_meaning.specs.Commits.{Committed, commit, committed, first_told, unless_told, waves}
use Rattle.commit_meaning.specs.Waves.{diags_of}
use Rattle.commit_waves.specs.Globals.{globals_of}
use Rattle.site_base.specs.declared.diag.Diag.{Diag}
use Rattle.site_edge.specs.Told.{find_file}
use Rattle.site_edge.specs.declared.turn.Turn.{Turn}
use Rattle.site_gen.specs.Counts.{counts_of}
use Rattle.site_gen.specs.Lines.{count_lines}
use Rattle.site_gen.specs.Turns.{all_turns}
use Rattle.site_load.specs.Configs.{IsBadZone, config_outcome, names_of}
use Rattle.site_load.specs.Loads.{LoadOutcome, load_outcome, loads, refuses}
use Rattle.site_model.specs.PlainSite.{PlainObject, PlainSite}
use Rattle.site_model.specs.Sound.{HasNames}
use Rattle.site_phases.specs.Constants.{PlainGlobals, settings_of}
use Rattle.site_phases.specs.Phases.{phases, site_made}
use Rattle.log_audits.specs.Audits.{AnswersAudited}
use Rattle.log_audits.proofs.OneVerdict.{audited_one}
use Rattle.run_replies.specs.Runs.{Files, replied}
use Rattle.site_answers.specs.SiteAnswers.{AnswersKept, AnswersQueried, AnswersReplayed, AnswersWatched}
use Rattle.site_program.specs.TaskAnswers.{Answers, AnswersOver, AnswersShown, AnswersSite, IsCounted, files_of, root_name}
use Rattle.site_replies.specs.Replies.{listed}
use Rattle.site_replies.specs.declared.replies.Shown.{Shown}
use Rattle.site_replies.specs.declared.replies.Shown.TheVariants as shown
use Rattle.site_run.proofs.OneLog.{one_run}
use Rattle.site_run.specs.Logs.{EndsRun, EndsOutput, Output, nothing_given}
use Rattle.site_run.specs.Statuses.{number_of}
use Rattle.site_run.specs.declared.status.Status.{Status}
use Rattle.site_run.specs.declared.status.Status.TheVariants as status
use Rattle.site_text.specs.Scripts.{told}
use Rattle.site_words.specs.Tasks.{Task, audit, check, daemon, generate, keep, objects, query, replay, resume}
use Rattle.typed_site.proofs.SoundLaws.{has_names}
use Rattle.site_answers.proofs.OneAnswer.{IsOne, kept_one, queried_one, replayed_one, watched_one}

-- What can't be otherwise is so: texts and statuses are told apart.

-- a fact can't be undecided
pub undecided : (P : Type 0) → ((b : Bool) → Decides b P → ⊥) → ⊥
undecided P h =
    let no : P → ⊥ = λ p. h true ((λ _. p), (λ _. refl)) in
    h false ((λ e. absurd cc), (λ p. absurd (no p)))

same_text : (xs ys : List ℕ) → ((xs ≡ ys → ⊥) → ⊥) → xs ≡ ys
same_text xs ys h = by (bytes_eq xs ys) refl
  where
    by : (b : Bool) → bytes_eq xs ys ≡ b → xs ≡ ys
    by true e = (bytes_eq-Decides xs ys).0 e
    by false e = absurd (h (λ same. let yes : bytes_eq xs ys ≡ true = (bytes_eq-Decides xs ys).1 same in absurd cc))

status_numbered : ℕ → Status
status_numbered n =
    cond (nat_eq n 0) status.Done
    (cond (nat_eq n 1) status.Diagnosed
    (cond (nat_eq n 2) status.Usage
    (cond (nat_eq n 3) status.ReadFault
    (cond (nat_eq n 4) status.WriteFault
    (cond (nat_eq n 5) status.WorldFault
    (cond (nat_eq n 6) status.OutOfMemory
    (cond (nat_eq n 7) status.TurnsSpent status.NotLegal)))))))

numbered : (s : Status) → status_numbered (number_of s) ≡ s
unfolding status_numbered
numbered status.Done = refl
numbered status.Diagnosed = refl
numbered status.Usage = refl
numbered status.ReadFault = refl
numbered status.WriteFault = refl
numbered status.WorldFault = refl
numbered status.OutOfMemory = refl
numbered status.TurnsSpent = refl
numbered status.NotLegal = refl

pub same_status : (s t : Status) → ((s ≡ t → ⊥) → ⊥) → s ≡ t
same_status s t h =
    let numbers = same_text (number_of s ∷ []) (number_of t ∷ []) (λ no. h (λ same. no (ap (λ x. number_of x ∷ []) same))) in
    let number : number_of s ≡ number_of t = cc in
    sym (numbered s) ∙ ap status_numbered number ∙ numbered t

pub same_whole : (v w : Output) → ((v ≡ w → ⊥) → ⊥) → v ≡ w
same_whole v w h =
    let text = same_text v.text w.text (λ no. h (λ same. no (ap (λ x. x.text) same))) in
    let ends = same_status v.ends w.ends (λ no. h (λ same. no (ap (λ x. x.ends) same))) in
    λ i. record { text = text i; ends = ends i }

-- Sites of configurations have names of their own.

site_named : (files : List (List ℕ)) (g : PlainGlobals) (os : List PlainObject) (ds : List Diag) (s : PlainSite) → unless_told (site_made files g os) ds ≡ commits.site s → HasNames s
site_named files g os [] s e = let same : site_made files g os ≡ s = cc in subst HasNames same (has_names files (settings_of g) os)
site_named files g os (d ∷ ds) s e = absurd cc

configured : (bad : Bool) (o : LoadOutcome) (s : PlainSite) → config_outcome bad o ≡ commits.site s → HasNames s
unfolding commit
configured bad (loads names load file) s e =
    let g = globals_of load.store.cells file in
    site_named names g (committed load) (first_told (map (diags_of load) waves ++ phases names g (committed load) bad)) s e
configured bad (refuses names list) s e = absurd cc

-- Answers over a root.

over_one : (Is : PlainSite → Output → Type 0) → IsOne Is → (names : List (List ℕ)) (c : Committed PlainSite) → ((s : PlainSite) → c ≡ commits.site s → HasNames s)
    → (v w : Output) → AnswersOver Is v names c → AnswersOver Is w names c → v ≡ w
over_one Is one names (commits.site s) named v w p q = one s (named s refl) v w p q
over_one Is one names (commits.refused list) named v w p q = p ∙ sym q

site_one : (files : Files) (root : List ℕ) (Is : PlainSite → Output → Type 0) → IsOne Is → (v w : Output) → AnswersSite files root Is v → AnswersSite files root Is w → v ≡ w
site_one files root Is one v w p q =
    let load = load_outcome files root in
    same_whole v w (λ no. undecided (IsBadZone load) (λ bad d. no (over_one Is one (names_of load) (config_outcome bad load) (configured bad load) v w (p bad d) (q bad d))))

shown_one : (files : Files) (how : Shown) (root : List ℕ) (v w : Output) → AnswersShown files how root v → AnswersShown files how root w → v ≡ w
shown_one files how root v w p q =
    same_whole v w (λ no. undecided (IsBadZone (load_outcome files root)) (λ bad d. no (p bad d ∙ sym (q bad d))))

-- Counts.

counted_one : (hosts : ℕ) → IsOne (IsCounted hosts)
counted_one hosts s names v w p q =
    let counts = p.are.counts ∙ ap counts_of (one_run s (nothing_given s) (all_turns hosts) p.are.logs q.are.logs names p.are.are q.are.are) ∙ sym q.are.counts in
    p.is ∙ ap (λ c. replied (record { lines = count_lines (length (listed s.objects)) c; diagnosed = false })) counts ∙ sym q.is

-- what answers to a task over files and turns
pub one_answer : (t : Task) (files : Files) (turns : List Turn) (v w : Output) → Answers 1 t (Some files) (Some turns) v → Answers 1 t (Some files) (Some turns) w → v ≡ w
one_answer (check root) files turns v w p q = shown_one files shown.Count root v w p q
one_answer (objects root) files turns v w p q = shown_one files shown.Listing root v w p q
one_answer (replay style recur root script) files turns v w p q = site_one files root (AnswersReplayed 1 style recur None script files) (replayed_one style recur None script files) v w p q
one_answer (daemon style recur root state) files turns v w p q = site_one files root (AnswersWatched 1 style recur state (Some turns) files) (watched_one style recur state turns files) v w p q
one_answer (query root script name) files turns v w p q =
    site_one files root (λ s. AnswersQueried 1 script name s (find_file script files) (find_file name files)) (queried_one script name (find_file script files) (find_file name files)) v w p q
one_answer (keep root script) files turns v w p q = site_one files root (λ s. AnswersKept 1 script s (find_file script files)) (kept_one script (find_file script files)) v w p q
one_answer (audit root log) files turns v w p q = site_one files root (λ s. AnswersAudited 1 log s (find_file log files)) (λ s names. audited_one 1 log (find_file log files) s) v w p q
one_answer (resume style root state script) files turns v w p q = site_one files root (AnswersReplayed 1 style false (Some state) script files) (replayed_one style false (Some state) script files) v w p q
one_answer (generate hosts) files turns v w p q = site_one (files_of hosts) root_name (IsCounted hosts) (counted_one hosts) v w p q

-- Calm runs.

ended : (s : Status) (t : Task) (files : Files) (turns : List Turn) (old new : Option (List ℕ)) (w : Output) → Answers 1 t (Some files) (Some turns) w
    → (v : Output) × Answers 1 t (Some files) (Some turns) v × EndsOutput s v old new → EndsOutput s w old new
ended s t files turns old new w is e = subst (λ x. EndsOutput s x old new) (one_answer t files turns e.0 w e.1 is) e.2

-- where no fault of files, world or output ended it, a run wrote the whole answer, or there was no memory for it
pub calm_runs_end : (s : Status) (t : Task) (files : Files) (turns : List Turn) (old new : Option (List ℕ)) (w : Output)
    → EndsRun s (Answers 1 t (Some files) (Some turns)) old new → (s ≡ status.ReadFault → ⊥) → (s ≡ status.WriteFault → ⊥) → (s ≡ status.WorldFault → ⊥)
    → Answers 1 t (Some files) (Some turns) w → (s ≡ status.OutOfMemory) ⊎ EndsOutput s w old new
calm_runs_end status.Done t files turns old new w e read write world is = inr (ended status.Done t files turns old new w is e)
calm_runs_end status.Diagnosed t files turns old new w e read write world is = inr (ended status.Diagnosed t files turns old new w is e)
calm_runs_end status.Usage t files turns old new w e read write world is = inr (ended status.Usage t files turns old new w is e)
calm_runs_end status.ReadFault t files turns old new w e read write world is = absurd (read refl)
calm_runs_end status.WriteFault t files turns old new w e read write world is = absurd (write refl)
calm_runs_end status.WorldFault t files turns old new w e read write world is = absurd (world refl)
calm_runs_end status.OutOfMemory t files turns old new w e read write world is = inl refl
calm_runs_end status.TurnsSpent t files turns old new w e read write world is = inr (ended status.TurnsSpent t files turns old new w is e)
calm_runs_end status.NotLegal t files turns old new w e read write world is = inr (ended status.NotLegal t files turns old new w is e)
