-- What a run has to end with, it ends with.
use Rattle.std.proofs.Common.{◌≡◌, ◌≤◌, ◌<◌, ℕ, ◌⊎◌, inl, inr, ⊎_elim, List, length, cond, Bool, false, true≢false, Option, Some, None, IsSomeAnd, refl, sym, ap, ◌∙◌, subst, arith}
use Rattle.std.proofs.lemmas.Bool.{le-ltb}
use Rattle.commit_meaning.specs.Commits as commits
use Rattle.commit_meaning.specs.Commits.{Committed}
use Rattle.log_audits.specs.Audits.{AnswersAudited, ends_by}
use Rattle.log_audits.proofs.OneVerdict.{one_verdict}
use Rattle.kept_runs.specs.Kept.{AnswersKeep}
use Rattle.run_meaning.specs.Runs.{no_entries}
use Rattle.run_meaning.specs.Turns.{Histories}
use Rattle.run_replies.specs.Runs.{Files, replied}
use Rattle.run_text.specs.declared.style.Style.{Style}
use Rattle.site_answers.specs.SiteAnswers as entries
use Rattle.site_answers.specs.SiteAnswers.{AnswersAsked, AnswersBytes, AnswersKept, AnswersLeft, AnswersQueried, AnswersReplayed, AnswersWatched, Before, OnBefore, OnQuery, OnScript, OnTurns, answered, before, has_none, most_turns}
use Rattle.site_answers.proofs.TurnLogs.{log_as}
use Rattle.site_audit.specs.Audit.{IsVerdict}
use Rattle.site_audit.specs.declared.auditing.Verdict.TheVariants as verdict
use Rattle.site_edge.specs.Told.{find_file}
use Rattle.site_edge.specs.declared.turn.Turn.{Turn}
use Rattle.site_load.specs.Configs.{IsBadZone, config_outcome, names_of}
use Rattle.site_load.specs.Loads.{load_outcome}
use Rattle.site_model.specs.PlainSite.{PlainSite}
use Rattle.site_query.specs.Lines as query_lines
use Rattle.site_query.proofs.QueryLaws.{has_read as query_is}
use Rattle.site_replies.specs.Replies.{config_reply, no_file}
use Rattle.site_replies.specs.declared.replies.Shown.{Shown}
use Rattle.site_replies.specs.declared.replies.Shown.TheVariants as shown
use Rattle.site_run.specs.Logs.{EndsRun, Output}
use Rattle.site_run.specs.declared.status.Status.{Status}
use Rattle.site_run.specs.declared.status.Status.TheVariants as status
use Rattle.site_text.specs.Scripts.{Has, bad_line, told}
use Rattle.site_text.proofs.ScriptLaws.{has_read}
use Rattle.site_words.specs.Tasks.{Task, audit, check, daemon, generate, keep, objects, query, replay, resume}
use Rattle.whole_runs.specs.Logs.{AnswersTurns, IsSiteLog}
use Rattle.whole_runs.specs.Queried.{AnswersQuery}
use Rattle.site_program.specs.Complete.{AreTurns, Completes, Diagnoses, DiagnosesOver, DiagnosesRoot, IsBadQuery, IsBadScript, IsBadState, IsComplete, IsLawful, IsQuery, IsScript, diagnosed_by}
use Rattle.site_program.specs.TaskAnswers.{Answers, AnswersOver, AnswersRoot, AnswersShown, AnswersSite, IsCounted, IsSiteOf, files_of, root_name}
use Rattle.site_program.proofs.OneAnswer.{same_status, same_whole, undecided}

-- A run that ended writes the whole answer, or a fault or want of memory ended it.

completed : (s : Status) (Is : Output → Type 0) (old new : Option (List ℕ)) → EndsRun s Is old new → Completes s Is old new
completed status.Done Is old new e = inr (inr (e.0, e.1, sym e.2.0, e.2.1))
completed status.Diagnosed Is old new e = inr (inr (e.0, e.1, sym e.2.0, e.2.1))
completed status.Usage Is old new e = absurd e.2
completed status.ReadFault Is old new e = inl (inl refl)
completed status.WriteFault Is old new e = inl (inr (inl refl))
completed status.WorldFault Is old new e = inl (inr (inr refl))
completed status.OutOfMemory Is old new e = inr (inl refl)
completed status.TurnsSpent Is old new e = inr (inr (e.0, e.1, sym e.2.0, e.2.1))
completed status.NotLegal Is old new e = inr (inr (e.0, e.1, sym e.2.0, e.2.1))

known : (s : Status) (Is Also : Output → Type 0) (old new : Option (List ℕ)) → ((w : Output) → Is w → Also w) → Completes s Is old new → Completes s Also old new
known s Is Also old new f c = ⊎_elim (λ fault. inl fault) (λ more. ⊎_elim (λ memory. inr (inl memory)) (λ e. inr (inr (e.0, f e.0 e.1, e.2, e.3))) more) c

-- Over lawful files.

-- what is said of a site's answers, if the root makes it
at_site : (files : Files) (root : List ℕ) (Is : List (List ℕ) → Committed PlainSite → Type 0) (s : PlainSite) (a b : Status) → IsSiteOf files root s
    → (Is (names_of (load_outcome files root)) (commits.site s) → a ≡ b) → AnswersRoot files root Is → a ≡ b
at_site files root Is s a b site done p =
    let load = load_outcome files root in
    same_status a b (λ no. undecided (IsBadZone load) (λ bad d. no (done (subst (Is (names_of load)) (site bad d) (p bad d)))))

over_site : (files : Files) (root : List ℕ) (Is : PlainSite → Output → Type 0) (s : PlainSite) (w : Output) → IsSiteOf files root s → (Is s w → w.ends ≡ status.Done) → AnswersSite files root Is w → w.ends ≡ status.Done
over_site files root Is s w site done p = at_site files root (AnswersOver Is w) s w.ends status.Done site done p

log_done : (callers : ℕ) (style : Style) (recur : Bool) (s : PlainSite) (histories : Histories) (turns : List Turn) (w : Output) → length turns ≤ most_turns → IsSiteLog callers style recur most_turns s histories turns w → w.ends ≡ status.Done
log_done callers style recur s histories turns w few p =
    p.2.ends ∙ ap (λ b. cond b status.TurnsSpent status.Done) (le-ltb most_turns (length turns) few)

-- A script, entries and a query that are there.

at_script : {A : Type 0} (Is : List Turn → Output → Type 0) (script bytes : List ℕ) (turns : List Turn) (w : Output) → Has bytes (told turns) → (Is turns w → A) → OnScript Is script (Some bytes) w → A
at_script Is script bytes turns w has over p =
    let same : p.0 ≡ told turns = sym (has_read bytes p.0 p.1) ∙ has_read bytes (told turns) has in
    over (subst (λ a. OnTurns Is script a w) same p.2)

at_entries : {A : Type 0} (Is : Histories → Output → Type 0) (state : Option (List ℕ)) (b : Before) (w : Output) → has_none b ≡ false → ((histories : Histories) → Is histories w → A) → OnBefore Is state b w → A
at_entries Is state (entries.has histories) w h over p = over histories p
at_entries Is state entries.absent w h over p = absurd (true≢false h)
at_entries Is state entries.bad w h over p = absurd (true≢false h)

script_done : (Is : List Turn → Output → Type 0) (script : List ℕ) (found : Option (List ℕ)) (w : Output) → IsSomeAnd found AreTurns
    → ((turns : List Turn) → length turns ≤ most_turns → Is turns w → w.ends ≡ status.Done) → OnScript Is script found w → w.ends ≡ status.Done
script_done Is script None w h done p = absurd h
script_done Is script (Some bytes) w h done p = at_script Is script bytes h.0 w h.1 (done h.0 h.2) p

bytes_done : (callers : ℕ) (style : Style) (recur : Bool) (script : List ℕ) (s : PlainSite) (histories : Histories) (found : Option (List ℕ)) (w : Output) → IsSomeAnd found AreTurns
    → AnswersBytes callers style recur script s histories found w → w.ends ≡ status.Done
bytes_done callers style recur script s histories found w h p =
    script_done (IsSiteLog callers style recur most_turns s histories) script found w h (λ turns few q. log_done callers style recur s histories turns w few q) p

resumed_done : (callers : ℕ) (style : Style) (state : Option (List ℕ)) (script : List ℕ) (all : Files) (s : PlainSite) (w : Output) → has_none (before state s all) ≡ false → IsSomeAnd (find_file script all) AreTurns
    → AnswersReplayed callers style false state script all s w → w.ends ≡ status.Done
resumed_done callers style state script all s w h few p =
    at_entries (λ histories. AnswersBytes callers style false script s histories (find_file script all)) state (before state s all) w h
    (λ histories q. bytes_done callers style false script s histories (find_file script all) w few q) p

watched_done : (callers : ℕ) (style : Style) (recur : Bool) (state : Option (List ℕ)) (turns : Option (List Turn)) (all : Files) (s : PlainSite) (w : Output) → has_none (before state s all) ≡ false
    → IsSomeAnd turns (λ ts. length ts ≤ most_turns) → AnswersWatched callers style recur state turns all s w → w.ends ≡ status.Done
watched_done callers style recur state None all s w h few p = absurd few
watched_done callers style recur state (Some ts) all s w h few p =
    at_entries (AnswersTurns callers style recur most_turns (Some ts) s) state (before state s all) w h
    (λ histories q. log_done callers style recur s histories ts w few (log_as callers style recur s histories ts w q)) p

-- an answer is given, since no more turns come than may be taken
given_done : (Is : Option (List ℕ) → Type 0) (answer : Option (List ℕ)) (w : Output) → (Is None → ⊥) → Is answer → w ≡ answered answer → w.ends ≡ status.Done
given_done Is None w given is e = absurd (given is)
given_done Is (Some text) w given is e = ap (λ x. x.ends) e

not_many : (turns : List Turn) → length turns ≤ most_turns → most_turns < length turns → ⊥
not_many turns few many = omega (arith, few, many)

asked_done : (callers : ℕ) (name : List ℕ) (asked : Option (List ℕ)) (s : PlainSite) (turns : List Turn) (w : Output) → length turns ≤ most_turns → IsSomeAnd asked IsQuery → AnswersAsked callers name asked s turns w → w.ends ≡ status.Done
asked_done callers name None s turns w few h p = absurd h
asked_done callers name (Some bytes) s turns w few h p =
    let same : p.0 ≡ query_lines.told h.0 = sym (query_is bytes p.0 p.1) ∙ query_is bytes (query_lines.told h.0) h.1 in
    let on = subst (λ a. OnQuery callers name s turns a w) same p.2 in
    given_done (AnswersQuery callers most_turns s turns h.0) on.0 w (not_many turns few) on.1 on.2

left_done : (callers : ℕ) (s : PlainSite) (turns : List Turn) (w : Output) → length turns ≤ most_turns → AnswersLeft callers s turns w → w.ends ≡ status.Done
left_done callers s turns w few p = given_done (AnswersKeep callers most_turns s turns) p.0 w (not_many turns few) p.1 p.2

audited_done : (callers : ℕ) (name : List ℕ) (s : PlainSite) (found : Option (List ℕ)) (w : Output) → IsSomeAnd found (λ bytes. IsVerdict callers s bytes verdict.Legal) → AnswersAudited callers name s found w → w.ends ≡ status.Done
audited_done callers name s None w h p = absurd h
audited_done callers name s (Some bytes) w h p = ap (λ x. x.ends) p.2 ∙ ap ends_by (one_verdict callers s bytes p.0 verdict.Legal p.1 h)

shown_done : (files : Files) (how : Shown) (root : List ℕ) (s : PlainSite) (w : Output) → IsSiteOf files root s → AnswersShown files how root w → w.ends ≡ status.Done
shown_done files shown.Listing root s w site p = at_site files root (λ names c. w ≡ replied (config_reply shown.Listing names c)) s w.ends status.Done site (λ e. ap (λ x. x.ends) e) p
shown_done files shown.Count root s w site p = at_site files root (λ names c. w ≡ replied (config_reply shown.Count names c)) s w.ends status.Done site (λ e. ap (λ x. x.ends) e) p

lawful_done : (callers : ℕ) (t : Task) (files : Option Files) (turns : Option (List Turn)) (w : Output) → IsLawful callers t files turns → Answers callers t files turns w → w.ends ≡ status.Done
lawful_done callers (check root) None turns w h p = absurd h
lawful_done callers (check root) (Some all) turns w h p = shown_done all shown.Count root h.0 w h.1 p
lawful_done callers (objects root) None turns w h p = absurd h
lawful_done callers (objects root) (Some all) turns w h p = shown_done all shown.Listing root h.0 w h.1 p
lawful_done callers (replay style recur root script) None turns w h p = absurd h
lawful_done callers (replay style recur root script) (Some all) turns w h p =
    over_site all root (AnswersReplayed callers style recur None script all) h.0 w h.1 (λ q. bytes_done callers style recur script h.0 (no_entries h.0) (find_file script all) w h.2 q) p
lawful_done callers (daemon style recur root state) None turns w h p = absurd h
lawful_done callers (daemon style recur root state) (Some all) turns w h p =
    over_site all root (AnswersWatched callers style recur state turns all) h.0 w h.1 (λ q. watched_done callers style recur state turns all h.0 w h.2.0 h.2.1 q) p
lawful_done callers (generate hosts) files turns w h p = over_site (files_of hosts) root_name (IsCounted hosts) h.0 w h.1 (λ q. ap (λ x. x.ends) q.is) p
lawful_done callers (query root script name) None turns w h p = absurd h
lawful_done callers (query root script name) (Some all) turns w h p =
    over_site all root (λ s. AnswersQueried callers script name s (find_file script all) (find_file name all)) h.0 w h.1
    (λ q. script_done (AnswersAsked callers name (find_file name all) h.0) script (find_file script all) w h.2.0 (λ ts few x. asked_done callers name (find_file name all) h.0 ts w few h.2.1 x) q) p
lawful_done callers (keep root script) None turns w h p = absurd h
lawful_done callers (keep root script) (Some all) turns w h p =
    over_site all root (λ s. AnswersKept callers script s (find_file script all)) h.0 w h.1
    (λ q. script_done (AnswersLeft callers h.0) script (find_file script all) w h.2 (λ ts few x. left_done callers h.0 ts w few x) q) p
lawful_done callers (audit root log) None turns w h p = absurd h
lawful_done callers (audit root log) (Some all) turns w h p =
    over_site all root (λ s. AnswersAudited callers log s (find_file log all)) h.0 w h.1 (λ q. audited_done callers log h.0 (find_file log all) w h.2 q) p
lawful_done callers (resume style root state script) None turns w h p = absurd h
lawful_done callers (resume style root state script) (Some all) turns w h p =
    over_site all root (AnswersReplayed callers style false (Some state) script all) h.0 w h.1 (λ q. resumed_done callers style (Some state) script all h.0 w h.2.0 h.2.1 q) p

-- Diagnostics.

-- what is written by what a root's configuration comes to
by_root : (files : Files) (root : List ℕ) (Is Says : List (List ℕ) → Committed PlainSite → Type 0) (v w : Output)
    → ((names : List (List ℕ)) (c : Committed PlainSite) → Is names c → Says names c → v ≡ w) → AnswersRoot files root Is → AnswersRoot files root Says → v ≡ w
by_root files root Is Says v w by p q =
    let load = load_outcome files root in
    same_whole v w (λ no. undecided (IsBadZone load) (λ bad d. no (by (names_of load) (config_outcome bad load) (p bad d) (q bad d))))

over_site_or : (t : Task) (files : Files) (root : List ℕ) (Is : PlainSite → Output → Type 0) (lines : List (List ℕ)) (w : Output) → ((s : PlainSite) → Is s w → DiagnosesOver t files s lines → w ≡ diagnosed_by lines)
    → AnswersSite files root Is w → AnswersRoot files root (DiagnosesRoot t files lines) → w ≡ diagnosed_by lines
over_site_or t files root Is lines w over p q = by_root files root (AnswersOver Is w) (DiagnosesRoot t files lines) w (diagnosed_by lines) by p q
  where
    by : (names : List (List ℕ)) (c : Committed PlainSite) → AnswersOver Is w names c → DiagnosesRoot t files lines names c → w ≡ diagnosed_by lines
    by names (commits.site s) x y = over s x y
    by names (commits.refused list) x y = x ∙ ap diagnosed_by (sym y)

shown_diagnosed : (t : Task) (files : Files) (root : List ℕ) (how : Shown) (lines : List (List ℕ)) (w : Output) → ((s : PlainSite) → DiagnosesOver t files s lines → ⊥)
    → AnswersShown files how root w → AnswersRoot files root (DiagnosesRoot t files lines) → w ≡ diagnosed_by lines
shown_diagnosed t files root how lines w never p q = by_root files root (λ names c. w ≡ replied (config_reply how names c)) (DiagnosesRoot t files lines) w (diagnosed_by lines) by p q
  where
    by : (names : List (List ℕ)) (c : Committed PlainSite) → w ≡ replied (config_reply how names c) → DiagnosesRoot t files lines names c → w ≡ diagnosed_by lines
    by names (commits.site s) x y = absurd (never s y)
    by names (commits.refused list) x y = x ∙ ap diagnosed_by (sym y)

script_diagnosed : (Is : List Turn → Output → Type 0) (script : List ℕ) (found : Option (List ℕ)) (lines : List (List ℕ)) (w : Output) → OnScript Is script found w → IsBadScript script found lines → w ≡ diagnosed_by lines
script_diagnosed Is script None lines w p q = p ∙ ap diagnosed_by (sym q)
script_diagnosed Is script (Some bytes) lines w p q =
    let same : p.0 ≡ bad_line q.0 = sym (has_read bytes p.0 p.1) ∙ has_read bytes (bad_line q.0) q.1 in
    subst (λ a. OnTurns Is script a w) same p.2 ∙ ap diagnosed_by (sym q.2)

state_diagnosed : (Is : Histories → Output → Type 0) (state : Option (List ℕ)) (b : Before) (lines : List (List ℕ)) (w : Output) → OnBefore Is state b w → IsBadState state b lines → w ≡ diagnosed_by lines
state_diagnosed Is state (entries.has histories) lines w p q = absurd q
state_diagnosed Is state entries.absent lines w p q = p ∙ ap diagnosed_by (sym q)
state_diagnosed Is state entries.bad lines w p q = p ∙ ap diagnosed_by (sym q)

asked_diagnosed : (callers : ℕ) (name : List ℕ) (asked : Option (List ℕ)) (s : PlainSite) (turns : List Turn) (lines : List (List ℕ)) (w : Output) → AnswersAsked callers name asked s turns w → IsBadQuery name asked lines → w ≡ diagnosed_by lines
asked_diagnosed callers name None s turns lines w p q = p ∙ ap diagnosed_by (sym q)
asked_diagnosed callers name (Some bytes) s turns lines w p q =
    let same : p.0 ≡ query_lines.bad_line q.0 = sym (query_is bytes p.0 p.1) ∙ query_is bytes (query_lines.bad_line q.0) q.1 in
    subst (λ a. OnQuery callers name s turns a w) same p.2 ∙ ap diagnosed_by (sym q.2)

queried_diagnosed : (callers : ℕ) (script name : List ℕ) (found asked : Option (List ℕ)) (s : PlainSite) (lines : List (List ℕ)) (w : Output) → AnswersQueried callers script name s found asked w
    → IsBadScript script found lines ⊎ (IsSomeAnd found IsScript × IsBadQuery name asked lines) → w ≡ diagnosed_by lines
queried_diagnosed callers script name found asked s lines w p (inl q) = script_diagnosed (AnswersAsked callers name asked s) script found lines w p q
queried_diagnosed callers script name None asked s lines w p (inr q) = absurd q.0
queried_diagnosed callers script name (Some bytes) asked s lines w p (inr q) =
    at_script (AnswersAsked callers name asked s) script bytes q.0.0 w q.0.1 (λ x. asked_diagnosed callers name asked s q.0.0 lines w x q.1) p

audited_diagnosed : (callers : ℕ) (name : List ℕ) (found : Option (List ℕ)) (s : PlainSite) (lines : List (List ℕ)) (w : Output) → AnswersAudited callers name s found w → (found ≡ None) × (lines ≡ (no_file name).lines) → w ≡ diagnosed_by lines
audited_diagnosed callers name found s lines w p q = subst (λ f. AnswersAudited callers name s f w) q.0 p ∙ ap diagnosed_by (sym q.1)

resumed_diagnosed : (callers : ℕ) (style : Style) (state : Option (List ℕ)) (script : List ℕ) (all : Files) (s : PlainSite) (lines : List (List ℕ)) (w : Output) → AnswersReplayed callers style false state script all s w
    → IsBadState state (before state s all) lines ⊎ ((has_none (before state s all) ≡ false) × IsBadScript script (find_file script all) lines) → w ≡ diagnosed_by lines
resumed_diagnosed callers style state script all s lines w p (inl q) =
    state_diagnosed (λ histories. AnswersBytes callers style false script s histories (find_file script all)) state (before state s all) lines w p q
resumed_diagnosed callers style state script all s lines w p (inr q) =
    at_entries (λ histories. AnswersBytes callers style false script s histories (find_file script all)) state (before state s all) w q.0
    (λ histories x. script_diagnosed (IsSiteLog callers style false most_turns s histories) script (find_file script all) lines w x q.1) p

diagnosed_is : (callers : ℕ) (t : Task) (files : Option Files) (turns : Option (List Turn)) (lines : List (List ℕ)) (w : Output) → Diagnoses t files lines → Answers callers t files turns w → w ≡ diagnosed_by lines
diagnosed_is callers (check root) None turns lines w h p = absurd h
diagnosed_is callers (check root) (Some all) turns lines w h p = shown_diagnosed (check root) all root shown.Count lines w (λ s x. x) p h
diagnosed_is callers (objects root) None turns lines w h p = absurd h
diagnosed_is callers (objects root) (Some all) turns lines w h p = shown_diagnosed (objects root) all root shown.Listing lines w (λ s x. x) p h
diagnosed_is callers (replay style recur root script) None turns lines w h p = absurd h
diagnosed_is callers (replay style recur root script) (Some all) turns lines w h p =
    over_site_or (replay style recur root script) all root (AnswersReplayed callers style recur None script all) lines w
    (λ s x y. script_diagnosed (IsSiteLog callers style recur most_turns s (no_entries s)) script (find_file script all) lines w x y) p h
diagnosed_is callers (daemon style recur root state) None turns lines w h p = absurd h
diagnosed_is callers (daemon style recur root state) (Some all) turns lines w h p =
    over_site_or (daemon style recur root state) all root (AnswersWatched callers style recur state turns all) lines w
    (λ s x y. state_diagnosed (AnswersTurns callers style recur most_turns turns s) state (before state s all) lines w x y) p h
diagnosed_is callers (generate hosts) files turns lines w h p = over_site_or (generate hosts) (files_of hosts) root_name (IsCounted hosts) lines w (λ s x y. absurd y) p h
diagnosed_is callers (query root script name) None turns lines w h p = absurd h
diagnosed_is callers (query root script name) (Some all) turns lines w h p =
    over_site_or (query root script name) all root (λ s. AnswersQueried callers script name s (find_file script all) (find_file name all)) lines w
    (λ s x y. queried_diagnosed callers script name (find_file script all) (find_file name all) s lines w x y) p h
diagnosed_is callers (keep root script) None turns lines w h p = absurd h
diagnosed_is callers (keep root script) (Some all) turns lines w h p =
    over_site_or (keep root script) all root (λ s. AnswersKept callers script s (find_file script all)) lines w
    (λ s x y. script_diagnosed (AnswersLeft callers s) script (find_file script all) lines w x y) p h
diagnosed_is callers (audit root log) None turns lines w h p = absurd h
diagnosed_is callers (audit root log) (Some all) turns lines w h p =
    over_site_or (audit root log) all root (λ s. AnswersAudited callers log s (find_file log all)) lines w
    (λ s x y. audited_diagnosed callers log (find_file log all) s lines w x y) p h
diagnosed_is callers (resume style root state script) None turns lines w h p = absurd h
diagnosed_is callers (resume style root state script) (Some all) turns lines w h p =
    over_site_or (resume style root state script) all root (AnswersReplayed callers style false (Some state) script all) lines w
    (λ s x y. resumed_diagnosed callers style (Some state) script all s lines w x y) p h

-- Both.

pub complete : (s : Status) (callers : ℕ) (t : Task) (files : Option Files) (turns : Option (List Turn)) (old new : Option (List ℕ)) → EndsRun s (Answers callers t files turns) old new → IsComplete s callers t files turns old new
complete s callers t files turns old new e =
    let whole : Completes s (Answers callers t files turns) old new = completed s (Answers callers t files turns) old new e in
    record {
      whole = whole;
      lawful = λ h. known s (Answers callers t files turns) (λ w. Answers callers t files turns w × (w.ends ≡ status.Done)) old new (λ w is. (is, lawful_done callers t files turns w h is)) whole;
      diagnosed = λ lines h. known s (Answers callers t files turns) (λ w. w ≡ diagnosed_by lines) old new (λ w is. diagnosed_is callers t files turns lines w h is) whole;
    }
