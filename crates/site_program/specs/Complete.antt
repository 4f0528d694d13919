-- With what a run ends, unless a fault of its files, of the output or of the world ends it: over lawful files with the whole answer, and
-- else with diagnostics.
use Rattle.std.specs.Prelude.{ℕ, ◌≡◌, ◌≤◌, ◌⊎◌, false, List, length, Option, Some, None, IsSomeAnd}
use Rattle.std.specs.List.{concat}
use Rattle.commit_meaning.specs.Commits as commits
use Rattle.commit_meaning.specs.Commits.{Committed}
use Rattle.run_replies.specs.Runs.{Files}
use Rattle.site_answers.specs.SiteAnswers as entries
use Rattle.site_answers.specs.SiteAnswers.{Before, before, has_none, most_turns, name_of}
use Rattle.site_audit.specs.Audit.{IsVerdict}
use Rattle.site_audit.specs.declared.auditing.Verdict.TheVariants as verdict
use Rattle.site_edge.specs.Lists.{Adds}
use Rattle.site_edge.specs.Told.{find_file}
use Rattle.site_edge.specs.declared.turn.Turn.{Turn}
use Rattle.site_model.specs.PlainSite.{PlainSite}
use Rattle.site_query.specs.Lines as query_lines
use Rattle.site_query.specs.declared.query.Query.{Query}
use Rattle.site_replies.specs.Replies.{bad_query, bad_script, bad_state, diagnoses, no_file}
use Rattle.site_run.specs.Logs.{Output}
use Rattle.site_run.specs.declared.status.Status.{Status}
use Rattle.site_run.specs.declared.status.Status.TheVariants as status
use Rattle.site_text.specs.Scripts.{Has, bad_line, told}
use Rattle.site_words.specs.Tasks.{Task, audit, check, daemon, generate, keep, objects, query, replay, resume}
use Rattle.site_program.specs.TaskAnswers.{Answers, AnswersRoot, IsSiteOf, files_of, root_name}

-- What a task reads.

-- the files are told, but for a generated site, whose one file is known
abbrev pub files_read : Task → Option Files → Option Files
files_read (generate hosts) files = Some (files_of hosts)
files_read task files = files

abbrev pub root_of : Task → List ℕ
root_of (check root) = root
root_of (objects root) = root
root_of (replay style recur root script) = root
root_of (daemon style recur root state) = root
root_of (generate hosts) = root_name
root_of (query root script name) = root
root_of (keep root script) = root
root_of (audit root log) = root
root_of (resume style root state script) = root

-- Lawful files.

abbrev pub IsScript : List ℕ → Type 0
IsScript bytes = (turns : List Turn) × Has bytes (told turns)

-- a script of no more turns than may be taken
abbrev pub AreTurns : List ℕ → Type 0
AreTurns bytes = (turns : List Turn) × Has bytes (told turns) × (length turns ≤ most_turns)

abbrev pub HasTurns : List ℕ → Files → Type 0
HasTurns script files = IsSomeAnd (find_file script files) AreTurns

abbrev pub IsQuery : List ℕ → Type 0
IsQuery bytes = (q : Query) × query_lines.Has bytes (query_lines.told q)

-- the entries before the first turn are there, in the state file if one is named
abbrev pub HasEntries : Option (List ℕ) → PlainSite → Files → Type 0
HasEntries state s files = has_none (before state s files) ≡ false

-- what else a task needs over a site: of a daemon that no more turns come than may be taken, of an audit that the log is legal
abbrev pub IsLawfulOver : ℕ → Task → Files → Option (List Turn) → PlainSite → Type 0
IsLawfulOver callers (check root) files turns s = Unit {0}
IsLawfulOver callers (objects root) files turns s = Unit {0}
IsLawfulOver callers (replay style recur root script) files turns s = HasTurns script files
IsLawfulOver callers (daemon style recur root state) files turns s = HasEntries state s files × IsSomeAnd turns (λ ts. length ts ≤ most_turns)
IsLawfulOver callers (generate hosts) files turns s = Unit {0}
IsLawfulOver callers (query root script name) files turns s = HasTurns script files × IsSomeAnd (find_file name files) IsQuery
IsLawfulOver callers (keep root script) files turns s = HasTurns script files
IsLawfulOver callers (audit root log) files turns s = IsSomeAnd (find_file log files) (λ bytes. IsVerdict callers s bytes verdict.Legal)
IsLawfulOver callers (resume style root state script) files turns s = HasEntries (Some state) s files × HasTurns script files

-- the root makes a site, and over it that is so
abbrev pub IsLawful : ℕ → Task → Option Files → Option (List Turn) → Type 0
IsLawful callers task files turns =
    IsSomeAnd (files_read task files) (λ all. (s : PlainSite) × IsSiteOf all (root_of task) s × IsLawfulOver callers task all turns s)

-- Diagnostics, as the lines that tell them.

-- the script isn't there, or its first line that is none is this one
abbrev pub IsBadScript : List ℕ → Option (List ℕ) → List (List ℕ) → Type 0
IsBadScript script None lines = lines ≡ (no_file script).lines
IsBadScript script (Some bytes) lines = (n : ℕ) × Has bytes (bad_line n) × (lines ≡ (bad_script script n).lines)

abbrev pub IsBadQuery : List ℕ → Option (List ℕ) → List (List ℕ) → Type 0
IsBadQuery name None lines = lines ≡ (no_file name).lines
IsBadQuery name (Some bytes) lines = (n : ℕ) × query_lines.Has bytes (query_lines.bad_line n) × (lines ≡ (bad_query name n).lines)

-- the state file isn't there, or is none of the site
abbrev pub IsBadState : Option (List ℕ) → Before → List (List ℕ) → Type 0
IsBadState state (entries.has histories) lines = ⊥
IsBadState state entries.absent lines = lines ≡ (no_file (name_of state)).lines
IsBadState state entries.bad lines = lines ≡ (bad_state (name_of state)).lines

-- over a site; a script is read once the entries before it are there, and a query once the script is read
abbrev pub DiagnosesOver : Task → Files → PlainSite → List (List ℕ) → Type 0
DiagnosesOver (check root) files s lines = ⊥
DiagnosesOver (objects root) files s lines = ⊥
DiagnosesOver (replay style recur root script) files s lines = IsBadScript script (find_file script files) lines
DiagnosesOver (daemon style recur root state) files s lines = IsBadState state (before state s files) lines
DiagnosesOver (generate hosts) files s lines = ⊥
DiagnosesOver (query root script name) files s lines =
    IsBadScript script (find_file script files) lines ⊎ (IsSomeAnd (find_file script files) IsScript × IsBadQuery name (find_file name files) lines)
DiagnosesOver (keep root script) files s lines = IsBadScript script (find_file script files) lines
DiagnosesOver (audit root log) files s lines = (find_file log files ≡ None) × (lines ≡ (no_file log).lines)
DiagnosesOver (resume style root state script) files s lines =
    IsBadState (Some state) (before (Some state) s files) lines ⊎ (HasEntries (Some state) s files × IsBadScript script (find_file script files) lines)

-- of what a root's configuration comes to
abbrev pub DiagnosesRoot : Task → Files → List (List ℕ) → List (List ℕ) → Committed PlainSite → Type 0
DiagnosesRoot task files lines names (commits.site s) = DiagnosesOver task files s lines
DiagnosesRoot task files lines names (commits.refused list) = lines ≡ (diagnoses names list).lines

abbrev pub Diagnoses : Task → Option Files → List (List ℕ) → Type 0
Diagnoses task files lines = IsSomeAnd (files_read task files) (λ all. AnswersRoot all (root_of task) (DiagnosesRoot task all lines))

-- Runs.

abbrev pub IsFault : Status → Type 0
IsFault end = (end ≡ status.ReadFault) ⊎ ((end ≡ status.WriteFault) ⊎ (end ≡ status.WorldFault))

-- unless a fault ended it or there was no memory for it, a run wrote the whole of such an answer, and ended as that does
abbrev pub Completes : Status → (Output → Type 0) → Option (List ℕ) → Option (List ℕ) → Type 0
Completes end Is old new = IsFault end ⊎ ((end ≡ status.OutOfMemory) ⊎ ((w : Output) × Is w × (end ≡ w.ends) × Adds w.text old new))

abbrev pub diagnosed_by : List (List ℕ) → Output
diagnosed_by lines = record { text = concat lines; ends = status.Diagnosed }

-- So it wrote the whole of what answers to its task. Over lawful files that ends with status 0, and diagnostics are all that is written,
-- with status 1.
pub record IsComplete (end : Status) (callers : ℕ) (task : Task) (files : Option Files) (turns : Option (List Turn)) (old new : Option (List ℕ)) : Type 0 where
  pub whole : Completes end (Answers callers task files turns) old new
  pub lawful : IsLawful callers task files turns → Completes end (λ w. Answers callers task files turns w × (w.ends ≡ status.Done)) old new
  pub diagnosed : (lines : List (List ℕ)) → Diagnoses task files lines → Completes end (λ w. w ≡ diagnosed_by lines) old new
