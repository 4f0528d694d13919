-- What the program is asked to do.
use Rattle.std.specs.Prelude.{ℕ, ◌==◌, ◌&&◌, nat_le, not, Bool, true, false, List, [], ◌∷◌, Option, Some, None, if◌then◌else◌, option_map, codes}
use Rattle.std.specs.Str.{bytes_eq}
use Rattle.run_text.specs.declared.style.Style.{Style}
use Rattle.run_text.specs.declared.style.Style.TheVariants as style
use Rattle.site_text.specs.ScriptReading.{Read, bad, got}
use Rattle.site_text.specs.Wholes.{whole_at}
use Rattle.site_words.specs.declared.task.Task as declared
use Rattle.site_words.specs.declared.task.Task.TheVariants.{Audit, Check, Daemon, Generate, Keep, Objects, Query, Replay, Resume}

-- what words ask for, by the names of files or the number of hosts
pub data Task : Type 0 where
  -- of a root
  check : List ℕ → Task
  objects : List ℕ → Task
  -- in a version of the log, with downtimes that recur or don't, of a root and a script
  replay : Style → Bool → List ℕ → List ℕ → Task
  -- the same of a root, and of a state file, if one is named
  daemon : Style → Bool → List ℕ → Option (List ℕ) → Task
  -- of a generated site of so many hosts
  generate : ℕ → Task
  -- of a root, a script and a query
  query : List ℕ → List ℕ → List ℕ → Task
  -- of a root and a script
  keep : List ℕ → List ℕ → Task
  -- of a root and a log
  audit : List ℕ → List ℕ → Task
  -- in a version of the log, of a root, a state file and a script
  resume : Style → List ℕ → List ℕ → List ℕ → Task

abbrev pub task_view : declared.Task → Task
task_view (Check root) = check root.now
task_view (Objects root) = objects root.now
task_view (Replay style recur root script) = replay style recur root.now script.now
task_view (Daemon style recur root state) = daemon style recur root.now (option_map (λ name. name.now) state)
task_view (Generate hosts) = generate hosts
task_view (Query root script asked) = query root.now script.now asked.now
task_view (Keep root script) = keep root.now script.now
task_view (Audit root log) = audit root.now log.now
task_view (Resume style root state script) = resume style root.now state.now script.now

abbrev pub is_audit : Task → Bool
is_audit (audit root log) = true
is_audit task = false

-- a file's name: it isn't empty and doesn't begin with `-`
abbrev pub is_file_word : List ℕ → Bool
is_file_word [] = false
is_file_word (b ∷ bs) = not (b == 45)

-- `check ROOT` or `objects ROOT`
abbrev pub plain_task : List ℕ → List ℕ → Option Task
plain_task w x =
    if bytes_eq w (codes "check") && is_file_word x then Some (check x)
    else if bytes_eq w (codes "objects") && is_file_word x then Some (objects x)
    else None

-- `replay ROOT SCRIPT`
abbrev pub replay_task : Style → Bool → List ℕ → List ℕ → List ℕ → Option Task
replay_task version recur w root script =
    if bytes_eq w (codes "replay") && (is_file_word root && is_file_word script) then Some (replay version recur root script) else None

-- `daemon ROOT`
abbrev pub daemon_task : Style → Bool → List ℕ → List ℕ → Option Task
daemon_task version recur w root =
    if bytes_eq w (codes "daemon") && is_file_word root then Some (daemon version recur root None) else None

-- `daemon ROOT STATE`
abbrev pub daemon_on : Style → Bool → List ℕ → List ℕ → Option Task
daemon_on version recur root state =
    if is_file_word root && is_file_word state then Some (daemon version recur root (Some state)) else None

-- `query ROOT SCRIPT QUERY`
abbrev pub query_task : List ℕ → List ℕ → List ℕ → List ℕ → Option Task
query_task w root script asked =
    if bytes_eq w (codes "query") && (is_file_word root && (is_file_word script && is_file_word asked))
    then Some (query root script asked)
    else None

-- `keep ROOT SCRIPT`
abbrev pub keep_task : List ℕ → List ℕ → Option Task
keep_task root script = if is_file_word root && is_file_word script then Some (keep root script) else None

-- `audit ROOT LOG`
abbrev pub audit_task : List ℕ → List ℕ → Option Task
audit_task root log = if is_file_word root && is_file_word log then Some (audit root log) else None

-- a number of hosts: from 1 to 10,000, and nothing stands behind its digits
abbrev pub few_hosts : Read ℕ → Option ℕ
few_hosts (got n []) = if nat_le 1 n && nat_le n 10000 then Some n else None
few_hosts (got n (b ∷ bs)) = None
few_hosts bad = None

abbrev pub hosts_in : List ℕ → Option ℕ
hosts_in w = few_hosts (whole_at w)

-- `gen N`
abbrev pub generate_task : List ℕ → Option Task
generate_task w = option_map generate (hosts_in w)

-- `resume ROOT STATE SCRIPT`
abbrev pub resume_task : Style → List ℕ → List ℕ → List ℕ → List ℕ → Option Task
resume_task version w root state script =
    if bytes_eq w (codes "resume") && (is_file_word root && (is_file_word state && is_file_word script))
    then Some (resume version root state script)
    else None

abbrev pub three_words : Style → Bool → List ℕ → List ℕ → List ℕ → Option Task
three_words version recur w x y =
    if bytes_eq w (codes "daemon") then daemon_on version recur x y else replay_task version recur w x y

-- of which none asks for a version of the log, nor for downtimes that recur
abbrev pub three_plain : List ℕ → List ℕ → List ℕ → Option Task
three_plain w x y =
    if bytes_eq w (codes "keep") then keep_task x y
    else if bytes_eq w (codes "audit") then audit_task x y
    else three_words style.One false w x y

abbrev pub four_words : List ℕ → List ℕ → List ℕ → List ℕ → Option Task
four_words w x y z = if bytes_eq w (codes "resume") then resume_task style.One w x y z else query_task w x y z

-- words that ask for a log in this version, with downtimes that recur or don't
abbrev pub logged_task : Style → Bool → List (List ℕ) → Option Task
logged_task version recur (w ∷ root ∷ []) = daemon_task version recur w root
logged_task version recur (w ∷ x ∷ y ∷ []) = three_words version recur w x y
logged_task version recur (w ∷ x ∷ y ∷ z ∷ []) = if recur then None else resume_task version w x y z
logged_task version recur ws = None

abbrev pub two_words : List ℕ → List ℕ → Option Task
two_words w x =
    if bytes_eq w (codes "daemon") then daemon_task style.One false w x
    else if bytes_eq w (codes "gen") then generate_task x
    else plain_task w x

-- words that ask for no version of the log, and for no downtimes that recur
abbrev pub plain_words : List (List ℕ) → Option Task
plain_words (w ∷ x ∷ []) = two_words w x
plain_words (w ∷ x ∷ y ∷ []) = three_plain w x y
plain_words (w ∷ x ∷ y ∷ z ∷ []) = four_words w x y z
plain_words ws = None

-- what a command's own words ask for, by the version that is asked for, and whether downtimes are to recur
abbrev pub task_of : Option Style → Bool → List (List ℕ) → Option Task
task_of None false ws = plain_words ws
task_of None true ws = logged_task style.One true ws
task_of (Some version) recur ws = logged_task version recur ws
