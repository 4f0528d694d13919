-- What a command line asks for, with its options.
use Rattle.std.specs.Prelude.{ℕ, ◌≤◌, ◌&&◌, ◌||◌, ◌+◌, nat_le, Bool, true, false, List, [], ◌∷◌, length, take, drop, Option, Some, None, IfSome, if◌then◌else◌, option_map, unwrap_or, codes}
use Rattle.std.specs.List.{position}
use Rattle.std.specs.Option.{option_and_then}
use Rattle.std.specs.Str.{bytes_eq}
use Rattle.run_text.specs.declared.style.Style.{Style}
use Rattle.run_text.specs.declared.style.Style.TheVariants as style
use Rattle.site_text.specs.ScriptReading.{Read, bad, got}
use Rattle.site_text.specs.Wholes.{whole_at}
use Rattle.site_words.specs.Tasks.{Task, task_of, task_view}
use Rattle.site_words.specs.declared.command.Command as declared
use Rattle.site_words.specs.declared.options.Options.{Options}

-- a task, and how many workers do it
pub record Command : Type 0 where
  pub task : Task
  pub workers : ℕ

abbrev pub command_view : declared.Command → Command
command_view c = record { task = task_view c.task; workers = c.workers }

-- Options: `--log V`, `--workers K` and `--recur`, each once.

-- that downtimes are to recur, which has no value behind it
abbrev pub is_recur : List ℕ → Bool
is_recur w = bytes_eq w (codes "--recur")

abbrev pub is_option : List ℕ → Bool
is_option w = bytes_eq w (codes "--log") || (bytes_eq w (codes "--workers") || is_recur w)

-- a version of the log: 1 or 2
abbrev pub version_in : List ℕ → Option Style
version_in w =
    if bytes_eq w (codes "1") then Some style.One
    else if bytes_eq w (codes "2") then Some style.Two
    else None

-- a number of workers: from 1 to 64, and nothing stands behind its digits
abbrev pub few_workers : Read ℕ → Option ℕ
few_workers (got n []) = if nat_le 1 n && nat_le n 64 then Some n else None
few_workers (got n (b ∷ bs)) = None
few_workers bad = None

abbrev pub workers_in : List ℕ → Option ℕ
workers_in w = few_workers (whole_at w)

-- that is from 1 to 64
abbrev pub AreWorkers : ℕ → Type 0
AreWorkers k = (1 ≤ k) × (k ≤ 64)

-- what is told, if nothing was told so far
abbrev pub once : {A : Type 0} → Option A → Option A → Option A
once None now = now
once (Some before) now = None

-- with one option more, by its word and its value
abbrev pub with_option : Options → List ℕ → List ℕ → Option Options
with_option os o v =
    if bytes_eq o (codes "--log") then option_map (λ x. record os { style = Some x }) (once os.style (version_in v))
    else if bytes_eq o (codes "--workers") then option_map (λ x. record os { workers = Some x }) (once os.workers (workers_in v))
    else None

-- with downtimes that recur
abbrev pub with_recur : Options → Option Options
with_recur os = if os.recur then None else Some (record os { recur = true })

-- how many workers there are, if that is told
abbrev pub AreFew : Options → Type 0
AreFew os = IfSome os.workers AreWorkers

abbrev pub no_options : Options
no_options = record { style = None; workers = None; recur = false }

-- Command lines: options, a command's own words, and options.

-- a command's own words, with all options
abbrev pub command_by : Options → List (List ℕ) → Option Command
command_by os own = option_map (λ t. record { task = t; workers = unwrap_or os.workers 1 }) (task_of os.style os.recur own)

-- with options to the end behind them
abbrev pub command_behind : List (List ℕ) → Options → List (List ℕ) → Option Command
command_behind own os [] = command_by os own
command_behind own os (o ∷ []) = if is_recur o then option_and_then (λ more. command_by more own) (with_recur os) else None
command_behind own os (o ∷ v ∷ ws) =
    if is_recur o then option_and_then (λ more. command_behind own more (v ∷ ws)) (with_recur os)
    else option_and_then (λ more. command_behind own more ws) (with_option os o v)

-- the place of the first option
abbrev pub first_option : List (List ℕ) → Option ℕ
first_option ws = position is_option ws

-- a command's own words are the first two, and those behind them up to an option
abbrev pub own_many : List (List ℕ) → ℕ
own_many [] = 0
own_many (w ∷ []) = 1
own_many (w ∷ x ∷ ws) = 2 + unwrap_or (first_option ws) (length ws)

abbrev pub command_own : Options → List (List ℕ) → Option Command
command_own os ws = command_behind (take (own_many ws) ws) os (drop (own_many ws) ws)

-- with options before them
abbrev pub command_from : Options → List (List ℕ) → Option Command
command_from os [] = None
command_from os (w ∷ []) = None
command_from os (o ∷ v ∷ ws) =
    if is_recur o then option_and_then (λ more. command_from more (v ∷ ws)) (with_recur os)
    else if is_option o then option_and_then (λ more. command_from more ws) (with_option os o v)
    else command_own os (o ∷ v ∷ ws)

abbrev pub command_of : List (List ℕ) → Option Command
command_of ws = command_from no_options ws
