-- What a run writes over a site for a script, for the turns of the world, and for a query, and how far one of the world came.
use Rattle.std.specs.Prelude.{ℕ, ◌≡◌, ◌⊎◌, Bool, true, false, List, [], Option, Some, None, IfSome, unwrap_or}
use Rattle.run_meaning.specs.Runs.{no_entries}
use Rattle.run_meaning.specs.Turns.{Histories}
use Rattle.run_text.specs.declared.style.Style.{Style}
use Rattle.site_edge.specs.Told.{find_file}
use Rattle.site_edge.specs.declared.turn.Turn.{Turn}
use Rattle.site_model.specs.PlainSite.{PlainSite}
use Rattle.run_replies.specs.Runs.{Files, replied}
use Rattle.site_keep.specs.Reading.{state_read}
use Rattle.site_query.specs.Lines as query_lines
use Rattle.site_replies.specs.Replies.{bad_query, bad_script, bad_state, no_file}
use Rattle.site_run.specs.Ends.{Outside}
use Rattle.site_run.specs.Logs.{Output}
use Rattle.site_run.specs.declared.status.Status.{Status}
use Rattle.site_run.specs.declared.status.Status.TheVariants as status
use Rattle.site_text.specs.Scripts.{Answer, Has, told, bad_line}
use Rattle.kept_runs.specs.Kept.{AnswersKeep}
use Rattle.whole_runs.specs.Logs.{AnswersTurns, IsSiteLog, WentOver}
use Rattle.whole_runs.specs.Queried.{AnswersQuery}

-- Logs.

-- how many turns are taken at most
abbrev pub most_turns : ℕ
most_turns = 100000000

-- what is asked of the turns of a script, or that its first line that is none is this one
abbrev pub OnTurns : (List Turn → Output → Type 0) → List ℕ → Answer → Output → Type 0
OnTurns Is script (told turns) w = Is turns w
OnTurns Is script (bad_line n) w = w ≡ replied (bad_script script n)

-- of those that the bytes of its file tell, or that there is none
abbrev pub OnScript : (List Turn → Output → Type 0) → List ℕ → Option (List ℕ) → Output → Type 0
OnScript Is script None w = w ≡ replied (no_file script)
OnScript Is script (Some bytes) w = (a : Answer) × Has bytes a × OnTurns Is script a w

-- the log of a script's turns with so many callers after these entries, with downtimes that recur or don't
abbrev pub AnswersBytes : ℕ → Style → Bool → List ℕ → PlainSite → Histories → Option (List ℕ) → Output → Type 0
AnswersBytes callers style recur script s histories found w = OnScript (IsSiteLog callers style recur most_turns s histories) script found w

-- Entries before the first turn.

-- some, perhaps none; or that the state file that is named isn't there, or is none of the site
pub data Before : Type 0 where
  has : Histories → Before
  absent : Before
  bad : Before

abbrev pub restored : Option Histories → Before
restored (Some histories) = has histories
restored None = bad

abbrev pub before_in : PlainSite → Option (List ℕ) → Before
before_in s None = absent
before_in s (Some bytes) = restored (state_read s bytes)

-- by the name of the state file, if one is named
abbrev pub before : Option (List ℕ) → PlainSite → Files → Before
before None s files = has (no_entries s)
before (Some name) s files = before_in s (find_file name files)

abbrev pub name_of : Option (List ℕ) → List ℕ
name_of state = unwrap_or state []

-- what is asked of them
abbrev pub OnBefore : (Histories → Output → Type 0) → Option (List ℕ) → Before → Output → Type 0
OnBefore Is state (has histories) w = Is histories w
OnBefore Is state absent w = w ≡ replied (no_file (name_of state))
OnBefore Is state bad w = w ≡ replied (bad_state (name_of state))

-- the log of a script's turns after them
abbrev pub AnswersReplayed : ℕ → Style → Bool → Option (List ℕ) → List ℕ → Files → PlainSite → Output → Type 0
AnswersReplayed callers style recur state script all s w =
    OnBefore (λ histories. AnswersBytes callers style recur script s histories (find_file script all)) state (before state s all) w

-- that of the world's turns
abbrev pub AnswersWatched : ℕ → Style → Bool → Option (List ℕ) → Option (List Turn) → Files → PlainSite → Output → Type 0
AnswersWatched callers style recur state turns all s w =
    OnBefore (AnswersTurns callers style recur most_turns turns s) state (before state s all) w

-- Queries.

-- the text of an answer or of a state file; nothing if there were more turns than may be taken
abbrev pub answered : Option (List ℕ) → Output
answered (Some text) = record { text = text; ends = status.Done }
answered None = record { text = []; ends = status.TurnsSpent }

-- what a query is answered once these turns are over, or that its first line that is none is this one
abbrev pub OnQuery : ℕ → List ℕ → PlainSite → List Turn → query_lines.Answer → Output → Type 0
OnQuery callers name s turns (query_lines.told q) w = (answer : Option (List ℕ)) × AnswersQuery callers most_turns s turns q answer × (w ≡ answered answer)
OnQuery callers name s turns (query_lines.bad_line n) w = w ≡ replied (bad_query name n)

-- of the one that the bytes of its file tell, or that there is none
abbrev pub AnswersAsked : ℕ → List ℕ → Option (List ℕ) → PlainSite → List Turn → Output → Type 0
AnswersAsked callers name None s turns w = w ≡ replied (no_file name)
AnswersAsked callers name (Some bytes) s turns w = (a : query_lines.Answer) × query_lines.Has bytes a × OnQuery callers name s turns a w

-- once the turns of a script are over
abbrev pub AnswersQueried : ℕ → List ℕ → List ℕ → PlainSite → Option (List ℕ) → Option (List ℕ) → Output → Type 0
AnswersQueried callers script name s found asked w = OnScript (AnswersAsked callers name asked s) script found w

-- State files.

-- that of the entries which these turns leave
abbrev pub AnswersLeft : ℕ → PlainSite → List Turn → Output → Type 0
AnswersLeft callers s turns w = (file : Option (List ℕ)) × AnswersKeep callers most_turns s turns file × (w ≡ answered file)

-- once the turns of a script are over
abbrev pub AnswersKept : ℕ → List ℕ → PlainSite → Option (List ℕ) → Output → Type 0
AnswersKept callers script s found w = OnScript (AnswersLeft callers s) script found w

-- How far a run of the world's turns came: to no answer of its files, to no entries before its first turn, or after these.

-- the files could not be read, or there was no memory for what they come to; nothing was taken, started or written
pub record IsUnanswered (end : Status) (old new : Outside) : Type 0 where
  pub cause : (end ≡ status.ReadFault) ⊎ (end ≡ status.OutOfMemory)
  pub same : new ≡ old

abbrev pub has_none : Before → Bool
has_none (has histories) = false
has_none absent = true
has_none bad = true

-- the state file that is named has no entries of this site; nothing was taken or started
pub record IsStateless (state : Option (List ℕ)) (files : Option Files) (s : PlainSite) (old new : Outside) : Type 0 where
  pub is : IfSome files (λ all. has_none (before state s all) ≡ true)
  pub turns : new.turns ≡ old.turns
  pub started : new.started ≡ old.started
  pub calls : new.calls ≡ old.calls

-- there are entries before the first turn, and it went so far after them
pub record IsBehind (end : Status) (callers : ℕ) (style : Style) (recur : Bool) (state : Option (List ℕ)) (files : Option Files) (s : PlainSite) (old new : Outside) : Type 0 where
  pub histories : Histories
  pub are : IfSome files (λ all. before state s all ≡ has histories)
  pub went : WentOver end callers style recur most_turns s histories old new

-- over a site
abbrev pub CameBehind : Status → ℕ → Style → Bool → Option (List ℕ) → Option Files → PlainSite → Outside → Outside → Type 0
CameBehind end callers style recur state files s old new =
    IsUnanswered end old new ⊎ (IsStateless state files s old new ⊎ IsBehind end callers style recur state files s old new)
