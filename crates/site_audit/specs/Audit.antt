-- What an audit says of a log.
use Rattle.std.specs.Prelude.{◌≡◌, ◌==◌, ◌+◌, ◌<◌, ◌≤◌, ◌||◌, ℕ, zero, suc, Bool, true, false, List, [], ◌∷◌, length, take, map, Option, Some, None}
use Rattle.std.specs.List.{flat_map}
use Rattle.jiff_tz.specs.declared.tzif.Tzif.{Tzif}
use Rattle.log_text.specs.Fronts.{behind}
use Rattle.log_text.specs.LogLines.{log_two}
use Rattle.run_meaning.specs.Runs.{Basis, no_entries, start}
use Rattle.run_text.specs.declared.style.Style.{Style}
use Rattle.run_text.specs.declared.style.Style.TheVariants.{One, Two}
use Rattle.run_text.specs.TurnReading.{turn_read}
use Rattle.site_edge.specs.declared.turn.Turn.{Turn}
use Rattle.site_model.specs.PlainSite.{PlainSite}
use Rattle.turn_engine.specs.Ready.{IsZoneOf}
use Rattle.turn_engine.specs.Stages.{basis_of_site}
use Rattle.site_audit.specs.Agreeing.{agreeing, IsWritten}
use Rattle.site_audit.specs.Blocks.{begins_turn, blocks_of, lines_of}
use Rattle.site_audit.specs.Told.{turns_in}
use Rattle.site_audit.specs.declared.auditing.Verdict.{Verdict}
use Rattle.site_audit.specs.declared.auditing.Verdict.TheVariants as verdict

-- blocks tell turns of so many callers, and are what a run of these callers over the turns writes
pub record IsLegal (style : Style) (b : Basis) (callers : ℕ) (s : PlainSite) (blocks : List (List (List ℕ))) : Type 0 where
  pub turns : List Turn
  pub told : turns_in callers s style blocks ≡ Some turns
  pub written : IsWritten style b callers (start s (no_entries s)) (map (turn_read s) turns) blocks

-- With one caller this is a test.
abbrev pub is_written : Style → Basis → PlainSite → List (List (List ℕ)) → Option (List Turn) → Bool
is_written style b s blocks None = false
is_written style b s blocks (Some turns) = agreeing style b (start s (no_entries s)) (map (turn_read s) turns) blocks == length blocks

abbrev pub is_legal : Style → Basis → PlainSite → List (List (List ℕ)) → Bool
is_legal style b s blocks = is_written style b s blocks (turns_in 1 s style blocks)

-- the block after so many is the first one such that the blocks through it are no legal log
pub record IsFirstBad (style : Style) (b : Basis) (callers : ℕ) (s : PlainSite) (blocks : List (List (List ℕ))) (count : ℕ) : Type 0 where
  pub within : count < length blocks
  pub before : (k : ℕ) → k ≤ count → IsLegal style b callers s (take k blocks)
  pub bad : IsLegal style b callers s (take (suc count) blocks) → ⊥

-- its first line is line `line`, if that of the first block is line `first`
pub record IsBadLine (style : Style) (b : Basis) (callers : ℕ) (s : PlainSite) (first : ℕ) (blocks : List (List (List ℕ))) (line : ℕ) : Type 0 where
  pub count : ℕ
  pub is_first : IsFirstBad style b callers s blocks count
  pub whole : IsLegal style b callers s blocks → ⊥
  pub is : line ≡ first + length (flat_map (λ x. x) (take count blocks))

abbrev pub Says : Style → Basis → ℕ → PlainSite → ℕ → List (List (List ℕ)) → Verdict → Type 0
Says style b callers s first blocks verdict.Legal = IsLegal style b callers s blocks
Says style b callers s first blocks (verdict.Illegal line) = IsBadLine style b callers s first blocks line

-- of a log without the line of its version, of which this is the number of the first line
pub record IsVerdictOf (style : Style) (callers : ℕ) (s : PlainSite) (first : ℕ) (log : List ℕ) (v : Verdict) : Type 0 where
  pub zone : Option Tzif
  pub is_zone : IsZoneOf s.zone zone
  pub says : Says style (basis_of_site s zone) callers s first (blocks_of (lines_of log)) v

-- The first line tells the version. In version two, what stands between it and the first block that begins a turn is a block with it.

abbrev pub is_cut_off : List ℕ → Bool
is_cut_off rest = (length rest == 0) || begins_turn rest

abbrev pub IsVerdictTwo : Bool → ℕ → PlainSite → List ℕ → Verdict → Type 0
IsVerdictTwo true callers s rest v = IsVerdictOf Two callers s 2 rest v
IsVerdictTwo false callers s rest v = v ≡ verdict.Illegal 1

abbrev pub IsVerdictBy : ℕ → PlainSite → List ℕ → Option (List ℕ) → Verdict → Type 0
IsVerdictBy callers s log None v = IsVerdictOf One callers s 1 log v
IsVerdictBy callers s log (Some rest) v = IsVerdictTwo (is_cut_off rest) callers s rest v

-- what is said of a log that so many callers may have written
abbrev pub IsVerdict : ℕ → PlainSite → List ℕ → Verdict → Type 0
IsVerdict callers s log v = IsVerdictBy callers s log (behind log_two log) v

-- As it is counted, from a block whose first line has this number.
abbrev pub verdict_from : ℕ → ℕ → List (List (List ℕ)) → Verdict
verdict_from line count [] = verdict.Legal
verdict_from line zero (x ∷ xs) = verdict.Illegal line
verdict_from line (suc count) (x ∷ xs) = verdict_from (line + length x) count xs
