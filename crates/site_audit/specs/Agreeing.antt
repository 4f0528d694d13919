-- How far a log is that of a run over given turns.
use Rattle.std.specs.Prelude.{ℕ, ◌≡◌, ◌<◌, ◌≤◌, suc, Bool, true, List, [], ◌∷◌, length, map, take, Option, if◌then◌else◌}
use Rattle.std.specs.List.{concat}
use Rattle.std.specs.Str.{bytes_eq}
use Rattle.jiff_tz.specs.declared.tzif.Tzif.{Tzif}
use Rattle.run_meaning.specs.Alone.{turn_alone}
use Rattle.run_meaning.specs.Runs.{Basis, IsRunFrom, Stage, TurnLog, no_entries, stage_after, start}
use Rattle.run_meaning.specs.Turns.{ReadTurn}
use Rattle.run_text.specs.LogText.{turn_lines}
use Rattle.run_text.specs.declared.style.Style.{Style}
use Rattle.run_text.specs.TurnReading.{turn_read}
use Rattle.site_edge.specs.declared.turn.Turn.{Turn}
use Rattle.site_model.specs.PlainSite.{PlainSite}
use Rattle.turn_engine.specs.Ready.{IsZoneOf}
use Rattle.turn_engine.specs.Stages.{basis_of_site}
use Rattle.site_audit.specs.Blocks.{blocks_of, lines_of}

-- whether these lines are those of a turn
abbrev pub is_block : Style → PlainSite → TurnLog → List (List ℕ) → Bool
is_block style s l lines = bytes_eq (concat lines) (concat (turn_lines style s l))

-- the blocks are the texts of these turns, one each
abbrev pub AreBlocks : Style → PlainSite → List TurnLog → List (List (List ℕ)) → Type 0
AreBlocks style s [] [] = Unit {0}
AreBlocks style s [] (x ∷ xs) = ⊥
AreBlocks style s (l ∷ ls) [] = ⊥
AreBlocks style s (l ∷ ls) (x ∷ xs) = (is_block style s l x ≡ true) × AreBlocks style s ls xs

-- a run of so many callers over these turns writes these blocks
pub record IsWritten (style : Style) (b : Basis) (callers : ℕ) (st : Stage) (turns : List ReadTurn) (blocks : List (List (List ℕ))) : Type 0 where
  pub logs : List TurnLog
  pub run : IsRunFrom b callers st turns logs
  pub texts : AreBlocks style b.rules.site logs blocks

-- so many of the first blocks are what a run of so many callers over as many of the turns writes, and none writes one block and one turn more
pub record AgreeUpTo (style : Style) (b : Basis) (callers : ℕ) (st : Stage) (turns : List ReadTurn) (blocks : List (List (List ℕ))) (count : ℕ) : Type 0 where
  pub turns_within : count ≤ length turns
  pub blocks_within : count ≤ length blocks
  pub written : IsWritten style b callers st (take count turns) (take count blocks)
  pub no_more : count < length turns → count < length blocks → IsWritten style b callers st (take (suc count) turns) (take (suc count) blocks) → ⊥

-- the same of a log and of the turns of a run over a site
pub record AgreeBy (style : Style) (callers : ℕ) (s : PlainSite) (turns : List Turn) (log : List ℕ) (count : ℕ) : Type 0 where
  pub zone : Option Tzif
  pub is_zone : IsZoneOf s.zone zone
  pub is : AgreeUpTo style (basis_of_site s zone) callers (start s (no_entries s)) (map (turn_read s) turns) (blocks_of (lines_of log)) count

-- With one caller it is a function: how many of these blocks a run over these turns writes, from the first one on.
abbrev pub agreeing : Style → Basis → Stage → List ReadTurn → List (List (List ℕ)) → ℕ
agreeing style b st [] blocks = 0
agreeing style b st (t ∷ ts) [] = 0
agreeing style b st (t ∷ ts) (x ∷ xs) =
    if is_block style b.rules.site (turn_alone b st t) x then suc (agreeing style b (stage_after b st t (turn_alone b st t)) ts xs) else 0
