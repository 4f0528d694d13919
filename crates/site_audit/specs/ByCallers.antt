-- The turns that a log tells with the rounds of their callers, and whether the next block is that of the next turn.
use Rattle.std.specs.Prelude.{◌≡◌, ℕ, Bool, true, false, List, [], ◌∷◌, map, Some}
use Rattle.log_text.specs.SiteNames.{PlainNames}
use Rattle.round_check.specs.Making.{told_of}
use Rattle.round_check.specs.declared.told.Told.{Told}
use Rattle.run_meaning.specs.Runs.{Basis, IsTurn, Stage, TurnLog, stage_after}
use Rattle.run_meaning.specs.Turns.{ReadTurn}
use Rattle.run_text.specs.declared.style.Style.{Style}
use Rattle.site_edge.specs.declared.turn.Turn.{Turn}
use Rattle.site_audit.specs.Agreeing.{is_block}
use Rattle.site_audit.specs.BlockReading.{block_read}
use Rattle.site_audit.specs.declared.block.Block.{Block}
use Rattle.site_audit.specs.declared.block.EntryLine.{EntryLine}
use Rattle.site_audit.specs.declared.rounds.ToldTurn.{ToldTurn}

-- what the line of an entry tells of it beside its event
abbrev pub told_by : EntryLine → Told
told_by x = told_of x.checkable x.entry

-- the block of these lines tells so of the entries of its round
pub record IsToldIn (style : Style) (names : PlainNames) (lines : List (List ℕ)) (told : List Told) : Type 0 where
  pub block : Block
  pub read : block_read style names lines ≡ Some block
  pub is : told ≡ map told_by block.entries

-- the same of the first blocks, one after another
abbrev pub AreToldIn : Style → PlainNames → List (List Told) → List (List (List ℕ)) → Type 0
AreToldIn style names [] blocks = Unit {0}
AreToldIn style names (t ∷ ts) [] = ⊥
AreToldIn style names (t ∷ ts) (x ∷ xs) = IsToldIn style names x t × AreToldIn style names ts xs

abbrev pub turn_of : ToldTurn → Turn
turn_of t = t.turn

abbrev pub round_of : ToldTurn → List Told
round_of t = t.round.items

-- of the logs of a turn this is the only one with these lines; the run goes on from this stage
pub record IsOnlyOf (style : Style) (b : Basis) (callers : ℕ) (st : Stage) (t : ReadTurn) (lines : List (List ℕ)) (next : Stage) : Type 0 where
  pub log : TurnLog
  pub is : IsTurn b callers st t log
  pub text : is_block style b.rules.site log lines ≡ true
  pub only : (l : TurnLog) → IsTurn b callers st t l → is_block style b.rules.site l lines ≡ true → l ≡ log
  pub after : next ≡ stage_after b st t log

-- it was told whether there is such a log
abbrev pub AgreesSo : Style → Basis → ℕ → Stage → ReadTurn → List (List ℕ) → Stage → Bool → Type 0
AgreesSo style b callers st t lines next true = IsOnlyOf style b callers st t lines next
AgreesSo style b callers st t lines next false = (l : TurnLog) → IsTurn b callers st t l → is_block style b.rules.site l lines ≡ true → ⊥
