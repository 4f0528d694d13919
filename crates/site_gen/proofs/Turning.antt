-- The turns of the run, one after another.
use Rattle.std.proofs.Common.{◌≡◌, ◌≤◌, ◌+◌, ◌-◌, ℕ, suc, List, [], ◌∷◌, ◌++◌, map, Option, refl, ap, ◌∙◌, arith}
use Rattle.std.proofs.lemmas.List.{map-append}
use Rattle.jiff_tz.specs.declared.tzif.Tzif.{Tzif}
use Rattle.run_meaning.specs.Alone.{run_alone, turn_alone}
use Rattle.run_meaning.specs.Runs.{Stage, TurnLog, no_entries, stage_after, stage_by, start}
use Rattle.run_meaning.specs.Turns.{ReadTurn, from_on}
use Rattle.run_meaning.proofs.Cutting.{alone_joined, alone_stage}
use Rattle.run_text.specs.TurnReading.{turn_read}
use Rattle.site_edge.specs.declared.turn.Turn.{Turn}
use Rattle.site_model.specs.PlainSite.{PlainSite}
use Rattle.turn_engine.specs.Stages.{basis_of_site}
use Rattle.site_gen.specs.Going.{logs_before, stage_before, turns_before}
use Rattle.site_gen.specs.Turns.{all_turns, turn_of}
use Rattle.site_gen.proofs.Texts.{from_longer}

before_first : (n : ℕ) → turns_before n 1 ≡ []
unfolding turns_before
before_first n = refl

one_more_turn : (n k : ℕ) → 1 ≤ k → turns_before n (k + 1) ≡ turns_before n k ++ turn_of n k ∷ []
unfolding turns_before
one_more_turn n k some =
    let longer : (k + 1) - 1 ≡ suc (k - 1) = omega (arith, some) in
    let last : 1 + (k - 1) ≡ k = omega (arith, some) in
    ap (λ m. map (turn_of n) (from_on 1 m)) longer
    ∙ ap (map (turn_of n)) (from_longer 1 (k - 1) ∙ ap (λ m. from_on 1 (k - 1) ++ m ∷ []) last)
    ∙ map-append (turn_of n) (from_on 1 (k - 1)) (k ∷ [])

before_last : (n : ℕ) → turns_before n 7 ≡ all_turns n
unfolding turns_before all_turns
before_last n = let six : 7 - 1 ≡ 6 = omega arith in ap (λ m. map (turn_of n) (from_on 1 m)) six

-- the log of a turn, and the stage behind it
abbrev pub log_at : PlainSite → Option Tzif → Stage → Turn → TurnLog
log_at s zone st t = turn_alone (basis_of_site s zone) st (turn_read s t)

abbrev pub stage_at : PlainSite → Option Tzif → Stage → Turn → Stage
stage_at s zone st t = stage_after (basis_of_site s zone) st (turn_read s t) (log_at s zone st t)

module _ (n : ℕ) (s : PlainSite) (zone : Option Tzif) where
  abbrev logs_over : List ReadTurn → List TurnLog
  logs_over ts = run_alone (basis_of_site s zone) (start s (no_entries s)) ts

  abbrev stage_over : List ReadTurn → Stage
  stage_over ts = stage_by (basis_of_site s zone) (start s (no_entries s)) ts (logs_over ts)

  reads_more : (k : ℕ) → 1 ≤ k → map (turn_read s) (turns_before n (k + 1)) ≡ map (turn_read s) (turns_before n k) ++ turn_read s (turn_of n k) ∷ []
  reads_more k some = ap (map (turn_read s)) (one_more_turn n k some) ∙ map-append (turn_read s) (turns_before n k) (turn_of n k ∷ [])

  pub logs_first : logs_before n s zone 1 ≡ []
  unfolding logs_before
  logs_first = ap (λ ts. logs_over (map (turn_read s) ts)) (before_first n)

  pub stage_first : stage_before n s zone 1 ≡ start s (no_entries s)
  unfolding stage_before
  stage_first = ap (λ ts. stage_over (map (turn_read s) ts)) (before_first n)

  pub logs_next : (k : ℕ) → 1 ≤ k → logs_before n s zone (k + 1) ≡ logs_before n s zone k ++ log_at s zone (stage_before n s zone k) (turn_of n k) ∷ []
  unfolding logs_before stage_before
  logs_next k some =
      ap logs_over (reads_more k some) ∙ alone_joined (basis_of_site s zone) (start s (no_entries s)) (map (turn_read s) (turns_before n k)) (turn_read s (turn_of n k) ∷ [])

  pub stage_next : (k : ℕ) → 1 ≤ k → stage_before n s zone (k + 1) ≡ stage_at s zone (stage_before n s zone k) (turn_of n k)
  unfolding stage_before
  stage_next k some =
      ap stage_over (reads_more k some) ∙ alone_stage (basis_of_site s zone) (start s (no_entries s)) (map (turn_read s) (turns_before n k)) (turn_read s (turn_of n k) ∷ [])

  pub logs_last : logs_before n s zone 7 ≡ run_alone (basis_of_site s zone) (start s (no_entries s)) (map (turn_read s) (all_turns n))
  unfolding logs_before
  logs_last = ap (λ ts. logs_over (map (turn_read s) ts)) (before_last n)
