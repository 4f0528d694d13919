-- How far a run has come.
use Rattle.std.proofs.Common.{◌≡◌, ◌<◌, ◌≤◌, ◌+◌, ℕ, false, [], map, sym, ap, ◌∙◌, subst, arith}
use Rattle.run_meaning.specs.Runs.{IsRun, Stage, TurnLog, begun_by, no_entries, start}
use Rattle.run_text.proofs.ReadLaws.{turns_are_read}
use Rattle.run_text.specs.TurnReading.{turn_read}
use Rattle.site_edge.specs.declared.turn.Turn.{Turn}
use Rattle.site_model.specs.PlainSite.{PlainSite, site_view}
use Rattle.site_model.specs.Sound.{HasNames}
use Rattle.site_run.specs.Feeds.{no_lines}
use Rattle.site_run.proofs.OnSite.{runs_alone}
use Rattle.turn_engine.specs.Ready.{EngineView, IsZoneOf}
use Rattle.turn_engine.specs.Stages.{basis_of_site, stage_of}
use Rattle.site_gen.specs.Counting.{with_turn}
use Rattle.site_gen.specs.Counts.{AreCounts, counts_of}
use Rattle.site_gen.specs.Going.{IsSoFar, logs_before, stage_before}
use Rattle.site_gen.specs.Turns.{all_turns, turn_of}
use Rattle.site_gen.specs.declared.counts.Counts.{Counts}
use Rattle.site_gen.proofs.Adding.{counts_more}
use Rattle.site_gen.proofs.Turning.{log_at, logs_first, logs_last, logs_next, stage_at, stage_first, stage_next}

abbrev pub nothing_counted : Counts
nothing_counted = record { entries = 0; sent = 0; suppressed = 0; orders = 0 }

pub at_first : (n : ℕ) (s : PlainSite) (e : EngineView) → site_view e.run.site ≡ s → IsZoneOf s.zone e.run.zone → e.spent ≡ false → stage_of e.run [] ≡ start s (no_entries s) → IsSoFar n s 1 e nothing_counted
at_first n s e site zone fresh is =
    let first = stage_first n s e.run.zone in
    record {
      some = omega arith;
      few = omega arith;
      turns = (let t = ap (λ (st : Stage). st.turns) is in omega (arith, t));
      fresh = fresh;
      site = site;
      zone = zone;
      stage = ap (λ (st : Stage). stage_of e.run st.begun) first ∙ is ∙ sym first;
      counts = ap counts_of (sym (logs_first n s e.run.zone));
    }

-- the log of the next turn of an engine, and the stage behind it
abbrev pub next_log : ℕ → PlainSite → ℕ → EngineView → Turn → TurnLog
next_log n s k e t = log_at (site_view e.run.site) e.run.zone (stage_of e.run (stage_before n s e.run.zone k).begun) t

abbrev pub next_stage : ℕ → PlainSite → ℕ → EngineView → Turn → Stage
next_stage n s k e t = stage_at (site_view e.run.site) e.run.zone (stage_of e.run (stage_before n s e.run.zone k).begun) t

pub at_next : (n : ℕ) (s : PlainSite) (k : ℕ) (old new : EngineView) (c d : Counts) (turn : Turn) → IsSoFar n s k old c → k < 7 → turn ≡ turn_of n k
    → stage_of new.run (begun_by (stage_of old.run (stage_before n s old.run.zone k).begun) new.run.moment) ≡ next_stage n s k old turn
    → new.run.site ≡ old.run.site → new.run.zone ≡ old.run.zone → new.spent ≡ false → d ≡ with_turn c (next_log n s k old turn) → IsSoFar n s (k + 1) new d
at_next n s k old new c d turn so_far more is after site zone fresh counted =
    let z = old.run.zone in
    let some = so_far.some in
    let m = so_far.turns in
    let t = ap (λ (st : Stage). st.turns) after in
    let log : next_log n s k old turn ≡ log_at s z (stage_before n s z k) (turn_of n k) = λ i. log_at (so_far.site i) z (so_far.stage i) (is i) in
    let stage : stage_of new.run (begun_by (stage_of old.run (stage_before n s z k).begun) new.run.moment) ≡ stage_before n s z (k + 1) =
    after ∙ (λ i. stage_at (so_far.site i) z (so_far.stage i) (is i)) ∙ sym (stage_next n s z k some) in
    let counts : d ≡ counts_of (logs_before n s z (k + 1)) =
    counted ∙ (λ i. with_turn (so_far.counts i) (log i)) ∙ counts_more (logs_before n s z k) (log_at s z (stage_before n s z k) (turn_of n k)) ∙ ap counts_of (sym (logs_next n s z k some)) in
    record {
      some = omega (arith, some);
      few = omega (arith, more);
      turns = omega (arith, t, m);
      fresh = fresh;
      site = ap site_view site ∙ so_far.site;
      zone = subst (IsZoneOf s.zone) (sym zone) so_far.zone;
      stage = subst (λ x. stage_of new.run (stage_before n s x (k + 1)).begun ≡ stage_before n s x (k + 1)) (sym zone) (ap (stage_of new.run) (sym (ap (λ (st : Stage). st.begun) stage)) ∙ stage);
      counts = subst (λ x. d ≡ counts_of (logs_before n s x (k + 1))) (sym zone) counts;
    }

pub at_last : (n : ℕ) (s : PlainSite) (k : ℕ) (e : EngineView) (c : Counts) → 7 ≤ k → HasNames s → IsSoFar n s k e c → AreCounts n s c
at_last n s k e c over names so_far =
    let few = so_far.few in
    let seven : k ≡ 7 = omega (arith, few, over) in
    let z = e.run.zone in
    record {
      logs = logs_before n s z 7;
      are = record {
        zone = z;
        is_zone = so_far.zone;
        reads = map (turn_read s) (all_turns n);
        read = turns_are_read s (all_turns n) names;
        run = subst (IsRun (basis_of_site s z) 1 (start s (no_entries s)) (map (turn_read s) (all_turns n))) (sym (logs_last n s z)) (runs_alone s z no_lines (no_entries s) (all_turns n));
      };
      counts = subst (λ x. c ≡ counts_of (logs_before n s z x)) seven so_far.counts;
    }
