-- What an audit says of the log of a run: that it is legal, and nothing else.
use Rattle.std.proofs.Common.{◌≡◌, ◌==◌, ◌||◌, ◌≤◌, ℕ, arith, Bool, true, false, List, [], ◌∷◌, length, map, take, refl, sym, ap, subst, Option, Some, None}
use Rattle.std.specs.List.{concat, flat_map}
use Rattle.jiff_tz.specs.declared.tzif.Tzif.{Tzif}
use Rattle.site_edge.specs.declared.turn.Turn.{Turn}
use Rattle.site_model.specs.PlainSite.{PlainSite}
use Rattle.log_text.specs.Fronts.{behind}
use Rattle.log_text.specs.LogLines.{log_two}
use Rattle.run_meaning.specs.Meaning.{basis_of}
use Rattle.run_meaning.specs.Runs.{IsRun, TurnLog, no_entries, start}
use Rattle.run_text.specs.LogText.{log_text, turn_lines}
use Rattle.run_text.specs.TurnReading.{nothing_fed, turn_read}
use Rattle.run_text.proofs.ReadLaws.{turns_are}
use Rattle.run_text.specs.declared.style.Style.{Style}
use Rattle.run_text.specs.declared.style.Style.TheVariants.{One, Two}
use Rattle.turn_engine.specs.Orders.{command_of}
use Rattle.turn_engine.specs.Ready.{IsZoneOf}
use Rattle.turn_engine.specs.Stages.{basis_of_site}
use Rattle.site_run.specs.Logs.{Output}
use Rattle.site_run.proofs.Zones.{same_holds}
use Rattle.site_audit.specs.Audit.{is_cut_off, IsLegal, IsVerdict, IsVerdictBy, IsVerdictOf, IsVerdictTwo}
use Rattle.site_audit.specs.Blocks.{begins_turn}
use Rattle.site_audit.specs.declared.auditing.Verdict.{Verdict}
use Rattle.site_audit.specs.declared.auditing.Verdict.TheVariants as verdict
use Rattle.audit_laws.specs.LegalLogs.{blocks_written, CanBeRun, IsLogInMemory, IsRunInMemory}
use Rattle.audit_laws.proofs.FittingRuns.{logs_fit}
use Rattle.audit_laws.proofs.LegalCallers.{run_is_legal_by}
use Rattle.audit_laws.proofs.LegalUntold.{run_is_legal_untold}

-- the text of turns, without the line of a version
abbrev text_of : Style → PlainSite → List TurnLog → List ℕ
text_of style s logs = concat (flat_map (turn_lines style s) logs)

no_version : (s : PlainSite) (logs : List TurnLog) → behind log_two (text_of One s logs) ≡ None
no_version s [] = refl
no_version s (l ∷ logs) = refl

version : (s : PlainSite) (logs : List TurnLog) → behind log_two (log_text Two s logs) ≡ Some (text_of Two s logs)
version s logs = refl

or_true : (a b : Bool) → b ≡ true → (a || b) ≡ true
or_true true b e = refl
or_true false b e = e

cut_off : (s : PlainSite) (logs : List TurnLog) → is_cut_off (text_of Two s logs) ≡ true
cut_off s [] = refl
cut_off s (l ∷ logs) = or_true (length (text_of Two s (l ∷ logs)) == 0) (begins_turn (text_of Two s (l ∷ logs))) refl

-- it is a verdict on the text of the turns
to_text : (style : Style) (callers : ℕ) (s : PlainSite) (logs : List TurnLog) (v : Verdict) → ((first : ℕ) → IsVerdictOf style callers s first (text_of style s logs) v) → IsVerdict callers s (log_text style s logs) v
to_text One callers s logs v h = subst (λ o. IsVerdictBy callers s (text_of One s logs) o v) (sym (no_version s logs)) (h 1)
to_text Two callers s logs v h =
    subst (λ o. IsVerdictBy callers s (log_text Two s logs) o v) (sym (version s logs)) (subst (λ t. IsVerdictTwo t callers s (text_of Two s logs) v) (sym (cut_off s logs)) (h 2))

of_text : (style : Style) (callers : ℕ) (s : PlainSite) (logs : List TurnLog) (v : Verdict) → IsVerdict callers s (log_text style s logs) v → (first : ℕ) × IsVerdictOf style callers s first (text_of style s logs) v
of_text One callers s logs v h = (1, subst (λ o. IsVerdictBy callers s (text_of One s logs) o v) (no_version s logs) h)
of_text Two callers s logs v h = (2, subst (λ t. IsVerdictTwo t callers s (text_of Two s logs) v) (cut_off s logs) (subst (λ o. IsVerdictBy callers s (log_text Two s logs) o v) (version s logs) h))

same_basis : (s : PlainSite) (a b : Option Tzif) → IsZoneOf s.zone a → IsZoneOf s.zone b → basis_of_site s a ≡ basis_of_site s b
same_basis s a b p q = ap (λ holds. basis_of s holds (command_of s) nothing_fed) (same_holds s.zone a b p q s)

-- ---- what is said of a log that is legal

module _ (callers : ℕ) (style : Style) (s : PlainSite) (zone : Option Tzif) (is_zone : IsZoneOf s.zone zone) (logs : List TurnLog) (legal : IsLegal style (basis_of_site s zone) callers s (blocks_written style s logs)) where
  is_said : IsVerdict callers s (log_text style s logs) verdict.Legal
  is_said = to_text style callers s logs verdict.Legal (λ first. record { zone = zone; is_zone = is_zone; says = legal })

  only_of : (first : ℕ) (v : Verdict) → IsVerdictOf style callers s first (text_of style s logs) v → v ≡ verdict.Legal
  only_of first verdict.Legal g = refl
  only_of first (verdict.Illegal line) g = absurd (g.says.whole (subst (λ b. IsLegal style b callers s (blocks_written style s logs)) (same_basis s zone g.zone is_zone g.is_zone) legal))

  is_only : (v : Verdict) → IsVerdict callers s (log_text style s logs) v → v ≡ verdict.Legal
  is_only v g = let (first, is) = of_text style callers s logs v g in only_of first v is

-- ---- the log of a run

pub run_is_legal : (style : Style) (s : PlainSite) (zone : Option Tzif) (callers : ℕ) → CanBeRun s → 1 ≤ callers → callers ≤ 64 → (turns : List Turn) (logs : List TurnLog) → IsRunInMemory callers s zone turns logs → IsLegal style (basis_of_site s zone) callers s (blocks_written style s logs)
run_is_legal One s zone callers can some most turns logs run = run_is_legal_untold s zone can callers some most turns logs run.run.turns run.fits
run_is_legal Two s zone callers can some most turns logs run = run_is_legal_by s zone can callers some most turns logs run.run.turns run.fits

module _ (style : Style) (limit : ℕ) (s : PlainSite) (callers : ℕ) (can : CanBeRun s) (some : 1 ≤ callers) (most : callers ≤ 64) (turns : List Turn) (w : Output) (h : IsLogInMemory callers style limit s turns w) where
  abbrev zone : Option Tzif
  zone = h.log.are.zone

  abbrev logs : List TurnLog
  logs = h.log.logs

  run_is : IsRun (basis_of_site s zone) callers (start s (no_entries s)) (map (turn_read s) (take limit turns)) logs
  run_is = subst (λ rs. IsRun (basis_of_site s zone) callers (start s (no_entries s)) rs logs) (turns_are s (take limit turns) h.log.are.reads can.sound.names h.log.are.read) h.log.are.run

  legal : IsLegal style (basis_of_site s zone) callers s (blocks_written style s logs)
  legal =
      run_is_legal style s zone callers can some most (take limit turns) logs
      (record { run = run_is; fits = logs_fit s zone callers some (omega (arith, most)) can (take limit turns) logs run_is.turns h.turns_fit h.few_turns h.few_entries })

  pub said_legal : IsVerdict callers s w.text verdict.Legal
  said_legal = subst (λ t. IsVerdict callers s t verdict.Legal) (sym h.log.text) (is_said callers style s zone h.log.are.is_zone logs legal)

  pub only_legal : (v : Verdict) → IsVerdict callers s w.text v → v ≡ verdict.Legal
  only_legal v g = is_only callers style s zone h.log.are.is_zone logs legal v (subst (λ t. IsVerdict callers s t v) h.log.text g)
