-- A log has one verdict.
use Rattle.std.proofs.Common.{◌≡◌, ◌<◌, ◌+◌, ◌∙◌, inl, inr, ℕ, suc, Bool, true, false, List, Option, Some, None, length, take, refl, sym, ap, subst, arith}
use Rattle.std.proofs.lemmas.Bool.{cases_order}
use Rattle.std.specs.List.{flat_map}
use Rattle.jiff_tz.specs.declared.tzif.Tzif.{Tzif}
use Rattle.log_text.specs.Fronts.{behind}
use Rattle.log_text.specs.LogLines.{log_two}
use Rattle.run_meaning.specs.Meaning.{basis_of}
use Rattle.run_meaning.specs.Runs.{Basis}
use Rattle.run_text.specs.TurnReading.{nothing_fed}
use Rattle.run_text.specs.declared.style.Style.{Style}
use Rattle.run_text.specs.declared.style.Style.TheVariants.{One, Two}
use Rattle.site_audit.specs.Audit.{IsFirstBad, IsVerdict, IsVerdictBy, IsVerdictOf, IsVerdictTwo, Says, is_cut_off}
use Rattle.site_audit.specs.Blocks.{blocks_of, lines_of}
use Rattle.site_audit.specs.declared.auditing.Verdict.{Verdict}
use Rattle.site_audit.specs.declared.auditing.Verdict.TheVariants as verdict
use Rattle.site_model.specs.PlainSite.{PlainSite}
use Rattle.site_run.proofs.Zones.{same_holds}
use Rattle.site_run.specs.Logs.{Output}
use Rattle.turn_engine.specs.Orders.{command_of}
use Rattle.turn_engine.specs.Ready.{IsZoneOf}
use Rattle.turn_engine.specs.Stages.{basis_of_site}
use Rattle.log_audits.specs.Audits.{AnswersAudited, judged}

same_basis : (s : PlainSite) (a b : Option Tzif) → IsZoneOf s.zone a → IsZoneOf s.zone b → basis_of_site s a ≡ basis_of_site s b
same_basis s a b p q = ap (λ holds. basis_of s holds (command_of s) nothing_fed) (same_holds s.zone a b p q s)

module _ (style : Style) (b : Basis) (callers : ℕ) (s : PlainSite) (blocks : List (List (List ℕ))) where
  -- one of two places is not the first
  not_before : (m n : ℕ) → m < n → IsFirstBad style b callers s blocks m → IsFirstBad style b callers s blocks n → ⊥
  not_before m n less p q = p.bad (q.before (suc m) (omega (arith, less)))

  one_place : (m n : ℕ) → IsFirstBad style b callers s blocks m → IsFirstBad style b callers s blocks n → m ≡ n
  one_place m n p q = elim (cases_order m n) [
    | inl same ↦ same
    | inr (inl less) ↦ absurd (not_before m n less p q)
    | inr (inr less) ↦ absurd (not_before n m less q p)
  ]

  one_said : (first : ℕ) (v w : Verdict) → Says style b callers s first blocks v → Says style b callers s first blocks w → v ≡ w
  one_said first verdict.Legal verdict.Legal p q = refl
  one_said first verdict.Legal (verdict.Illegal line) p q = absurd (q.whole p)
  one_said first (verdict.Illegal line) verdict.Legal p q = absurd (p.whole q)
  one_said first (verdict.Illegal k) (verdict.Illegal l) p q =
      ap verdict.Illegal (p.is ∙ ap (λ n. first + length (flat_map (λ x. x) (take n blocks))) (one_place p.count q.count p.is_first q.is_first) ∙ sym q.is)

module _ (callers : ℕ) (s : PlainSite) where
  one_of : (style : Style) (first : ℕ) (log : List ℕ) (v w : Verdict) → IsVerdictOf style callers s first log v → IsVerdictOf style callers s first log w → v ≡ w
  one_of style first log v w p q =
      let blocks = blocks_of (lines_of log) in
      one_said style (basis_of_site s q.zone) callers s blocks first v w (subst (λ b. Says style b callers s first blocks v) (same_basis s p.zone q.zone p.is_zone q.is_zone) p.says) q.says

  one_of_two : (cut_off : Bool) (rest : List ℕ) (v w : Verdict) → IsVerdictTwo cut_off callers s rest v → IsVerdictTwo cut_off callers s rest w → v ≡ w
  one_of_two true rest v w p q = one_of Two 2 rest v w p q
  one_of_two false rest v w p q = p ∙ sym q

  one_by : (log : List ℕ) (rest : Option (List ℕ)) (v w : Verdict) → IsVerdictBy callers s log rest v → IsVerdictBy callers s log rest w → v ≡ w
  one_by log None v w p q = one_of One 1 log v w p q
  one_by log (Some rest) v w p q = one_of_two (is_cut_off rest) rest v w p q

  pub one_verdict : (log : List ℕ) (v w : Verdict) → IsVerdict callers s log v → IsVerdict callers s log w → v ≡ w
  one_verdict log v w p q = one_by log (behind log_two log) v w p q

-- what is written of it is one
pub audited_one : (callers : ℕ) (name : List ℕ) (found : Option (List ℕ)) (s : PlainSite) (v w : Output) → AnswersAudited callers name s found v → AnswersAudited callers name s found w → v ≡ w
audited_one callers name None s v w p q = p ∙ sym q
audited_one callers name (Some log) s v w p q = p.2 ∙ ap judged (one_verdict callers s log p.0 q.0 p.1 q.1) ∙ sym q.2
