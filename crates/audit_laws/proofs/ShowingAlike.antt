-- Runs that a version of the log shows alike, and what they write.
use Rattle.std.proofs.Common.{◌≡◌, ℕ, List, ◌∷◌, ◌++◌, map, sym, ap, ap₂, ◌∙◌}
use Rattle.std.specs.List.{flat_map}
use Rattle.site_model.specs.PlainSite.{PlainSite}
use Rattle.run_meaning.specs.Dealing.{Refusal}
use Rattle.run_meaning.specs.Runs.{Stage, TurnLog}
use Rattle.run_meaning.specs.Turns.{Ordered}
use Rattle.log_text.specs.LogLines.{turn_line}
use Rattle.run_text.specs.LogText.{ordered_line, refusal_line, round_lines, turn_lines}
use Rattle.run_text.specs.declared.style.Style.{Style}
use Rattle.audit_laws.proofs.ByVersion.{round_lines_shown, shown_histories}

-- two runs that a version of the log shows alike
pub record ShowsAlike (style : Style) (st other : Stage) : Type 0 where
  pub turns : other.turns ≡ st.turns
  pub moment : other.moment ≡ st.moment
  pub histories : shown_histories style other.histories ≡ shown_histories style st.histories
  pub plans : other.plans ≡ st.plans
  pub due : other.due ≡ st.due

pub record WritesAlike (style : Style) (l m : TurnLog) : Type 0 where
  pub number : m.number ≡ l.number
  pub moment : m.moment ≡ l.moment
  pub refusals : m.refusals ≡ l.refusals
  pub round : shown_histories style m.round ≡ shown_histories style l.round
  pub orders : m.orders ≡ l.orders

abbrev lines_by : Style → PlainSite → ℕ → ℕ → List Refusal → List (List (List ℕ)) → List Ordered → List (List ℕ)
lines_by style s number moment refusals round orders = turn_line number moment ∷ ((map refusal_line refusals ++ flat_map (λ lines. lines) round) ++ map (ordered_line style s) orders)

pub same_lines : (style : Style) (s : PlainSite) (l m : TurnLog) → WritesAlike style l m → turn_lines style s m ≡ turn_lines style s l
same_lines style s l m h =
    ap₂ (λ n x. lines_by style s n x m.refusals (round_lines style s 0 m.round) m.orders) h.number h.moment
    ∙ (ap₂ (λ rs xs. lines_by style s l.number l.moment rs xs m.orders) h.refusals
    (sym (round_lines_shown style s m.round) ∙ (ap (round_lines style s 0) h.round ∙ round_lines_shown style s l.round))
    ∙ ap (lines_by style s l.number l.moment l.refusals (round_lines style s 0 l.round)) h.orders)
