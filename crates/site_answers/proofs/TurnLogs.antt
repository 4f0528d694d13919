-- Logs of turns that are told.
use Rattle.std.proofs.Common.{◌≡◌, ℕ, List, Bool, Option, Some, subst}
use Rattle.site_model.specs.PlainSite.{PlainSite}
use Rattle.site_run.specs.Logs.{IsLog, Output}
use Rattle.whole_runs.specs.Logs.{AnswersTurns, IsSiteLog}
use Rattle.run_meaning.specs.Turns.{Histories}
use Rattle.run_text.specs.declared.style.Style.{Style}
use Rattle.site_edge.specs.declared.turn.Turn.{Turn}
use Rattle.site_answers.specs.SiteAnswers.{most_turns}

-- a world of told turns gives their log
pub log_as : (callers : ℕ) (style : Style) (recur : Bool) (s : PlainSite) (histories : Histories) (turns : List Turn) (w : Output) → AnswersTurns callers style recur most_turns (Some turns) s histories w → IsSiteLog callers style recur most_turns s histories turns w
log_as callers style recur s histories turns w a = (a.0, a.1, subst (λ ts. IsLog callers style most_turns s a.0 ts w) a.2.told a.2.log)

pub script_log : (callers : ℕ) (style : Style) (recur : Bool) (s : PlainSite) (histories : Histories) (turns : List Turn) (told : Option (List Turn)) (w : Output) → told ≡ Some turns → AnswersTurns callers style recur most_turns told s histories w → IsSiteLog callers style recur most_turns s histories turns w
script_log callers style recur s histories turns told w e a = log_as callers style recur s histories turns w (subst (λ t. AnswersTurns callers style recur most_turns t s histories w) e a)
