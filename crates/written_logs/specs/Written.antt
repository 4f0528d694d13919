-- Logs that the program writes.
use Rattle.std.specs.Prelude.{◌≡◌, ◌≢◌, ◌<◌, ◌^◌, ℕ, List, length}
use Rattle.site_model.specs.PlainSite.{PlainSite}
use Rattle.site_phases.specs.Phases.{IsReady}
use Rattle.site_audit.specs.Audit.{IsVerdict}
use Rattle.site_audit.specs.declared.auditing.Verdict.{Verdict}
use Rattle.site_audit.specs.declared.auditing.Verdict.TheVariants as verdict
use Rattle.audit_laws.specs.LegalLogs.{HasTexts}
use Rattle.run_replies.specs.Runs.{Files}
use Rattle.site_program.specs.TaskAnswers.{IsSiteOf}
use Rattle.site_run.specs.Logs.{Output}
use Rattle.site_run.specs.declared.status.Status.TheVariants as status

-- the site that the files of a root make: a run may begin with it, and what is printed of it is UTF-8
pub record IsSiteInMemory (all : Files) (root : List ℕ) (s : PlainSite) : Type 0 where
  pub is : IsSiteOf all root s
  pub ready : IsReady s
  pub texts : HasTexts s

-- bytes are fewer than 2^64
abbrev pub AreFew : List ℕ → Type 0
AreFew bytes = length bytes < 2 ^ 64

-- what was written is a log and no diagnostic, and its bytes are few
pub record IsWholeLog (w : Output) : Type 0 where
  pub ends : w.ends ≢ status.Diagnosed
  pub few : AreFew w.text

-- an audit says that it is legal, and nothing else
pub record IsSaidLegal (callers : ℕ) (s : PlainSite) (w : Output) : Type 0 where
  pub said : IsVerdict callers s w.text verdict.Legal
  pub only : (v : Verdict) → IsVerdict callers s w.text v → v ≡ verdict.Legal
