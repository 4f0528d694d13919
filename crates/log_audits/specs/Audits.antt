-- What an audit of a log writes.
use Rattle.std.specs.Prelude.{ℕ, ◌≡◌, List, [], ◌∷◌, ◌++◌, Option, Some, None, codes}
use Rattle.std.specs.Fmt.{decimal}
use Rattle.run_replies.specs.Runs.{replied}
use Rattle.site_audit.specs.Audit.{IsVerdict}
use Rattle.site_audit.specs.declared.auditing.Verdict.{Verdict}
use Rattle.site_audit.specs.declared.auditing.Verdict.TheVariants as verdict
use Rattle.site_model.specs.PlainSite.{PlainSite}
use Rattle.site_replies.specs.Replies.{no_file}
use Rattle.site_run.specs.Logs.{Output}
use Rattle.site_run.specs.declared.status.Status.{Status}
use Rattle.site_run.specs.declared.status.Status.TheVariants as status

-- the line that tells a verdict
abbrev pub verdict_line : Verdict → List ℕ
verdict_line verdict.Legal = codes "legal\n"
verdict_line (verdict.Illegal line) = codes "illegal " ++ (decimal line ++ 10 ∷ [])

-- with what a run ends that writes it
abbrev pub ends_by : Verdict → Status
ends_by verdict.Legal = status.Done
ends_by (verdict.Illegal line) = status.NotLegal

-- that run
abbrev pub judged : Verdict → Output
judged v = record { text = verdict_line v; ends = ends_by v }

-- the verdict on the log that the bytes of its file are, as one of so many workers, or that there is none
abbrev pub AnswersAudited : ℕ → List ℕ → PlainSite → Option (List ℕ) → Output → Type 0
AnswersAudited callers name s None w = w ≡ replied (no_file name)
AnswersAudited callers name s (Some log) w = (v : Verdict) × IsVerdict callers s log v × (w ≡ judged v)
