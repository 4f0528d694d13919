-- Replies as what a run writes.
use Rattle.std.specs.Prelude.{ℕ, Bool, true, false, List}
use Rattle.std.specs.List.{concat}
use Rattle.site_replies.specs.Replies.{PlainReply}
use Rattle.site_run.specs.Logs.{Output}
use Rattle.site_run.specs.declared.status.Status.{Status}
use Rattle.site_run.specs.declared.status.Status.TheVariants.{Done, Diagnosed}

abbrev pub ends_by : Bool → Status
ends_by true = Diagnosed
ends_by false = Done

-- the run that writes a reply
abbrev pub replied : PlainReply → Output
replied r = record { text = concat r.lines; ends = ends_by r.diagnosed }

-- named files with their bytes, as they are told
abbrev pub Files : Type 0
Files = List (List ℕ × List ℕ)
