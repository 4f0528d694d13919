-- What is read is not refused.
use Rattle.time_range.proofs.FileLemmas.{not_bad}
use Rattle.time_range.proofs.zone.Zone.of_file.Goals as goal

pub returns-in-Ok-clause-refused : goal.returns-in-Ok-clause-refused
returns-in-Ok-clause-refused c = λ bad. absurd (not_bad c.args.bytes.now c.in-Ok.table c.in-Ok.ensures.value c.in-Ok.ensures.agrees bad)
