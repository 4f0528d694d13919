use Rattle.std.proofs.Common.{◌≡◌, drop}
use Rattle.site_text.specs.Entries.{note_text}
use Rattle.log_text.specs.Fronts.{spelled_at}
use Rattle.log_text.proofs.decisions.read_kind_among.Given as goal

abbrev pub invariant-loop-kind : goal.invariant-loop-kind
invariant-loop-kind l = spelled_at note_text (drop l.kind-index l.kinds) l.bytes ≡ spelled_at note_text l.kinds l.bytes
