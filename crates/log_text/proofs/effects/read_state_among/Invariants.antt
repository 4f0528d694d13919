use Rattle.std.proofs.Common.{◌≡◌, drop}
use Rattle.site_text.specs.Entries.{state_text}
use Rattle.log_text.specs.Fronts.{spelled_at}
use Rattle.log_text.proofs.effects.read_state_among.Given as goal

abbrev pub invariant-loop-state : goal.invariant-loop-state
invariant-loop-state l = spelled_at state_text (drop l.state-index l.states) l.bytes ≡ spelled_at state_text l.states l.bytes
