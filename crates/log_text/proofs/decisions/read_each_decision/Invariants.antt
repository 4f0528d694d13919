use Rattle.std.proofs.Common.{◌≡◌, ◌-◌, length}
use Rattle.log_text.specs.EntryReading.{decision_at}
use Rattle.log_text.specs.Fronts.{◌>>=◌, parts_within, with_front}
use Rattle.log_text.specs.SiteNames.{names_view}
use Rattle.log_text.proofs.decisions.read_each_decision.Given as goal

-- what was read, and what the rest gives, is all
abbrev pub invariant-loop : goal.invariant-loop
invariant-loop l =
    (parts_within (length l.bytes - l.counter) (decision_at (names_view l.names)) l.rest >>= with_front l.decisions) ≡ parts_within (length l.bytes) (decision_at (names_view l.names)) l.bytes
