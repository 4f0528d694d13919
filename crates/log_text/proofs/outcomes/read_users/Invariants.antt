use Rattle.std.proofs.Common.{◌≡◌, ◌-◌, length}
use Rattle.log_text.specs.EntryReading.{users_within}
use Rattle.log_text.specs.Fronts.{◌>>=◌, with_front}
use Rattle.log_text.proofs.outcomes.read_users.Given as goal

-- what was read, and what the rest gives, is all
abbrev pub invariant-loop : goal.invariant-loop
invariant-loop l = (users_within (length l.bytes - l.counter) l.names l.rest >>= with_front l.users) ≡ users_within (length l.bytes) l.names l.bytes
