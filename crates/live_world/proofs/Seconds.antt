-- A second between two turns.
use Rattle.std.proofs.Common.{◌+◌, ◌≤◌, Option, Some, None}
use Rattle.std.specs.Prelude.{unwrap_or}
use Rattle.std.specs.Time.{instant_nanos}
use Rattle.std.specs.declared.time.Instant.{Instant}
use Rattle.live_world.specs.Turns.{IsSecondLater}

-- it has passed since the last turn, or there was none and something else stood for it
pub second_later : (last : Option Instant) (asked this : Instant) → instant_nanos (unwrap_or last asked) + 1000000000 ≤ instant_nanos this → IsSecondLater last (Some this)
second_later None asked this h = tt
second_later (Some l) asked this h = h
