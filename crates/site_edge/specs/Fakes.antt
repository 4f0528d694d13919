-- The calls of a fake, of which some fail.
use Rattle.std.specs.Prelude.{ℕ, ◌≡◌, ◌<◌, ◌+◌, ◌-◌, ◌^◌, ◌↔◌, List, Contains, min}
use Rattle.site_edge.specs.declared.mem_failures.Failures.{Failures}
use Rattle.site_edge.specs.declared.mem_files.MemFiles.{MemFiles}
use Rattle.site_edge.specs.declared.mem_sink.MemSink.{MemSink}
use Rattle.site_edge.specs.declared.mem_world.MemWorld.{MemWorld}

-- no call was made, and these are to fail
abbrev pub fresh : List ℕ → Failures
fresh listed = record { calls = 0; listed = listed }

-- one call more; the count stands still at the greatest number
abbrev pub counted : Failures → Failures
counted f = record { calls = min (f.calls + 1) (2 ^ 64 - 1); listed = f.listed }

-- the call was counted, and it failed exactly where its number is listed
abbrev pub FailsAsListed : Failures → Failures → Type 0 → Type 0
FailsAsListed old new failed = (new ≡ counted old) × (failed ↔ Contains new.listed new.calls)

-- no later call fails
pub record IsCalm (f : Failures) : Type 0 where
  -- each call that is to fail comes before the next one
  pub past : (n : ℕ) → Contains f.listed n → n < (counted f).calls

abbrev pub files_failures : MemFiles → Failures
files_failures f = f.failures

abbrev pub world_failures : MemWorld → Failures
world_failures w = w.failures

abbrev pub sink_failures : MemSink → Failures
sink_failures s = s.failures
