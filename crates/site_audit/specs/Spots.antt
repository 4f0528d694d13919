-- Where the entries of a block stand on tracks.
use Rattle.std.specs.Prelude.{ℕ, ◌+◌, ◌*◌, ◌^◌, List, ◌∷◌, map}
use Rattle.site_model.specs.declared.sight.Sight.{Sight}
use Rattle.site_audit.specs.declared.block.EntryLine.{EntryLine}
use Rattle.site_audit.specs.declared.telling.Said.{Said}
use Rattle.site_audit.specs.declared.telling.Said.TheVariants as said
use Rattle.site_audit.specs.declared.tracks.Spot.{Spot}

-- Among the events of a caller come lines, then reports of orders for which a macro is missing, by number, then other reports, and then ticks, by
-- checkable. All callers stand on the first track, one after another.
abbrev pub kind_of : ℕ → Said → ℕ
kind_of checkable (said.Line l) = 0
kind_of checkable (said.Lacking order) = 1 + order
kind_of checkable (said.Report r) = 2 ^ 64 + 1
kind_of checkable said.Tick = 2 ^ 64 + 2 + checkable

abbrev pub kind_spot : ℕ → EntryLine → Said → Spot
kind_spot k x s = record { at = x.entry.caller * 2 ^ 66 + kind_of x.checkable s; thing = k }

-- The others are those of a checkable for a caller. Its entry of number n stands there at 2 n, and one that has seen n entries of it at
-- 2 n + 1: after them, and before the next one.
abbrev pub track_at : ℕ → ℕ → ℕ
track_at caller checkable = (1 + caller * 2 ^ 32 + checkable) * 2 ^ 80

abbrev pub own_spot : ℕ → EntryLine → Spot
own_spot k x = record { at = track_at x.entry.caller x.checkable + x.entry.number * 2; thing = k }

abbrev pub sight_spot : ℕ → ℕ → Sight → Spot
sight_spot k caller s = record { at = track_at caller s.checkable + s.count * 2 + 1; thing = k }

abbrev pub spots_of : ℕ → EntryLine → Said → List Spot
spots_of k x s = kind_spot k x s ∷ own_spot k x ∷ map (sight_spot k x.entry.caller) x.entry.sights
