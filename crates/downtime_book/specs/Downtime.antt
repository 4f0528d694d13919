-- When a downtime is in effect, how long it is live, and what a result makes of it.
use Rattle.std.specs.Prelude.{ℕ, ◌+◌, Bool, true, false, ◌&&◌, nat_lt, nat_le, Some, None, if◌then◌else◌}
use Rattle.downtime_book.specs.declared.downtime.Downtime.{Downtime}
use Rattle.downtime_book.specs.declared.kind.Kind.{Kind}
use Rattle.downtime_book.specs.declared.kind.Kind.TheVariants.{Fixed, Flexible}

-- a fixed one is in effect from its start up to but not at its end, a flexible one from its trigger on for its duration
abbrev pub kind_is_in_effect : Kind → ℕ → ℕ → ℕ → Bool
kind_is_in_effect Fixed start finish moment = nat_le start moment && nat_lt moment finish
kind_is_in_effect (Flexible duration (Some trigger)) start finish moment = nat_le trigger moment && nat_lt moment (trigger + duration)
kind_is_in_effect (Flexible duration None) start finish moment = false

-- the same of a downtime
abbrev pub is_in_effect : ℕ → Downtime → Bool
is_in_effect moment d = kind_is_in_effect d.kind d.start d.«end» moment

-- a triggered one is past once its duration is over, any other at its end
abbrev pub kind_until : Kind → ℕ → ℕ
kind_until Fixed finish = finish
kind_until (Flexible duration (Some trigger)) finish = trigger + duration
kind_until (Flexible duration None) finish = finish

-- the first second at which a downtime is past
abbrev pub until : Downtime → ℕ
until d = kind_until d.kind d.«end»

-- it isn't past
abbrev pub is_live : ℕ → Downtime → Bool
is_live moment d = nat_lt moment (until d)

-- a flexible one without a trigger waits for a problem
abbrev pub kind_is_waiting : Kind → Bool
kind_is_waiting Fixed = false
kind_is_waiting (Flexible duration (Some trigger)) = false
kind_is_waiting (Flexible duration None) = true

-- it waits for a problem, and the moment is in its span
abbrev pub is_triggered_by : ℕ → Downtime → Bool
is_triggered_by moment d = kind_is_waiting d.kind && nat_le d.start moment && nat_lt moment d.«end»

-- the same kind, triggered at the moment
abbrev pub triggered_at : ℕ → Kind → Kind
triggered_at moment Fixed = Fixed
triggered_at moment (Flexible duration trigger) = Flexible duration (Some moment)

-- what a result at this moment makes of it
abbrev pub after_result : ℕ → Bool → Downtime → Downtime
after_result moment problem d =
    if problem && is_triggered_by moment d then record d { kind = triggered_at moment d.kind } else d
