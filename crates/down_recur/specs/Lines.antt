-- The command lines of downtimes.
use Rattle.std.specs.Prelude.{ℕ, ◌++◌, List, codes, Bool, Option, Some, None, if◌then◌else◌}
use Rattle.std.specs.Fmt.{decimal}
use Rattle.event_text.specs.Commands.{command_name}
use Rattle.event_text.specs.declared.command.Command.TheVariants as command
use Rattle.down_recur.specs.declared.booking.Booking.{Booking}
use Rattle.down_recur.specs.declared.recurring.Recurring.{Recurring}

-- each field but the last ends at a semicolon
abbrev pub field_text : List ℕ → List ℕ
field_text text = text ++ codes ";"

-- the name of the command, and of the host, or of a service of it
abbrev pub names_text : List ℕ → Option (List ℕ) → List ℕ
names_text host None = field_text (command_name command.HostDowntime) ++ field_text host
names_text host (Some service) = field_text (command_name command.ServiceDowntime) ++ field_text host ++ field_text service

abbrev pub fixed_text : Bool → List ℕ
fixed_text fixed = if fixed then codes "1" else codes "0"

-- start, end, whether it is fixed, 0 since no downtime triggers it, and the duration
abbrev pub numbers_text : Booking → List ℕ
numbers_text b =
    field_text (decimal b.start) ++ field_text (decimal b.«end») ++ field_text (fixed_text b.fixed) ++ field_text (codes "0")
    ++ field_text (decimal b.duration)

-- a command line at a moment, with author and comment
abbrev pub line_text : ℕ → Recurring → Booking → List ℕ
line_text moment r b =
    codes "[" ++ decimal moment ++ codes "] " ++ names_text r.host r.service ++ numbers_text b ++ field_text r.author ++ r.comment
