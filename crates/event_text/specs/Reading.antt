-- What a command line tells, read from its front.
use Rattle.std.specs.Prelude.{ℕ, ◌≡◌, ◌-◌, ◌==◌, List, [], ◌∷◌, drop, Option, Some, None, Result, Ok, Err, if◌then◌else◌}
use Rattle.std.specs.List.{slice_get}
use Rattle.std.specs.Str.{is_utf8}
use Rattle.site_model.specs.PlainSite.{PlainSite, PlainCheck}
use Rattle.site_model.specs.declared.event.Event.{Event}
use Rattle.event_text.specs.Checkables.{host_named, service_named}
use Rattle.event_text.specs.Commands.{command_named}
use Rattle.event_text.specs.Cuts.{Cut, cut, uncut, cut_at}
use Rattle.event_text.specs.Fields.{fields_in, field, service_in, semicolon}
use Rattle.event_text.specs.Kinds.{kind_of, limits_of, names_of, count_of, ends_in_text, event_of, has_span, is_open_to}
use Rattle.event_text.specs.Lines.{Answer, told, faulty, bracket}
use Rattle.event_text.specs.Numbers.{is_number, numbers_in}
use Rattle.event_text.specs.declared.command.Command.{Command}
use Rattle.event_text.specs.declared.kind.Kind.{Kind}
use Rattle.event_text.specs.declared.line_error.LineError.{LineError}
use Rattle.event_text.specs.declared.line_error.LineError.TheVariants as error
use Rattle.event_text.specs.declared.line_fault.LineFault.TheVariants as fault

-- the place of a host, or of a service of it
abbrev pub looked_up : PlainSite → List ℕ → Option (List ℕ) → Option ℕ
looked_up s host None = host_named s host
looked_up s host (Some service) = service_named s host service

-- with these numbers, of the checkable at this place
abbrev pub judged_read : PlainSite → Kind → ℕ → List ℕ → List ℕ → Answer
judged_read s k place ns last =
    if has_span k ns then (if is_open_to k (slice_get s.checkables place) then told place (event_of k ns last) else faulty fault.PassiveOff)
    else faulty fault.BadSpan

abbrev pub numbers_read : PlainSite → Kind → ℕ → List ℕ → Option (List ℕ) → Answer
numbers_read s k place last None = faulty fault.BadNumber
numbers_read s k place last (Some ns) = judged_read s k place ns last

-- of the checkable at a place, if there is one
abbrev pub place_read : PlainSite → Command → List (List ℕ) → Option ℕ → Answer
place_read s c fs None = faulty fault.UnknownCheckable
place_read s c fs (Some place) =
    numbers_read s (kind_of c) place (field fs (count_of c - 1)) (numbers_in (limits_of (kind_of c)) (drop (names_of c) fs))

abbrev pub fields_read : PlainSite → Command → Option (List (List ℕ)) → Answer
fields_read s c None = faulty fault.FieldCount
fields_read s c (Some fs) = place_read s c fs (looked_up s (field fs 0) (service_in c fs))

-- a command with its fields
abbrev pub command_with : PlainSite → Option Command → List ℕ → Answer
command_with s None text = faulty fault.UnknownCommand
command_with s (Some c) text = fields_read s c (fields_in (ends_in_text c) (count_of c) text)

abbrev pub named_read : PlainSite → List ℕ → List ℕ → Answer
named_read s name text = command_with s (command_named name) text

-- a command without fields
abbrev pub command_alone : Option Command → Answer
command_alone None = faulty fault.UnknownCommand
command_alone (Some c) = faulty fault.FieldCount

abbrev pub bare_read : List ℕ → Answer
bare_read name = command_alone (command_named name)

abbrev pub cut_read : PlainSite → List ℕ → Cut → Answer
cut_read s command uncut = bare_read command
cut_read s command (cut name text) = named_read s name text

unfoldable pub command_read : PlainSite → List ℕ → Answer
command_read s command = cut_read s command (cut_at semicolon command)

abbrev pub head_read : PlainSite → Cut → Answer
head_read s uncut = faulty fault.NoBracket
head_read s (cut moment command) = if is_number 11 moment then command_read s command else faulty fault.BadMoment

unfoldable pub text_read : PlainSite → List ℕ → Answer
text_read s [] = faulty fault.NoBracket
text_read s (b ∷ bs) = if b == 91 then head_read s (cut_at bracket bs) else faulty fault.NoBracket

-- what a line tells
unfoldable pub line_read : PlainSite → List ℕ → Answer
line_read s line = if is_utf8 line then text_read s line else faulty fault.NotText

-- a call gave this answer, unless memory ran out
abbrev pub Gives : Result (ℕ × Event) LineError → Answer → Type 0
Gives (Ok x) a = a ≡ told x.0 x.1
Gives (Err (error.Fault f)) a = a ≡ faulty f
Gives (Err error.OutOfMemory) a = Unit {0}

-- what holds of the answer that a call gave, unless memory ran out
abbrev pub Tells : (Answer → Type 0) → Result (ℕ × Event) LineError → Type 0
Tells P (Ok x) = P (told x.0 x.1)
Tells P (Err (error.Fault f)) = P (faulty f)
Tells P (Err error.OutOfMemory) = Unit {0}

-- this error, as an answer
abbrev pub IsError : LineError → Answer → Type 0
IsError (error.Fault f) a = a ≡ faulty f
IsError error.OutOfMemory a = Unit {0}
