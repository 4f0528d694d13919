-- A line tells no event but one that a command can ask for and that can be printed, on a checkable of the site.
use Rattle.std.proofs.Common.{◌≡◌, ◌≤◌, ◌<◌, ℕ, zero, suc, length, ◌==◌, Bool, true, false, cond, List, [], ◌∷◌, Option, Some, None, min, slice_get, slice_index, drop, ◌-◌, refl, subst, arith}
use Rattle.std.specs.Bool.{OnTrue}
use Rattle.std.specs.Str.{is_utf8}
use Rattle.site_model.specs.Names.{place_of}
use Rattle.site_model.specs.PlainSite.{PlainSite, PlainCheck}
use Rattle.site_model.specs.declared.event.Event.{Event}
use Rattle.run_meaning.specs.Turns.{is_command}
use Rattle.site_text.specs.Entries.{IsInForm}
use Rattle.event_text.specs.Checkables.{full_name, is_host, is_service_of, host_at, service_at, service_below, host_named, service_named}
use Rattle.event_text.specs.Commands.{command_named}
use Rattle.event_text.specs.Cuts.{Cut, cut, uncut, cut_at}
use Rattle.event_text.specs.Fields.{field, fields_in, service_in, semicolon}
use Rattle.event_text.specs.Kinds.{kind_of, limits_of, names_of, count_of, ends_in_text, event_of, has_span, is_open_to, is_one}
use Rattle.event_text.specs.Lines.{Answer, told, faulty, bracket}
use Rattle.event_text.specs.Numbers.{is_number, numbers_in}
use Rattle.event_text.specs.Reading.{line_read, text_read, head_read, command_read, cut_read, command_alone, command_with, fields_read, place_read, numbers_read, looked_up}
use Rattle.event_text.specs.declared.command.Command.{Command}
use Rattle.event_text.specs.declared.command.Command.TheVariants as command

-- what is told can be printed, is told of a checkable of the site, and is what a command can ask for
abbrev pub TellsInForm : PlainSite → Answer → Type 0
TellsInForm s (told k e) = IsInForm e × (k < length s.checkables) × (is_command e ≡ true)
TellsInForm s (faulty f) = Unit {0}

either : (s : PlainSite) (b : Bool) (x y : Answer) → TellsInForm s x → TellsInForm s y → TellsInForm s (cond b x y)
either s true x y p q = p
either s false x y p q = q

-- what is asked for can be printed
kept : (b : Bool) (n : ℕ) → OnTrue b (cond b 0 n ≡ 0)
kept true n = refl
kept false n = tt

few : (n : ℕ) → min n 3 ≤ 3
few n = omega arith

event_in_form : (c : Command) (ns : List ℕ) (last : List ℕ) → IsInForm (event_of (kind_of c) ns last)
event_in_form command.HostResult ns last = few (cond (slice_index ns 0 == 0) 0 2)
event_in_form command.ServiceResult ns last = few (slice_index ns 0)
event_in_form command.HostCheck ns last = tt
event_in_form command.ForcedHostCheck ns last = tt
event_in_form command.ServiceCheck ns last = tt
event_in_form command.ForcedServiceCheck ns last = tt
event_in_form command.AcknowledgeHost ns last = tt
event_in_form command.AcknowledgeService ns last = tt
event_in_form command.UnacknowledgeHost ns last = tt
event_in_form command.UnacknowledgeService ns last = tt
event_in_form command.HostDowntime ns last = kept (is_one (slice_index ns 2)) (slice_index ns 4)
event_in_form command.ServiceDowntime ns last = kept (is_one (slice_index ns 2)) (slice_index ns 4)
event_in_form command.EndHostDowntime ns last = tt
event_in_form command.EndServiceDowntime ns last = tt
event_in_form command.HostChecksOn ns last = tt
event_in_form command.HostChecksOff ns last = tt
event_in_form command.HostNotesOn ns last = tt
event_in_form command.HostNotesOff ns last = tt
event_in_form command.ServiceChecksOn ns last = tt
event_in_form command.ServiceChecksOff ns last = tt
event_in_form command.ServiceNotesOn ns last = tt
event_in_form command.ServiceNotesOff ns last = tt

-- a command can ask for it
asked_by_command : (c : Command) (ns : List ℕ) (last : List ℕ) → is_command (event_of (kind_of c) ns last) ≡ true
asked_by_command command.HostResult ns last = refl
asked_by_command command.ServiceResult ns last = refl
asked_by_command command.HostCheck ns last = refl
asked_by_command command.ForcedHostCheck ns last = refl
asked_by_command command.ServiceCheck ns last = refl
asked_by_command command.ForcedServiceCheck ns last = refl
asked_by_command command.AcknowledgeHost ns last = refl
asked_by_command command.AcknowledgeService ns last = refl
asked_by_command command.UnacknowledgeHost ns last = refl
asked_by_command command.UnacknowledgeService ns last = refl
asked_by_command command.HostDowntime ns last = refl
asked_by_command command.ServiceDowntime ns last = refl
asked_by_command command.EndHostDowntime ns last = refl
asked_by_command command.EndServiceDowntime ns last = refl
asked_by_command command.HostChecksOn ns last = refl
asked_by_command command.HostChecksOff ns last = refl
asked_by_command command.HostNotesOn ns last = refl
asked_by_command command.HostNotesOff ns last = refl
asked_by_command command.ServiceChecksOn ns last = refl
asked_by_command command.ServiceChecksOff ns last = refl
asked_by_command command.ServiceNotesOn ns last = refl
asked_by_command command.ServiceNotesOff ns last = refl

-- what is looked up is there
host_there : (cs : List PlainCheck) (k : ℕ) → is_host (slice_get cs k) ≡ true → k < length cs
host_there [] k h = absurd cc
host_there (c ∷ cs) zero h = omega arith
host_there (c ∷ cs) (suc k) h = let w = host_there cs k h in omega (arith, w)

service_there : (host : ℕ) (cs : List PlainCheck) (k : ℕ) → is_service_of host (slice_get cs k) ≡ true → k < length cs
service_there host [] k h = absurd cc
service_there host (c ∷ cs) zero h = omega arith
service_there host (c ∷ cs) (suc k) h = let w = service_there host cs k h in omega (arith, w)

chosen : (j k n : ℕ) (b : Bool) → (b ≡ true → j < n) → cond b (Some j) None ≡ Some k → k < n
chosen j k n true h e = let same : j ≡ k = cc in subst (λ i. i < n) same (h refl)
chosen j k n false h e = absurd cc

host_within : (s : PlainSite) (r : Option ℕ) (k : ℕ) → host_at s r ≡ Some k → k < length s.checkables
host_within s None k e = absurd cc
host_within s (Some j) k e = chosen j k (length s.checkables) (is_host (slice_get s.checkables j)) (host_there s.checkables j) e

service_within : (s : PlainSite) (host : ℕ) (r : Option ℕ) (k : ℕ) → service_at s host r ≡ Some k → k < length s.checkables
service_within s host None k e = absurd cc
service_within s host (Some j) k e = chosen j k (length s.checkables) (is_service_of host (slice_get s.checkables j)) (service_there host s.checkables j) e

below_within : (s : PlainSite) (name : List ℕ) (host : Option ℕ) (k : ℕ) → service_below s name host ≡ Some k → k < length s.checkables
below_within s name None k e = absurd cc
below_within s name (Some host) k e = service_within s host (place_of name s.names) k e

found_within : (s : PlainSite) (host : List ℕ) (service : Option (List ℕ)) (k : ℕ) → looked_up s host service ≡ Some k → k < length s.checkables
unfolding host_named service_named
found_within s host None k e = host_within s (place_of host s.names) k e
found_within s host (Some service) k e = below_within s (full_name host service) (host_named s host) k e

of_numbers : (s : PlainSite) (c : Command) (place : ℕ) (last : List ℕ) (ns : Option (List ℕ)) → place < length s.checkables → TellsInForm s (numbers_read s (kind_of c) place last ns)
of_numbers s c place last None h = tt
of_numbers s c place last (Some ns) h =
    either s (has_span (kind_of c) ns) _ _ (either s (is_open_to (kind_of c) (slice_get s.checkables place)) _ _ (event_in_form c ns last, h, asked_by_command c ns last) tt) tt

of_place : (s : PlainSite) (c : Command) (fs : List (List ℕ)) (r : Option ℕ) → ((k : ℕ) → r ≡ Some k → k < length s.checkables) → TellsInForm s (place_read s c fs r)
of_place s c fs None h = tt
of_place s c fs (Some k) h = of_numbers s c k (field fs (count_of c - 1)) (numbers_in (limits_of (kind_of c)) (drop (names_of c) fs)) (h k refl)

of_fields : (s : PlainSite) (c : Command) (fs : Option (List (List ℕ))) → TellsInForm s (fields_read s c fs)
of_fields s c None = tt
of_fields s c (Some fs) = of_place s c fs (looked_up s (field fs 0) (service_in c fs)) (λ k e. found_within s (field fs 0) (service_in c fs) k e)

of_command : (s : PlainSite) (c : Option Command) (text : List ℕ) → TellsInForm s (command_with s c text)
of_command s None text = tt
of_command s (Some c) text = of_fields s c (fields_in (ends_in_text c) (count_of c) text)

of_name : (s : PlainSite) (c : Option Command) → TellsInForm s (command_alone c)
of_name s None = tt
of_name s (Some c) = tt

of_cut : (s : PlainSite) (name : List ℕ) (c : Cut) → TellsInForm s (cut_read s name c)
of_cut s name uncut = of_name s (command_named name)
of_cut s name (cut front text) = of_command s (command_named front) text

of_rest : (s : PlainSite) (text : List ℕ) → TellsInForm s (command_read s text)
unfolding command_read
of_rest s text = of_cut s text (cut_at semicolon text)

of_head : (s : PlainSite) (c : Cut) → TellsInForm s (head_read s c)
of_head s uncut = tt
of_head s (cut moment text) = either s (is_number 11 moment) _ _ (of_rest s text) tt

of_text : (s : PlainSite) (line : List ℕ) → TellsInForm s (text_read s line)
unfolding text_read
of_text s [] = tt
of_text s (b ∷ bs) = either s (b == 91) _ _ (of_head s (cut_at bracket bs)) tt

of_line : (s : PlainSite) (line : List ℕ) → TellsInForm s (line_read s line)
unfolding line_read
of_line s line = either s (is_utf8 line) _ _ (of_text s line) tt

told_in_form : (s : PlainSite) (line : List ℕ) (k : ℕ) (e : Event) → line_read s line ≡ told k e → IsInForm e × (k < length s.checkables) × (is_command e ≡ true)
told_in_form s line k e h = subst (TellsInForm s) h (of_line s line)

-- a line's event can be printed
pub line_in_form : (s : PlainSite) (line : List ℕ) (k : ℕ) (e : Event) → line_read s line ≡ told k e → IsInForm e
line_in_form s line k e h = (told_in_form s line k e h).0

-- and its checkable is the site's
pub line_on_site : (s : PlainSite) (line : List ℕ) (k : ℕ) (e : Event) → line_read s line ≡ told k e → k < length s.checkables
line_on_site s line k e h = (told_in_form s line k e h).1

-- and a command can ask for it
pub line_asks : (s : PlainSite) (line : List ℕ) (k : ℕ) (e : Event) → line_read s line ≡ told k e → is_command e ≡ true
line_asks s line k e h = (told_in_form s line k e h).2
