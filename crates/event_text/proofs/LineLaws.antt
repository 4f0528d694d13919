-- What a line tells, both ways.
use Rattle.std.proofs.Common.{◌≡◌, ◌-◌, ℕ, Bool, true, false, cond, List, drop, length, refl, sym, ap, ◌∙◌, subst, Option, Some, None, Result, Ok, Err}
use Rattle.std.proofs.lemmas.Str.{IsUtf8-from_is_utf8, is_utf8-from_IsUtf8}
use Rattle.std.specs.List.{slice_get}
use Rattle.std.specs.Str.{IsUtf8, is_utf8}
use Rattle.site_model.specs.PlainSite.{PlainSite}
use Rattle.site_model.specs.Sound.{HasNames}
use Rattle.site_model.specs.declared.event.Event.{Event}
use Rattle.event_text.specs.Checkables.{IsNamed}
use Rattle.event_text.specs.Commands.{command_name, command_named}
use Rattle.event_text.specs.Cuts.{cut}
use Rattle.event_text.specs.Fields.{field, service_in, fields_in}
use Rattle.event_text.specs.Kinds.{kind_of, limits_of, names_of, count_of, ends_in_text, event_of, has_span, is_open_to}
use Rattle.event_text.specs.Lines.{Answer, told, faulty, IsHead, IsCommand, IsAsked, HasFields, HasNumbers, IsOf, HasFault, Has}
use Rattle.event_text.specs.Numbers.{IsNumber, is_number, numbers_in}
use Rattle.event_text.specs.Reading.{line_read, text_read, head_read, looked_up, judged_read, numbers_read, place_read, fields_read, command_with, command_alone, Gives, Tells}
use Rattle.event_text.specs.declared.command.Command.{Command}
use Rattle.event_text.specs.declared.line_error.LineError.{LineError}
use Rattle.event_text.specs.declared.line_error.LineError.TheVariants as error
use Rattle.event_text.specs.declared.line_fault.LineFault.{LineFault}
use Rattle.event_text.specs.declared.line_fault.LineFault.TheVariants as fault
use Rattle.event_text.proofs.CheckableLaws.{host_is, host_found, no_host, host_lacks, service_is, service_found, no_service, service_lacks}
use Rattle.event_text.proofs.CommandLaws.{command_sound, command_found, command_none, command_lacks}
use Rattle.event_text.proofs.FieldLaws.{Are, fields_sound, fields_complete}
use Rattle.event_text.proofs.HeadLaws.{head_found, HeadOf, headless, headed, head_of, with_fields, NameOf, name_of, untimed, text_line, other_line, command_line}
use Rattle.event_text.proofs.NumberLaws.{number_is, not_number, numbers_sound, numbers_complete, no_numbers, numbers_lack}

named_is : (s : PlainSite) (host : List ℕ) (service : Option (List ℕ)) (k : ℕ) → HasNames s → looked_up s host service ≡ Some k → IsNamed s host service k
named_is s host None k has e = host_is s host k has e
named_is s host (Some service) k has e = service_is s host service k has e

named_found : (s : PlainSite) (host : List ℕ) (service : Option (List ℕ)) (k : ℕ) → HasNames s → IsNamed s host service k → looked_up s host service ≡ Some k
named_found s host None k has h = host_found s host k has h
named_found s host (Some service) k has h = service_found s host service k has h

unnamed : (s : PlainSite) (host : List ℕ) (service : Option (List ℕ)) → HasNames s → ((k : ℕ) → IsNamed s host service k → ⊥) → looked_up s host service ≡ None
unnamed s host None has h = no_host s host has h
unnamed s host (Some service) has h = no_service s host service has h

named_lacks : (s : PlainSite) (host : List ℕ) (service : Option (List ℕ)) → HasNames s → looked_up s host service ≡ None → (k : ℕ) → IsNamed s host service k → ⊥
named_lacks s host None has e k h = host_lacks s host has e k h
named_lacks s host (Some service) has e k h = service_lacks s host service has e k h

-- a command with its fields is read so
fields_found : (c : Command) (text : List ℕ) (fs : List (List ℕ)) → HasFields c (Some text) fs → fields_in (ends_in_text c) (count_of c) text ≡ Some fs
fields_found c text fs h = fields_complete (ends_in_text c) (count_of c) fs text h.0 h.1

asked_line : (s : PlainSite) (line : List ℕ) (c : Command) (fs : List (List ℕ)) → IsAsked line c fs → line_read s line ≡ place_read s c fs (looked_up s (field fs 0) (service_in c fs))
asked_line s line c fs h = by h.fields h.is h.parts
  where
    by : (o : Option (List ℕ)) → IsCommand line (command_name c) o → HasFields c o fs → line_read s line ≡ place_read s c fs (looked_up s (field fs 0) (service_in c fs))
    by None is parts = absurd parts
    by (Some text) is parts =
        command_line s line (command_name c) (Some text) is
        ∙ (ap (λ r. command_with s r text) (command_found c) ∙ ap (fields_read s c) (fields_found c text fs parts))

-- of a checkable
placed_line : (s : PlainSite) (line : List ℕ) (c : Command) (fs : List (List ℕ)) (k : ℕ) → HasNames s → IsAsked line c fs → IsOf s c fs k
    → line_read s line ≡ numbers_read s (kind_of c) k (field fs (count_of c - 1)) (numbers_in (limits_of (kind_of c)) (drop (names_of c) fs))
placed_line s line c fs k has h named =
    asked_line s line c fs h ∙ ap (place_read s c fs) (named_found s (field fs 0) (service_in c fs) k has named)

-- with numbers
numbered_line : (s : PlainSite) (line : List ℕ) (c : Command) (fs : List (List ℕ)) (k : ℕ) (ns : List ℕ) → HasNames s → IsAsked line c fs → IsOf s c fs k → HasNumbers c fs ns
    → line_read s line ≡ judged_read s (kind_of c) k ns (field fs (count_of c - 1))
numbered_line s line c fs k ns has h named values =
    placed_line s line c fs k has h named
    ∙ ap (numbers_read s (kind_of c) k (field fs (count_of c - 1))) (numbers_complete (limits_of (kind_of c)) (drop (names_of c) fs) ns values)

-- What a line has is read.
unknown_line : (s : PlainSite) (name : List ℕ) (fields : Option (List ℕ)) → command_named name ≡ None → with_fields s name fields ≡ faulty fault.UnknownCommand
unknown_line s name None e = ap command_alone e
unknown_line s name (Some text) e = ap (λ r. command_with s r text) e

few_line : (s : PlainSite) (c : Command) (fields : Option (List ℕ)) → ((fs : List (List ℕ)) → HasFields c fields fs → ⊥) → with_fields s (command_name c) fields ≡ faulty fault.FieldCount
few_line s c None h = ap command_alone (command_found c)
few_line s c (Some text) h = ap (λ r. command_with s r text) (command_found c) ∙ by (fields_in (ends_in_text c) (count_of c) text) refl
  where
    by : (r : Option (List (List ℕ))) → fields_in (ends_in_text c) (count_of c) text ≡ r → fields_read s c (fields_in (ends_in_text c) (count_of c) text) ≡ faulty fault.FieldCount
    by None e = ap (fields_read s c) e
    by (Some fs) e = let are : Are (ends_in_text c) (count_of c) fs text = fields_sound (ends_in_text c) (count_of c) text fs e in absurd (h fs (are.fields, are.count))

fault_read : (s : PlainSite) (line : List ℕ) (f : LineFault) → HasNames s → HasFault s line f → line_read s line ≡ faulty f
fault_read s line fault.NotText has h = other_line s line h
fault_read s line fault.NoBracket has h = text_line s line h.0 ∙ by (head_of s line)
  where
    by : HeadOf s line → text_read s line ≡ faulty fault.NoBracket
    by (headless none e) = e
    by (headed m c head e) = absurd (h.1 m c head)
fault_read s line fault.BadMoment has h =
    text_line s line h.0 ∙ (head_found s line h.1 h.2 h.3 ∙ untimed s h.1 h.2 h.4)
fault_read s line fault.UnknownCommand has h =
    command_line s line h.0 h.1 h.2 ∙ unknown_line s h.0 h.1 (command_none h.0 h.3)
fault_read s line fault.FieldCount has h = command_line s line (command_name h.0) h.1 h.2 ∙ few_line s h.0 h.1 h.3
fault_read s line fault.UnknownCheckable has h =
    asked_line s line h.0 h.1 h.2 ∙ ap (place_read s h.0 h.1) (unnamed s (field h.1 0) (service_in h.0 h.1) has h.3)
fault_read s line fault.BadNumber has h =
    placed_line s line h.0 h.1 h.2 has h.3 h.4
    ∙ ap (numbers_read s (kind_of h.0) h.2 (field h.1 (count_of h.0 - 1))) (no_numbers (limits_of (kind_of h.0)) (drop (names_of h.0) h.1) h.5)
fault_read s line fault.BadSpan has h =
    numbered_line s line h.0 h.1 h.2 h.3 has h.4 h.5 h.6
    ∙ ap (λ t. cond t (cond (is_open_to (kind_of h.0) (slice_get s.checkables h.2)) (told h.2 (event_of (kind_of h.0) h.3 (field h.1 (count_of h.0 - 1)))) (faulty fault.PassiveOff)) (faulty fault.BadSpan)) h.7
fault_read s line fault.PassiveOff has h =
    numbered_line s line h.0 h.1 h.2 h.3 has h.4 h.5 h.6
    ∙ (ap (λ t. cond t (cond (is_open_to (kind_of h.0) (slice_get s.checkables h.2)) (told h.2 (event_of (kind_of h.0) h.3 (field h.1 (count_of h.0 - 1)))) (faulty fault.PassiveOff)) (faulty fault.BadSpan)) h.7
    ∙ ap (λ t. cond t (told h.2 (event_of (kind_of h.0) h.3 (field h.1 (count_of h.0 - 1)))) (faulty fault.PassiveOff)) h.8)

pub has_read : (s : PlainSite) (line : List ℕ) (a : Answer) → HasNames s → Has s line a → line_read s line ≡ a
has_read s line (told k e) has h =
    numbered_line s line h.command h.fields k h.numbers has h.asked h.named h.values
    ∙ (ap (λ t. cond t (cond (is_open_to (kind_of h.command) (slice_get s.checkables k)) (told k (event_of (kind_of h.command) h.numbers (field h.fields (count_of h.command - 1)))) (faulty fault.PassiveOff)) (faulty fault.BadSpan)) h.span
    ∙ (ap (λ t. cond t (told k (event_of (kind_of h.command) h.numbers (field h.fields (count_of h.command - 1)))) (faulty fault.PassiveOff)) h.taken
    ∙ ap (told k) (sym h.event)))
has_read s line (faulty f) has h = fault_read s line f has h

-- And what is read is what the line has.
abbrev Judged : PlainSite → List ℕ → Type 0
Judged s line = Has s line (line_read s line)

judged_as : (s : PlainSite) (line : List ℕ) (a : Answer) → line_read s line ≡ a → Has s line a → Judged s line
judged_as s line a e h = subst (Has s line) (sym e) h

judged_numbers : (s : PlainSite) (line : List ℕ) (c : Command) (fs : List (List ℕ)) (k : ℕ) (ns : List ℕ) → IsAsked line c fs → IsOf s c fs k → HasNumbers c fs ns
    → Has s line (judged_read s (kind_of c) k ns (field fs (count_of c - 1)))
judged_numbers s line c fs k ns h named values = by (has_span (kind_of c) ns) refl (is_open_to (kind_of c) (slice_get s.checkables k)) refl
  where
    event : Event
    event = event_of (kind_of c) ns (field fs (count_of c - 1))

    by : (t : Bool) → has_span (kind_of c) ns ≡ t → (u : Bool) → is_open_to (kind_of c) (slice_get s.checkables k) ≡ u → Has s line (cond t (cond u (told k event) (faulty fault.PassiveOff)) (faulty fault.BadSpan))
    by true span true taken = record { command = c; fields = fs; numbers = ns; asked = h; named = named; values = values; span = span; taken = taken; event = refl }
    by true span false shut = (c, fs, k, ns, h, named, values, span, shut)
    by false none u e = (c, fs, k, ns, h, named, values, none)

judged_asked : (s : PlainSite) (line : List ℕ) (c : Command) (fs : List (List ℕ)) → HasNames s → IsAsked line c fs → Judged s line
judged_asked s line c fs has h = by (looked_up s (field fs 0) (service_in c fs)) refl
  where
    there : (k : ℕ) → IsOf s c fs k → (r : Option (List ℕ)) → numbers_in (limits_of (kind_of c)) (drop (names_of c) fs) ≡ r → Judged s line
    there k named None e =
        judged_as s line (faulty fault.BadNumber)
        (placed_line s line c fs k has h named ∙ ap (numbers_read s (kind_of c) k (field fs (count_of c - 1))) e)
        (c, fs, k, h, named, numbers_lack (limits_of (kind_of c)) (drop (names_of c) fs) e)
    there k named (Some ns) e =
        judged_as s line (judged_read s (kind_of c) k ns (field fs (count_of c - 1)))
        (placed_line s line c fs k has h named ∙ ap (numbers_read s (kind_of c) k (field fs (count_of c - 1))) e)
        (judged_numbers s line c fs k ns h named (numbers_sound (limits_of (kind_of c)) (drop (names_of c) fs) ns e))

    by : (r : Option ℕ) → looked_up s (field fs 0) (service_in c fs) ≡ r → Judged s line
    by None e =
        judged_as s line (faulty fault.UnknownCheckable) (asked_line s line c fs h ∙ ap (place_read s c fs) e)
        (c, fs, h, named_lacks s (field fs 0) (service_in c fs) has e)
    by (Some k) e = there k (named_is s (field fs 0) (service_in c fs) k has e) (numbers_in (limits_of (kind_of c)) (drop (names_of c) fs)) refl

judged_known : (s : PlainSite) (line : List ℕ) (c : Command) (fields : Option (List ℕ)) → HasNames s → IsCommand line (command_name c) fields → Judged s line
judged_known s line c None has h =
    judged_as s line (faulty fault.FieldCount) (command_line s line (command_name c) None h ∙ ap command_alone (command_found c)) (c, None, h, λ fs f. f)
judged_known s line c (Some text) has h = by (fields_in (ends_in_text c) (count_of c) text) refl
  where
    by : (r : Option (List (List ℕ))) → fields_in (ends_in_text c) (count_of c) text ≡ r → Judged s line
    by None e =
        judged_as s line (faulty fault.FieldCount)
        (command_line s line (command_name c) (Some text) h ∙ (ap (λ r. command_with s r text) (command_found c) ∙ ap (fields_read s c) e))
        (c, Some text, h, λ fs f. absurd (let found : fields_in (ends_in_text c) (count_of c) text ≡ Some fs = fields_found c text fs f in cc))
    by (Some fs) e =
        let are : Are (ends_in_text c) (count_of c) fs text = fields_sound (ends_in_text c) (count_of c) text fs e in
        judged_asked s line c fs has (record { fields = Some text; is = h; parts = (are.fields, are.count) })

judged_command : (s : PlainSite) (line name : List ℕ) (fields : Option (List ℕ)) → HasNames s → IsCommand line name fields → Judged s line
judged_command s line name parts has h = by (command_named name) refl
  where
    by : (r : Option Command) → command_named name ≡ r → Judged s line
    by None e =
        judged_as s line (faulty fault.UnknownCommand) (command_line s line name parts h ∙ unknown_line s name parts e)
        (name, parts, h, command_lacks name e)
    by (Some c) e = judged_known s line c parts has (subst (λ n. IsCommand line n parts) (command_sound name c e) h)

judged_text : (s : PlainSite) (line : List ℕ) → HasNames s → IsUtf8 line → Judged s line
judged_text s line has text = by (head_of s line)
  where
    timely : (moment command : List ℕ) → IsHead line moment command → IsNumber 11 moment → Judged s line
    timely m command head h =
        let n : NameOf command = name_of command in
        judged_command s line n.name n.fields has (record { moment = m; command = command; text = text; head = head; in_time = h; has_name = n.is })

    late : (moment command : List ℕ) → IsHead line moment command → text_read s line ≡ head_read s (cut moment command) → (IsNumber 11 moment → ⊥) → Judged s line
    late m command head f h = judged_as s line (faulty fault.BadMoment) (text_line s line text ∙ (f ∙ untimed s m command h)) (text, m, command, head, h)

    moment_of : (moment command : List ℕ) → IsHead line moment command → text_read s line ≡ head_read s (cut moment command) → (t : Bool) → is_number 11 moment ≡ t → Judged s line
    moment_of m command head f true e = timely m command head (number_is 11 m e)
    moment_of m command head f false e = late m command head f (not_number 11 m e)

    by : HeadOf s line → Judged s line
    by (headless none f) = judged_as s line (faulty fault.NoBracket) (text_line s line text ∙ f) (text, none)
    by (headed m command head f) = moment_of m command head f (is_number 11 m) refl

pub judged : (s : PlainSite) (line : List ℕ) → HasNames s → Judged s line
judged s line has = by (is_utf8 line) refl
  where
    no_text : is_utf8 line ≡ false → IsUtf8 line → ⊥
    no_text e h = let hit : is_utf8 line ≡ true = is_utf8-from_IsUtf8 line h in cc

    by : (t : Bool) → is_utf8 line ≡ t → Judged s line
    by true e = judged_text s line has (IsUtf8-from_is_utf8 line e)
    by false e = judged_as s line (faulty fault.NotText) (other_line s line (no_text e)) (no_text e)

-- what a call gave
pub tells : (P : Answer → Type 0) (r : Result (ℕ × Event) LineError) (a : Answer) → Gives r a → P a → Tells P r
tells P (Ok x) a e h = subst P e h
tells P (Err (error.Fault f)) a e h = subst P e h
tells P (Err error.OutOfMemory) a e h = tt

pub gives : (r : Result (ℕ × Event) LineError) (a b : Answer) → Gives r a → a ≡ b → Gives r b
gives r a b g e = subst (λ x. Gives r x) e g
