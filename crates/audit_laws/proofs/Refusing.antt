-- The line of a refusal is refused so again.
use Rattle.std.proofs.Common.{◌≡◌, ℕ, zero, suc, not, ◌&&◌, Bool, true, false, cond, List, [], ◌∷◌, ◌++◌, codes, slice_get, refl, sym, ap, ◌∙◌, arith, Option, Some, None, lit<, true≢false}
use Rattle.std.proofs.lemmas.Str.{is_utf8-from_IsUtf8}
use Rattle.std.specs.Str.{IsUtf8, is_utf8, chars}
use Rattle.site_model.specs.PlainSite.{PlainCheck, PlainSite}
use Rattle.site_model.specs.declared.event.Event.TheVariants as event
use Rattle.event_text.proofs.CommandLaws.{command_lacks}
use Rattle.event_text.proofs.CutLaws.{cut_sound, uncut_sound}
use Rattle.event_text.specs.Checkables.{IsHost, IsNamed, full_name}
use Rattle.event_text.specs.Commands.{command_name, command_named}
use Rattle.event_text.specs.Cuts.{Cut, cut, cut_at, uncut}
use Rattle.event_text.specs.Fields.{field, semicolon}
use Rattle.event_text.specs.Kinds.{kind_of, names_service, is_open_to}
use Rattle.event_text.specs.Lines.{HasFault, HasNumbers, IsAsked, IsCommand, IsHead, IsOf, bracket}
use Rattle.event_text.specs.Numbers.{IsNumber}
use Rattle.event_text.specs.declared.command.Command.{Command}
use Rattle.event_text.specs.declared.command.Command.TheVariants as command
use Rattle.event_text.specs.declared.line_fault.LineFault.{LineFault}
use Rattle.event_text.specs.declared.line_fault.LineFault.TheVariants as fault
use Rattle.audit_laws.specs.Askable.{IsInRange}
use Rattle.site_audit.specs.Commands.{can_be_named, closed_line, closed_to_name, first_named, host_to_name, is_closed_to_name, is_cut, is_host_to_name, is_service, line_for, with_host}
use Rattle.audit_laws.specs.Names.{IsSomeService, IsWellNamed}
use Rattle.audit_laws.specs.Telling.{IsRefusedAgain}
use Rattle.audit_laws.proofs.Asking.{Place, asked_host, place_of}
use Rattle.audit_laws.proofs.Bytes.{Lacks}
use Rattle.audit_laws.proofs.Fields.{is_asked, small_utf8, zero_number}
use Rattle.audit_laws.proofs.Naming.{lacks_named, name_text, named_lacks, no_service, same_check, some_service}
use Rattle.audit_laws.proofs.Outputs.{empty_output}
use Rattle.audit_laws.proofs.Saying.{one_within, zero_within}
use Rattle.audit_laws.proofs.Told.{Spoken, spoken}

-- ---- lines that name nothing

no_text : is_utf8 (255 ∷ []) ≡ false
unfolding is_utf8 chars
no_text = refl

not_text : IsUtf8 (255 ∷ []) → ⊥
not_text h = true≢false (sym (is_utf8-from_IsUtf8 (255 ∷ []) h) ∙ no_text)

-- the front of a line at moment 0
at_zero : (command : List ℕ) → IsHead (codes "[0] " ++ command) (codes "0") command
at_zero command = record {
  inner = 48 ∷ 93 ∷ 32 ∷ command;
  opened = refl;
  closed = cut_sound bracket (48 ∷ 93 ∷ 32 ∷ command) (codes "0") command refl;
}

no_number : IsNumber 11 (codes "x") → ⊥
no_number h = absurd (let few = h.digits.1.0 in omega (arith, few))

bad_moment : (s : PlainSite) → HasFault s (codes "[x] ") fault.BadMoment
bad_moment s =
    (small_utf8 (codes "[x] ") refl, codes "x", [], record { inner = codes "x] "; opened = refl; closed = cut_sound bracket (codes "x] ") (codes "x") [] refl }, no_number)

alone : (name : List ℕ) → IsUtf8 (codes "[0] " ++ name) → cut_at semicolon name ≡ uncut → IsCommand (codes "[0] " ++ name) name None
alone name text e = record { moment = codes "0"; command = name; text = text; head = at_zero name; in_time = zero_number; has_name = (refl, uncut_sound semicolon name (lit< tt) e) }

unknown_name : command_named (codes "X") ≡ None
unfolding command_named
unknown_name = refl

unknown_command : (s : PlainSite) → HasFault s (codes "[0] X") fault.UnknownCommand
unknown_command s = (codes "X", None, alone (codes "X") (small_utf8 (codes "[0] X") refl) refl, command_lacks (codes "X") unknown_name)

field_count : (s : PlainSite) → HasFault s (codes "[0] ENABLE_HOST_CHECK") fault.FieldCount
field_count s = (command.HostChecksOn, None, alone (command_name command.HostChecksOn) (small_utf8 (codes "[0] ENABLE_HOST_CHECK") refl) refl, λ fs h. h)

unknown_checkable : (s : PlainSite) → IsWellNamed s → HasFault s (codes "[0] ENABLE_HOST_CHECK;") fault.UnknownCheckable
unknown_checkable s w =
    (command.HostChecksOn, [] ∷ [], is_asked command.HostChecksOn [] [] tt (small_utf8 [] refl, tt) refl, λ k h. absurd (let some = (w.hosts [] k h).some in omega (arith, some)))

-- ---- the first of a list

record First (test : PlainCheck → Bool) (cs : List PlainCheck) : Type 0 where
  check : PlainCheck
  place : ℕ
  at : slice_get cs place ≡ Some check
  passes : test check ≡ true
  found : first_named test cs ≡ Some check.name

first_of : (test : PlainCheck → Bool) (cs : List PlainCheck) (k : ℕ) (check : PlainCheck) → slice_get cs k ≡ Some check → test check ≡ true → First test cs
first_of test [] k check at e = absurd (let f : None ≡ Some check = at in cc)
first_of test (c ∷ cs) k check at e = by (λ j h. first_of test cs j check h e) k at (test c) refl
  where
    behind : First test cs → test c ≡ false → First test (c ∷ cs)
    behind f miss = record { check = f.check; place = suc f.place; at = f.at; passes = f.passes; found = ap (λ t. cond t (Some c.name) (first_named test cs)) miss ∙ f.found }

    by : ((j : ℕ) → slice_get cs j ≡ Some check → First test cs) → (k : ℕ) → slice_get (c ∷ cs) k ≡ Some check → (t : Bool) → test c ≡ t → First test (c ∷ cs)
    by again k at true hit = record { check = c; place = 0; at = refl; passes = hit; found = ap (λ t. cond t (Some c.name) (first_named test cs)) hit }
    by again zero at false miss = absurd (let same : c ≡ check = cc in true≢false (sym e ∙ (sym (ap test same) ∙ miss)))
    by again (suc k) at false miss = behind (again k at) miss

both : (a b : Bool) → (a && b) ≡ true → (a ≡ true) × (b ≡ true)
both true b e = (refl, e)
both false b e = cc

and : (a b : Bool) → a ≡ true → b ≡ true → (a && b) ≡ true
and a b h k = ap (λ t. t && b) h ∙ k

not_is : (b : Bool) → not b ≡ true → b ≡ false
not_is true e = sym e
not_is false e = refl

-- ---- a host that a line can name

record NamedHost (s : PlainSite) : Type 0 where
  name : List ℕ
  place : ℕ
  is : IsHost s name place
  plain : Lacks 59 name
  text : IsUtf8 name
  found : host_to_name s.checkables ≡ Some name

whole_is : (r : Cut) → is_cut r ≡ false → r ≡ uncut
whole_is uncut e = refl
whole_is (cut f g) e = absurd (true≢false e)

-- a checkable without a mark in its name is a host
is_host : (s : PlainSite) (k : ℕ) (check : PlainCheck) → IsWellNamed s → slice_get s.checkables k ≡ Some check → is_service check.name ≡ false → IsHost s check.name k
is_host s k check w at none = by check.host refl
  where
    by : (o : Option ℕ) → check.host ≡ o → IsHost s check.name k
    by None own = record { check = check; at = at; named = refl; own = own }
    by (Some host) own =
        let x : IsSomeService s k = w.services k check host at own in
        let same : x.is.check ≡ check = same_check s k x.is.check check x.is.at at in
        let name : full_name x.host x.own ≡ check.name = sym x.is.named ∙ ap (λ c. c.name) same in
        absurd (true≢false (sym (some_service s x.host x.own x.is.place w x.is.below) ∙ (ap is_service name ∙ none)))

host_in : (s : PlainSite) (c : Command) (fs : List (List ℕ)) (k : ℕ) → IsOf s c fs k → (place : ℕ) × IsHost s (field fs 0) place
host_in s c fs k named = by (names_service c) named
  where
    by : (b : Bool) → IsNamed s (field fs 0) (cond b (Some (field fs 1)) None) k → (place : ℕ) × IsHost s (field fs 0) place
    by false h = (k, h)
    by true h = (h.place, h.below)

named_host : (s : PlainSite) (line : List ℕ) (c : Command) (fs : List (List ℕ)) (k : ℕ) → IsWellNamed s → IsAsked line c fs → IsOf s c fs k → NamedHost s
named_host s line c fs k w asked named =
    let h = host_in s c fs k named in
    let is : IsHost s (field fs 0) h.0 = h.1 in
    let can : can_be_named is.check.name ≡ true = ap can_be_named is.named ∙ lacks_named (field fs 0) (asked_host line c fs asked) in
    let own : not (is_service is.check.name) ≡ true = ap (λ n. not (is_service n)) is.named ∙ ap not (no_service s (field fs 0) h.0 w is) in
    let f : First is_host_to_name s.checkables = first_of is_host_to_name s.checkables h.0 is.check is.at (and (can_be_named is.check.name) (not (is_service is.check.name)) can own) in
    let p = both (can_be_named f.check.name) (not (is_service f.check.name)) f.passes in
    record {
      name = f.check.name;
      place = f.place;
      is = is_host s f.place f.check w f.at (not_is (is_service f.check.name) p.1);
      plain = named_lacks f.check.name p.0;
      text = name_text s f.place f.check w f.at;
      found = f.found;
    }

zero_plain : Lacks 59 (codes "0")
zero_plain = (refl, tt)

one_plain : Lacks 59 (codes "1")
one_plain = (refl, tt)

bad_number : (s : PlainSite) (h : NamedHost s) → HasFault s (codes "[0] SCHEDULE_HOST_CHECK;" ++ (h.name ++ codes ";x")) fault.BadNumber
bad_number s h =
    (command.HostCheck, h.name ∷ codes "x" ∷ [], h.place, is_asked command.HostCheck h.name (codes "x" ∷ []) (h.plain, (refl, tt)) (h.text, (small_utf8 (codes "x") refl, tt)) refl, h.is, lacks)
  where
    lacks : (ns : List ℕ) → HasNumbers command.HostCheck (h.name ∷ codes "x" ∷ []) ns → ⊥
    lacks [] f = absurd f
    lacks (n ∷ ns) f = no_number f.0.number

abbrev texts : List (List ℕ)
texts = codes "1" ∷ codes "1" ∷ codes "1" ∷ codes "0" ∷ codes "0" ∷ [] ∷ [] ∷ []

bad_span : (s : PlainSite) (h : NamedHost s) → HasFault s (codes "[0] SCHEDULE_HOST_DOWNTIME;" ++ (h.name ++ codes ";1;1;1;0;0;;")) fault.BadSpan
bad_span s h = (
  command.HostDowntime,
  h.name ∷ texts,
  h.place,
  1 ∷ 1 ∷ 1 ∷ 0 ∷ 0 ∷ [],
  is_asked command.HostDowntime h.name texts (h.plain, (one_plain, (one_plain, (one_plain, (zero_plain, (zero_plain, (tt, tt)))))))
      (h.text, (one, (one, (one, (none, (none, (small_utf8 [] refl, (small_utf8 [] refl, tt)))))))) refl,
  h.is,
  (one_within 11 99999999999 (omega arith) (omega arith), (one_within 11 99999999999 (omega arith) (omega arith), (one_within 19 1 (omega arith) (omega arith), (zero_within 19 0 (omega arith), (zero_within 19 99999999999 (omega arith), tt))))),
  refl,
)
  where
    one : IsUtf8 (codes "1")
    one = small_utf8 (codes "1") refl

    none : IsUtf8 (codes "0")
    none = small_utf8 (codes "0") refl

-- ---- a checkable that takes no passive results

closed_check : (c : Command) (check : PlainCheck) → is_open_to (kind_of c) (Some check) ≡ false → check.passive ≡ false
closed_check command.HostResult check e = e
closed_check command.ServiceResult check e = e
closed_check c check e = absurd (true≢false e)

closed_range : (host : Option ℕ) → IsInRange host (event.Result 0 true [] [])
closed_range None = (refl, (omega arith, refl), empty_output)
closed_range (Some host) = (refl, omega arith, empty_output)

closed_again : (s : PlainSite) (k : ℕ) (check : PlainCheck) (c : Command) → slice_get s.checkables k ≡ Some check → is_open_to (kind_of c) (Some check) ≡ check.passive → check.passive ≡ false → is_open_to (kind_of c) (slice_get s.checkables k) ≡ false
closed_again s k check c at takes off = ap (is_open_to (kind_of c)) at ∙ (takes ∙ off)

closed_is : (cs : List PlainCheck) (name line : List ℕ) → closed_to_name cs ≡ Some name → line_for name (event.Result 0 true [] []) ≡ Some line → closed_line (closed_to_name cs) ≡ Some line
closed_is cs name line found is = ap closed_line found ∙ is

passive_off : (s : PlainSite) (line : List ℕ) (c : Command) (fs : List (List ℕ)) (k : ℕ) → IsWellNamed s → IsAsked line c fs → IsOf s c fs k → is_open_to (kind_of c) (slice_get s.checkables k) ≡ false → IsRefusedAgain s fault.PassiveOff
passive_off s line c fs k w asked named shut =
    let p : Place s k (names_service c) = place_of s line c fs k asked named in
    let off : p.check.passive ≡ false = closed_check c p.check (sym (ap (is_open_to (kind_of c)) p.at) ∙ shut) in
    let f : First is_closed_to_name s.checkables = first_of is_closed_to_name s.checkables k p.check p.at (and (can_be_named p.check.name) (not p.check.passive) p.named (ap not off)) in
    let q = both (can_be_named f.check.name) (not f.check.passive) f.passes in
    let y : Spoken s f.place f.check.name (event.Result 0 true [] []) = spoken s f.place f.check (event.Result 0 true [] []) w f.at q.0 (closed_range f.check.host) in
    record {
      line = y.line;
      is = closed_is s.checkables f.check.name y.line f.found y.is;
      tells = (y.command, y.fields, f.place, y.numbers, y.asked, y.named, y.values, y.span, closed_again s f.place f.check y.command f.at (y.takes f.check) (not_is f.check.passive q.1));
    }

-- ---- all of them

pub refused_again : (s : PlainSite) → IsWellNamed s → (line : List ℕ) (f : LineFault) → HasFault s line f → IsRefusedAgain s f
refused_again s w line fault.NotText h = record { line = 255 ∷ []; is = refl; tells = not_text }
refused_again s w line fault.NoBracket h = record { line = []; is = refl; tells = (small_utf8 [] refl, λ moment command g. absurd (let e : [] ≡ 91 ∷ g.inner = g.opened in cc)) }
refused_again s w line fault.BadMoment h = record { line = codes "[x] "; is = refl; tells = bad_moment s }
refused_again s w line fault.UnknownCommand h = record { line = codes "[0] X"; is = refl; tells = unknown_command s }
refused_again s w line fault.FieldCount h = record { line = codes "[0] ENABLE_HOST_CHECK"; is = refl; tells = field_count s }
refused_again s w line fault.UnknownCheckable h = record { line = codes "[0] ENABLE_HOST_CHECK;"; is = refl; tells = unknown_checkable s w }
refused_again s w line fault.BadNumber h =
    let n : NamedHost s = named_host s line h.0 h.1 h.2 w h.3 h.4 in
    record { line = codes "[0] SCHEDULE_HOST_CHECK;" ++ (n.name ++ codes ";x"); is = ap (with_host (codes "[0] SCHEDULE_HOST_CHECK;") (codes ";x")) n.found; tells = bad_number s n }
refused_again s w line fault.BadSpan h =
    let n : NamedHost s = named_host s line h.0 h.1 h.2 w h.4 h.5 in
    record { line = codes "[0] SCHEDULE_HOST_DOWNTIME;" ++ (n.name ++ codes ";1;1;1;0;0;;"); is = ap (with_host (codes "[0] SCHEDULE_HOST_DOWNTIME;") (codes ";1;1;1;0;0;;")) n.found; tells = bad_span s n }
refused_again s w line fault.PassiveOff h = passive_off s line h.0 h.1 h.2 w h.4 h.5 h.8
