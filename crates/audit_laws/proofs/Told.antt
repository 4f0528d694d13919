-- The line of an event that a line can ask for is read again.
use Rattle.std.proofs.Common.{◌≡◌, ℕ, ◌+◌, ◌-◌, Bool, true, false, cond, List, ◌∷◌, ◌++◌, length, drop, codes, slice_get, refl, sym, ap, ◌∙◌, subst, arith, append_assoc, Option, Some, None}
use Rattle.std.specs.Str.{IsUtf8}
use Rattle.site_model.specs.PlainSite.{PlainCheck, PlainSite}
use Rattle.site_model.specs.declared.event.Event.{Event}
use Rattle.event_text.specs.Checkables.{IsHost, IsService, IsNamed, full_name}
use Rattle.event_text.specs.Commands.{command_name}
use Rattle.event_text.specs.Fields.{field}
use Rattle.event_text.specs.Kinds.{kind_of, limits_of, names_of, names_service, texts_of, count_of, ends_in_text, event_of, has_span, is_open_to}
use Rattle.event_text.specs.Lines.{HasNumbers, IsAsked, IsOf}
use Rattle.event_text.specs.Numbers.{AreNumbers}
use Rattle.event_text.specs.declared.command.Command.{Command}
use Rattle.audit_laws.specs.Askable.{CanBeAsked, IsInRange, takes_event}
use Rattle.site_audit.specs.Commands.{can_be_named, command_for, fields_text, is_service, line_for, line_with, names_text}
use Rattle.audit_laws.specs.Names.{IsSomeService, IsWellNamed}
use Rattle.audit_laws.specs.Telling.{IsToldAgain}
use Rattle.audit_laws.proofs.Bytes.{Lacks, lacks_left, lacks_right}
use Rattle.audit_laws.proofs.Fields.{behind_marks, is_asked, line_of, plain_cons}
use Rattle.audit_laws.proofs.Naming.{host_names, name_is, name_text, named_lacks, no_service, same_check, service_names, some_service, text_before, text_behind}
use Rattle.audit_laws.proofs.Saying.{Says, Told, host_told, service_told}

-- the line of an event on the checkable of this name, as its parts are read
pub record Spoken (s : PlainSite) (k : ℕ) (name : List ℕ) (e : Event) : Type 0 where
  pub command : Command
  pub fields : List (List ℕ)
  pub numbers : List ℕ
  pub line : List ℕ
  pub is : line_for name e ≡ Some line
  pub asked : IsAsked line command fields
  pub named : IsOf s command fields k
  pub values : HasNumbers command fields numbers
  pub span : has_span (kind_of command) numbers ≡ true
  pub takes : (check : PlainCheck) → is_open_to (kind_of command) (Some check) ≡ takes_event check e
  pub event : event_of (kind_of command) numbers (field fields (count_of command - 1)) ≡ e

-- the line, where this is said of the names
line_is : (name : List ℕ) (e : Event) (service : Bool) (c : Command) (names texts : List ℕ) → can_be_named name ≡ true → is_service name ≡ service → command_for e service ≡ Some c → names_text name ≡ names → fields_text e ≡ texts
    → line_for name e ≡ Some (codes "[0] " ++ (command_name c ++ 59 ∷ (names ++ texts)))
line_is name e service c names texts can is for named text =
    ap (λ t. cond t (line_with (command_for e (is_service name)) name e) None) can
    ∙ (ap (λ b. line_with (command_for e b) name e) is
    ∙ (ap (λ o. line_with o name e) for
    ∙ (ap (λ ns. Some (codes "[0] " ++ (command_name c ++ 59 ∷ (ns ++ fields_text e)))) named
    ∙ ap (λ bs. Some (codes "[0] " ++ (command_name c ++ 59 ∷ (names ++ bs)))) text)))

one_name : (c : Command) → names_service c ≡ false → names_of c ≡ 1
one_name c e = ap (λ b. cond b 2 1) e

two_names : (c : Command) → names_service c ≡ true → names_of c ≡ 2
two_names c e = ap (λ b. cond b 2 1) e

pub host_spoken : (s : PlainSite) (k : ℕ) (name : List ℕ) (e : Event) → IsWellNamed s → IsHost s name k → IsUtf8 name → can_be_named name ≡ true → Told false e → Spoken s k name e
host_spoken s k name e w h text can t =
    let c : Command = t.command in
    let y : Says c e = t.says in
    let n : names_of c ≡ 1 = one_name c t.names in
    let count : length y.texts ≡ length (limits_of (kind_of c)) + texts_of (kind_of c) = y.count in
    record {
      command = c;
      fields = name ∷ y.texts;
      numbers = y.numbers;
      line = line_of c (name ∷ y.texts);
      is = line_is name e false c name (behind_marks y.texts) can (no_service s name k w h) t.is (host_names s name k w h) y.text_is;
      asked = is_asked c name y.texts (plain_cons (ends_in_text c) name y.texts (named_lacks name can) y.plain) (text, y.utf8) (omega (arith, n, count));
      named = subst (λ b. IsNamed s name (cond b (Some (field (name ∷ y.texts) 1)) None) k) (sym t.names) h;
      values = subst (λ m. AreNumbers (limits_of (kind_of c)) (drop m (name ∷ y.texts)) y.numbers) (sym n) y.values;
      span = y.span;
      takes = y.takes;
      event = y.event (name ∷ y.texts) (ap (λ m. drop m (name ∷ y.texts)) n);
    }

pub service_spoken : (s : PlainSite) (k : ℕ) (host own : List ℕ) (e : Event) → IsWellNamed s → IsService s host own k → IsUtf8 (full_name host own) → can_be_named (full_name host own) ≡ true → Told true e → Spoken s k (full_name host own) e
service_spoken s k host own e w h text can t =
    let c : Command = t.command in
    let y : Says c e = t.says in
    let n : names_of c ≡ 2 = two_names c t.names in
    let count : length y.texts ≡ length (limits_of (kind_of c)) + texts_of (kind_of c) = y.count in
    let plain : Lacks 59 (full_name host own) = named_lacks (full_name host own) can in
    record {
      command = c;
      fields = host ∷ own ∷ y.texts;
      numbers = y.numbers;
      line = line_of c (host ∷ own ∷ y.texts);
      is =
          line_is (full_name host own) e true c (host ++ 59 ∷ own) (behind_marks y.texts) can (some_service s host own h.place w h.below) t.is (service_names s host own h.place w h.below) y.text_is
          ∙ ap (λ bs. Some (codes "[0] " ++ (command_name c ++ 59 ∷ bs))) (append_assoc host (59 ∷ own) (behind_marks y.texts));
      asked = is_asked c host (own ∷ y.texts)
          (plain_cons (ends_in_text c) host (own ∷ y.texts) (lacks_left 59 host (33 ∷ own) plain) (plain_cons (ends_in_text c) own y.texts (lacks_right 59 host (33 ∷ own) plain).1 y.plain))
          (text_before 33 host own (omega arith) text, (text_behind 33 host own (omega arith) text, y.utf8)) (omega (arith, n, count));
      named = subst (λ b. IsNamed s host (cond b (Some (field (host ∷ own ∷ y.texts) 1)) None) k) (sym t.names) h;
      values = subst (λ m. AreNumbers (limits_of (kind_of c)) (drop m (host ∷ own ∷ y.texts)) y.numbers) (sym n) y.values;
      span = y.span;
      takes = y.takes;
      event = y.event (host ∷ own ∷ y.texts) (ap (λ m. drop m (host ∷ own ∷ y.texts)) n);
    }

pub spoken : (s : PlainSite) (k : ℕ) (check : PlainCheck) (e : Event) → IsWellNamed s → slice_get s.checkables k ≡ Some check → can_be_named check.name ≡ true → IsInRange check.host e → Spoken s k check.name e
spoken s k check e w at can range = by check.host refl range
  where
    by : (o : Option ℕ) → check.host ≡ o → IsInRange o e → Spoken s k check.name e
    by None own range =
        host_spoken s k check.name e w (record { check = check; at = at; named = refl; own = own }) (name_text s k check w at) can (host_told e range)
    by (Some host) own range =
        let x : IsSomeService s k = w.services k check host at own in
        let same : x.is.check ≡ check = same_check s k x.is.check check x.is.at at in
        let name : full_name x.host x.own ≡ check.name = sym x.is.named ∙ ap (λ c. c.name) same in
        subst (λ n. Spoken s k n e) name
        (service_spoken s k x.host x.own e w x.is (subst IsUtf8 (sym name) (name_text s k check w at)) (ap can_be_named name ∙ can) (service_told host e range))

pub told_again : (s : PlainSite) → IsWellNamed s → (k : ℕ) (e : Event) → CanBeAsked s k e → IsToldAgain s k e
told_again s w k e h =
    let y : Spoken s k h.check.name e = spoken s k h.check e w h.at h.named h.range in
    record {
      line = y.line;
      is = ap (λ n. line_for n e) (name_is s k h.check h.at) ∙ y.is;
      tells = record {
        command = y.command;
        fields = y.fields;
        numbers = y.numbers;
        asked = y.asked;
        named = y.named;
        values = y.values;
        span = y.span;
        taken = ap (is_open_to (kind_of y.command)) h.at ∙ (y.takes h.check ∙ h.taken);
        event = sym y.event;
      };
    }
