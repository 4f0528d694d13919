-- What reading a line gives can be asked for by a line.
use Rattle.std.proofs.Common.{◌≡◌, ℕ, ◌-◌, ◌<◌, ◌≤◌, ◌==◌, ◌&&◌, ◌||◌, min, nat_lt, Bool, true, false, cond, List, [], ◌∷◌, ◌++◌, length, drop, slice_get, slice_index, refl, sym, ap, ◌∙◌, subst, arith, append_assoc, Option, Some, None, lit<}
use Rattle.std.proofs.lemmas.Bool.Decides.{nat_tests}
use Rattle.std.proofs.lemmas.List.{length-append}
use Rattle.site_model.specs.PlainSite.{PlainCheck, PlainSite}
use Rattle.site_model.specs.declared.event.Event.{Event}
use Rattle.plugin_line.specs.Output.{plugin_result}
use Rattle.event_text.proofs.NumberLaws.{numbers_complete, numbers_within}
use Rattle.event_text.specs.Checkables.{IsNamed}
use Rattle.event_text.specs.Cuts.{IsCut, IsUncut}
use Rattle.event_text.specs.Fields.{AreFields, field, semicolon}
use Rattle.event_text.specs.Kinds.{kind_of, limits_of, names_of, names_service, texts_of, count_of, ends_in_text, event_of, has_span, is_open_to, is_one}
use Rattle.event_text.specs.Lines.{HasEvent, HasFields, IsAsked, IsOf}
use Rattle.event_text.specs.Numbers.{AreWithin, host_status}
use Rattle.event_text.specs.declared.command.Command.{Command}
use Rattle.event_text.specs.declared.command.Command.TheVariants as command
use Rattle.audit_laws.specs.Askable.{AreOfOutput, CanBeAsked, IsDuration, IsInRange, IsStatus, takes_event}
use Rattle.site_audit.specs.Commands.{can_be_named}
use Rattle.audit_laws.proofs.Bytes.{Lacks, lacks_append, uncut_lacks}
use Rattle.audit_laws.proofs.Naming.{lacks_named}

-- ---- names

-- what a text is cut off from lacks the mark
uncut_front : (mark text f rest : List ℕ) → 0 < length mark → IsCut mark text f rest → IsUncut mark f
uncut_front mark text f rest some h g b e = absurd (let few = h.first g (b ++ (mark ++ rest)) (h.whole ∙ (ap (λ x. x ++ (mark ++ rest)) e ∙ over g mark b (mark ++ rest))) in let long = ap length e in let one = length-append g (mark ++ b) in let two = length-append mark b in omega (arith, few, long, one, two, some))
  where
    over : (w x y z : List ℕ) → (w ++ (x ++ y)) ++ z ≡ w ++ (x ++ (y ++ z))
    over w x y z = simp append_assoc

first_plain : (t : Bool) (f : List ℕ) (fs : List (List ℕ)) (text : List ℕ) → AreFields t (f ∷ fs) text → (t ≡ true → 0 < length fs) → Lacks 59 f
first_plain true f [] text h some = absurd (let n = some refl in omega (arith, n))
first_plain false f [] text h some = uncut_lacks 59 f (subst (IsUncut semicolon) h.0 h.1)
first_plain t f (g ∷ fs) text h some = uncut_lacks 59 f (uncut_front semicolon text f h.0 (lit< tt) h.1)

more_fields : (c : Command) → ends_in_text c ≡ true → names_of c < count_of c
more_fields c e = let some : 0 < texts_of (kind_of c) = grind (arith, nat_tests, e) in omega (arith, some)

one_name : (c : Command) → names_service c ≡ false → names_of c ≡ 1
one_name c e = ap (λ b. cond b 2 1) e

two_names : (c : Command) → names_service c ≡ true → names_of c ≡ 2
two_names c e = ap (λ b. cond b 2 1) e

host_plain : (t : Bool) (n : ℕ) (fs : List (List ℕ)) (text : List ℕ) → AreFields t fs text → length fs ≡ n → (t ≡ true → 1 < n) → Lacks 59 (field fs 0)
host_plain t n [] text h count some = absurd h
host_plain t n (f ∷ fs) text h count some = first_plain t f fs text h (λ e. let m = some e in omega (arith, m, count))

own_plain : (t : Bool) (n : ℕ) (fs : List (List ℕ)) (text : List ℕ) → AreFields t fs text → length fs ≡ n → 1 < n → (t ≡ true → 2 < n) → Lacks 59 (field fs 1)
own_plain t n [] text h count two some = absurd h
own_plain t n (f ∷ []) text h count two some = absurd (omega (arith, count, two))
own_plain t n (f ∷ g ∷ fs) text h count two some = first_plain t g fs h.0 h.2 (λ e. let m = some e in omega (arith, m, count))

pub asked_host : (line : List ℕ) (c : Command) (fs : List (List ℕ)) → IsAsked line c fs → Lacks 59 (field fs 0)
asked_host line c fs h = by h.fields h.parts
  where
    names : (b : Bool) → 1 ≤ cond b 2 1
    names true = omega arith
    names false = omega arith

    by : (o : Option (List ℕ)) → HasFields c o fs → Lacks 59 (field fs 0)
    by None parts = absurd parts
    by (Some text) parts = host_plain (ends_in_text c) (count_of c) fs text parts.0 parts.1 (λ e. let m = more_fields c e in let n = names (names_service c) in omega (arith, m, n))

pub asked_own : (line : List ℕ) (c : Command) (fs : List (List ℕ)) → IsAsked line c fs → names_service c ≡ true → Lacks 59 (field fs 1)
asked_own line c fs h service = by h.fields h.parts
  where
    names : names_of c ≡ 2
    names = two_names c service

    by : (o : Option (List ℕ)) → HasFields c o fs → Lacks 59 (field fs 1)
    by None parts = absurd parts
    by (Some text) parts =
        own_plain (ends_in_text c) (count_of c) fs text parts.0 parts.1 (omega (arith, names))
        (λ e. let m = more_fields c e in omega (arith, m, names))

-- ---- numbers

first_within : (digits most : ℕ) (ns : List ℕ) → AreWithin (record { digits = digits; most = most } ∷ []) ns → slice_index ns 0 ≤ most
first_within digits most [] h = absurd h
first_within digits most (n ∷ ns) h = h.0

-- of a downtime: its end, and its duration
down_within : (ns : List ℕ) → AreWithin (limits_of (kind_of command.HostDowntime)) ns → (slice_index ns 1 ≤ 99999999999) × (slice_index ns 4 ≤ 99999999999)
down_within [] h = absurd h
down_within (a ∷ []) h = absurd h.1
down_within (a ∷ b ∷ []) h = absurd h.1.1
down_within (a ∷ b ∷ c ∷ []) h = absurd h.1.1.1
down_within (a ∷ b ∷ c ∷ d ∷ []) h = absurd h.1.1.1.1
down_within (a ∷ b ∷ c ∷ d ∷ e ∷ ns) h = (h.1.0, h.1.1.1.1.0)

host_status_few : (n : ℕ) → (min (host_status n) 3 ≤ 3) × (host_status (min (host_status n) 3) ≡ min (host_status n) 3)
host_status_few n = by (n == 0)
  where
    by : (t : Bool) → (min (cond t 0 2) 3 ≤ 3) × (host_status (min (cond t 0 2) 3) ≡ min (cond t 0 2) 3)
    by true = (omega arith, refl)
    by false = (omega arith, refl)

host_status_is : (host : Option ℕ) (n : ℕ) → IsStatus host (min (host_status n) 3)
host_status_is None n = host_status_few n
host_status_is (Some host) n = omega arith

service_status_is : (host : Option ℕ) (n : ℕ) → (host ≡ None → ⊥) → IsStatus host (min n 3)
service_status_is None n h = absurd (h refl)
service_status_is (Some host) n h = omega arith

of_output : (last : List ℕ) (status : ℕ) → AreOfOutput (plugin_result last status).output (plugin_result last status).perf
of_output last status = record { bytes = last; output_is = refl; perf_is = refl }

before_end : (a b : ℕ) (t : Bool) → (nat_lt a b && t) ≡ true → a < b
before_end a b t e = by (nat_lt a b) refl e
  where
    by : (u : Bool) → nat_lt a b ≡ u → (u && t) ≡ true → a < b
    by true h e = grind (arith, nat_tests, h)
    by false h e = absurd (let f : false ≡ true = e in cc)

both : (a b : Bool) → (a && b) ≡ true → b ≡ true
both true b e = e
both false b e = cc

duration_is : (fixed : Bool) (n : ℕ) → (fixed || nat_lt 0 n) ≡ true → n ≤ 99999999999 → IsDuration fixed (cond fixed 0 n)
duration_is true n e few = refl
duration_is false n e few = (grind (arith, nat_tests, e), few)

down_range : (ns last : List ℕ) (host : Option ℕ) → AreWithin (limits_of (kind_of command.HostDowntime)) ns → has_span (kind_of command.HostDowntime) ns ≡ true → IsInRange host (event_of (kind_of command.HostDowntime) ns last)
down_range ns last host w span =
    let few = down_within ns w in (
      before_end (slice_index ns 0) (slice_index ns 1) (is_one (slice_index ns 2) || nat_lt 0 (slice_index ns 4)) span,
      few.0,
      duration_is (is_one (slice_index ns 2)) (slice_index ns 4) (both (nat_lt (slice_index ns 0) (slice_index ns 1)) (is_one (slice_index ns 2) || nat_lt 0 (slice_index ns 4)) span) few.1,
    )

in_range : (c : Command) (host : Option ℕ) (ns last : List ℕ) → (names_service c ≡ true → host ≡ None → ⊥) → AreWithin (limits_of (kind_of c)) ns → has_span (kind_of c) ns ≡ true → IsInRange host (event_of (kind_of c) ns last)
in_range command.HostResult host ns last own w span = (refl, host_status_is host (slice_index ns 0), of_output last (host_status (slice_index ns 0)))
in_range command.ServiceResult host ns last own w span = (refl, service_status_is host (slice_index ns 0) (own refl), of_output last (slice_index ns 0))
in_range command.HostCheck host ns last own w span = first_within 11 99999999999 ns w
in_range command.ForcedHostCheck host ns last own w span = first_within 11 99999999999 ns w
in_range command.ServiceCheck host ns last own w span = first_within 11 99999999999 ns w
in_range command.ForcedServiceCheck host ns last own w span = first_within 11 99999999999 ns w
in_range command.HostDowntime host ns last own w span = down_range ns last host w span
in_range command.ServiceDowntime host ns last own w span = down_range ns last host w span
in_range command.EndHostDowntime host ns last own w span = first_within 19 9999999999999999999 ns w
in_range command.EndServiceDowntime host ns last own w span = first_within 19 9999999999999999999 ns w
in_range c host ns last own w span = tt

taken_is : (c : Command) (check : PlainCheck) (ns last : List ℕ) → takes_event check (event_of (kind_of c) ns last) ≡ is_open_to (kind_of c) (Some check)
taken_is command.HostResult check ns last = refl
taken_is c check ns last = refl

-- ---- events

-- the checkable that is named
pub record Place (s : PlainSite) (k : ℕ) (service : Bool) : Type 0 where
  pub check : PlainCheck
  pub at : slice_get s.checkables k ≡ Some check
  pub named : can_be_named check.name ≡ true
  pub own : service ≡ true → check.host ≡ None → ⊥

pub place_of : (s : PlainSite) (line : List ℕ) (c : Command) (fs : List (List ℕ)) (k : ℕ) → IsAsked line c fs → IsOf s c fs k → Place s k (names_service c)
place_of s line c fs k asked named = by (names_service c) refl named
  where
    by : (b : Bool) → names_service c ≡ b → IsNamed s (field fs 0) (cond b (Some (field fs 1)) None) k → Place s k b
    by false e h = record {
      check = h.check;
      at = h.at;
      named = lacks_named h.check.name (subst (Lacks 59) (sym h.named) (asked_host line c fs asked));
      own = λ f. absurd (let g : false ≡ true = f in cc);
    }
    by true e h = record {
      check = h.check;
      at = h.at;
      named = lacks_named h.check.name (subst (Lacks 59) (sym h.named) (lacks_append 59 (field fs 0) (33 ∷ field fs 1) (asked_host line c fs asked) (refl, asked_own line c fs asked e)));
      own = λ f none. absurd (let g : Some h.place ≡ None = sym h.joined ∙ none in cc);
    }

pub can_be_asked : (s : PlainSite) (line : List ℕ) (k : ℕ) (e : Event) → HasEvent s line k e → CanBeAsked s k e
can_be_asked s line k e h =
    let c : Command = h.command in
    let last : List ℕ = field h.fields (count_of c - 1) in
    let p : Place s k (names_service c) = place_of s line c h.fields k h.asked h.named in
    let within : AreWithin (limits_of (kind_of c)) h.numbers = numbers_within (limits_of (kind_of c)) (drop (names_of c) h.fields) h.numbers (numbers_complete (limits_of (kind_of c)) (drop (names_of c) h.fields) h.numbers h.values) in
    record {
      check = p.check;
      at = p.at;
      named = p.named;
      range = subst (IsInRange p.check.host) (sym h.event) (in_range c p.check.host h.numbers last p.own within h.span);
      taken = ap (takes_event p.check) h.event ∙ (taken_is c p.check h.numbers last ∙ (sym (ap (is_open_to (kind_of c)) p.at) ∙ h.taken));
    }
