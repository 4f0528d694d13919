-- What is said of an event behind the names of a command.
use Rattle.std.proofs.Common.{◌≡◌, ℕ, ◌+◌, ◌-◌, ◌<◌, ◌≤◌, ◌&&◌, ◌||◌, min, nat_lt, Bool, true, false, List, [], ◌∷◌, ◌++◌, length, drop, codes, refl, sym, ap, ◌∙◌, subst, arith, Some, None}
use Rattle.std.proofs.lemmas.Bool.Decides.{nat_tests}
use Rattle.std.proofs.lemmas.Fmt.{decimal_digit}
use Rattle.std.proofs.lemmas.List.{append-nil, get_or-drop}
use Rattle.std.specs.Fmt.{decimal}
use Rattle.std.specs.List.{AllByRecursion}
use Rattle.std.specs.Str.{IsUtf8}
use Rattle.plugin_line.specs.Output.{plugin_result}
use Rattle.site_model.specs.PlainSite.{PlainCheck}
use Rattle.site_model.specs.declared.event.Event.{Event}
use Rattle.site_model.specs.declared.event.Event.TheVariants as event
use Rattle.event_text.specs.Fields.{field}
use Rattle.event_text.specs.Kinds.{kind_of, limits_of, names_of, names_service, texts_of, count_of, ends_in_text, event_of, has_span, is_open_to, passive_event}
use Rattle.event_text.specs.Numbers.{AreNumbers, IsNumberWithin, host_status}
use Rattle.event_text.specs.declared.command.Command.{Command}
use Rattle.event_text.specs.declared.command.Command.TheVariants as command
use Rattle.audit_laws.specs.Askable.{AreOfOutput, IsDuration, IsInRange, takes_event}
use Rattle.site_audit.specs.Commands.{command_for, fields_text, output_text}
use Rattle.audit_laws.proofs.Bytes.{Lacks}
use Rattle.audit_laws.proofs.Fields.{ArePlain, behind_marks, decimal_plain, decimal_text, number_within, small_utf8}
use Rattle.audit_laws.proofs.Outputs.{told_again, told_text}

-- the fields of a command that stand behind the names tell the event
pub record Says (c : Command) (e : Event) : Type 0 where
  pub texts : List (List ℕ)
  pub numbers : List ℕ
  pub text_is : fields_text e ≡ behind_marks texts
  pub plain : ArePlain (ends_in_text c) texts
  pub count : length texts ≡ length (limits_of (kind_of c)) + texts_of (kind_of c)
  pub values : AreNumbers (limits_of (kind_of c)) texts numbers
  pub span : has_span (kind_of c) numbers ≡ true
  pub utf8 : AllByRecursion IsUtf8 texts
  pub takes : (check : PlainCheck) → is_open_to (kind_of c) (Some check) ≡ takes_event check e
  pub event : (fs : List (List ℕ)) → drop (names_of c) fs ≡ texts → event_of (kind_of c) numbers (field fs (count_of c - 1)) ≡ e

-- ---- small numbers

one : decimal 1 ≡ codes "1"
one = decimal_digit 1 (omega arith)

none : decimal 0 ≡ codes "0"
none = decimal_digit 0 (omega arith)

two : decimal 2 ≡ codes "2"
two = decimal_digit 2 (omega arith)

pub zero_within : (digits most : ℕ) → 1 ≤ digits → IsNumberWithin (record { digits = digits; most = most }) (codes "0") 0
zero_within digits most h = subst (λ t. IsNumberWithin (record { digits = digits; most = most }) t 0) none (number_within digits most 0 1 (omega arith) (omega arith) h (omega arith) (omega arith))

pub one_within : (digits most : ℕ) → 1 ≤ digits → 1 ≤ most → IsNumberWithin (record { digits = digits; most = most }) (codes "1") 1
one_within digits most h k = subst (λ t. IsNumberWithin (record { digits = digits; most = most }) t 1) one (number_within digits most 1 1 (omega arith) (omega arith) h (omega arith) k)

two_within : IsNumberWithin (record { digits = 19; most = 2 }) (codes "2") 2
two_within = subst (λ t. IsNumberWithin (record { digits = 19; most = 2 }) t 2) two (number_within 19 2 2 1 (omega arith) (omega arith) (omega arith) (omega arith) (omega arith))

moment_within : (n : ℕ) → n ≤ 99999999999 → IsNumberWithin (record { digits = 11; most = 99999999999 }) (decimal n) n
moment_within n h = number_within 11 99999999999 n 11 (omega arith) (omega (arith, h)) (omega arith) (omega (arith, h)) h

moment_text : (n : ℕ) → n ≤ 99999999999 → IsUtf8 (decimal n)
moment_text n h = decimal_text n (omega (arith, h))

moment_plain : (n : ℕ) → n ≤ 99999999999 → Lacks 59 (decimal n)
moment_plain n h = decimal_plain n (omega (arith, h))

-- ---- results

status_within : (n : ℕ) → n ≤ 3 → IsNumberWithin (record { digits = 19; most = 255 }) (decimal n) n
status_within n h = number_within 19 255 n 1 (omega arith) (omega (arith, h)) (omega arith) (omega (arith, h)) (omega (arith, h))

result_text : (status : ℕ) (output perf : List ℕ) → fields_text (event.Result status true output perf) ≡ behind_marks (decimal status ∷ output_text output perf ∷ [])
result_text status output perf = ap (λ bs. 59 ∷ (decimal status ++ 59 ∷ bs)) (sym (append-nil (output_text output perf)))

output_is : (output perf : List ℕ) (status : ℕ) → AreOfOutput output perf → plugin_result (output_text output perf) status ≡ record { status = min status 3; output = output; perf = perf }
output_is output perf status h = told_again h.bytes output perf status h.output_is h.perf_is

result_again : (status : ℕ) (output perf : List ℕ) → status ≤ 3 → AreOfOutput output perf → passive_event status (output_text output perf) ≡ event.Result status true output perf
result_again status output perf few h =
    let low : min status 3 ≡ status = omega (arith, few) in
    ap (λ r. event.Result r.status true r.output r.perf) (output_is output perf status h) ∙ ap (λ n. event.Result n true output perf) low

third : (fs : List (List ℕ)) (n : ℕ) (a b : List ℕ) → drop n fs ≡ a ∷ b ∷ [] → field fs (n + 1) ≡ b
third fs n a b e = sym (get_or-drop n fs 1 []) ∙ ap (λ gs. field gs 1) e

pub host_result : (status : ℕ) (output perf : List ℕ) → status ≤ 3 → host_status status ≡ status → AreOfOutput output perf → Says command.HostResult (event.Result status true output perf)
host_result status output perf few same h = record {
  texts = decimal status ∷ output_text output perf ∷ [];
  numbers = status ∷ [];
  text_is = result_text status output perf;
  plain = (decimal_plain status (omega (arith, few)), tt);
  count = refl;
  takes = λ check. refl;
  values = (status_within status few, tt);
  span = refl;
  utf8 = (decimal_text status (omega (arith, few)), (told_text h.bytes output perf h.output_is h.perf_is, tt));
  event = λ fs e. ap (passive_event (host_status status)) (third fs 1 (decimal status) (output_text output perf) e) ∙ (ap (λ n. passive_event n (output_text output perf)) same ∙ result_again status output perf few h);
}

pub service_result : (status : ℕ) (output perf : List ℕ) → status ≤ 3 → AreOfOutput output perf → Says command.ServiceResult (event.Result status true output perf)
service_result status output perf few h = record {
  texts = decimal status ∷ output_text output perf ∷ [];
  numbers = status ∷ [];
  text_is = result_text status output perf;
  plain = (decimal_plain status (omega (arith, few)), tt);
  count = refl;
  takes = λ check. refl;
  values = (status_within status few, tt);
  span = refl;
  utf8 = (decimal_text status (omega (arith, few)), (told_text h.bytes output perf h.output_is h.perf_is, tt));
  event = λ fs e. ap (passive_event status) (third fs 2 (decimal status) (output_text output perf) e) ∙ result_again status output perf few h;
}

-- ---- checks

-- of a command that has one number behind the names, or none, and no text
module _ (c : Command) (e : Event) where
  pub alone : ends_in_text c ≡ false → limits_of (kind_of c) ≡ [] → texts_of (kind_of c) ≡ 0 → fields_text e ≡ [] → has_span (kind_of c) [] ≡ true → ((last : List ℕ) → event_of (kind_of c) [] last ≡ e) → ((check : PlainCheck) → is_open_to (kind_of c) (Some check) ≡ takes_event check e) → Says c e
  alone last none no_text text span is takes = record {
    texts = [];
    numbers = [];
    text_is = text;
    plain = tt;
    count = sym (ap (λ ls. length ls + texts_of (kind_of c)) none ∙ ap (λ n. 0 + n) no_text);
    values = subst (λ ls. AreNumbers ls [] []) (sym none) tt;
    span = span;
    utf8 = tt;
    takes = takes;
    event = λ fs h. is (field fs (count_of c - 1));
  }

check_text : (moment : ℕ) (forced : Bool) → fields_text (event.Check moment forced) ≡ behind_marks (decimal moment ∷ [])
check_text moment forced = ap (λ bs. 59 ∷ bs) (sym (append-nil (decimal moment)))

pub host_check : (moment : ℕ) → moment ≤ 99999999999 → Says command.HostCheck (event.Check moment false)
host_check moment h = record {
  texts = decimal moment ∷ [];
  numbers = moment ∷ [];
  text_is = check_text moment false;
  plain = moment_plain moment h;
  count = refl;
  takes = λ check. refl;
  values = (moment_within moment h, tt);
  span = refl;
  utf8 = (moment_text moment h, tt);
  event = λ fs e. refl;
}

pub forced_host_check : (moment : ℕ) → moment ≤ 99999999999 → Says command.ForcedHostCheck (event.Check moment true)
forced_host_check moment h = record {
  texts = decimal moment ∷ [];
  numbers = moment ∷ [];
  text_is = check_text moment true;
  plain = moment_plain moment h;
  count = refl;
  takes = λ check. refl;
  values = (moment_within moment h, tt);
  span = refl;
  utf8 = (moment_text moment h, tt);
  event = λ fs e. refl;
}

-- ---- acknowledgements

abbrev sticky_field : Bool → List ℕ
sticky_field true = codes "2"
sticky_field false = codes "1"

abbrev sticky_number : Bool → ℕ
sticky_number true = 2
sticky_number false = 1

abbrev switch_field : Bool → List ℕ
switch_field true = codes "1"
switch_field false = codes "0"

abbrev switch_number : Bool → ℕ
switch_number true = 1
switch_number false = 0

sticky_within : (b : Bool) → IsNumberWithin (record { digits = 19; most = 2 }) (sticky_field b) (sticky_number b)
sticky_within true = two_within
sticky_within false = one_within 19 2 (omega arith) (omega arith)

switch_within : (b : Bool) → IsNumberWithin (record { digits = 19; most = 1 }) (switch_field b) (switch_number b)
switch_within true = one_within 19 1 (omega arith) (omega arith)
switch_within false = zero_within 19 1 (omega arith)

sticky_plain : (b : Bool) → Lacks 59 (sticky_field b)
sticky_plain true = (refl, tt)
sticky_plain false = (refl, tt)

switch_plain : (b : Bool) → Lacks 59 (switch_field b)
switch_plain true = (refl, tt)
switch_plain false = (refl, tt)

sticky_utf8 : (b : Bool) → IsUtf8 (sticky_field b)
sticky_utf8 true = small_utf8 (codes "2") refl
sticky_utf8 false = small_utf8 (codes "1") refl

switch_utf8 : (b : Bool) → IsUtf8 (switch_field b)
switch_utf8 true = small_utf8 (codes "1") refl
switch_utf8 false = small_utf8 (codes "0") refl

zero_utf8 : IsUtf8 (codes "0")
zero_utf8 = small_utf8 (codes "0") refl

empty_utf8 : IsUtf8 []
empty_utf8 = small_utf8 [] refl

abbrev ack_texts : Bool → Bool → List (List ℕ)
ack_texts sticky notify = sticky_field sticky ∷ switch_field notify ∷ codes "0" ∷ [] ∷ [] ∷ []

ack_text : (sticky notify : Bool) → fields_text (event.Ack sticky notify) ≡ behind_marks (ack_texts sticky notify)
ack_text true true = refl
ack_text true false = refl
ack_text false true = refl
ack_text false false = refl

ack_again : (sticky notify : Bool) (last : List ℕ) → event_of (kind_of command.AcknowledgeHost) (sticky_number sticky ∷ switch_number notify ∷ 0 ∷ []) last ≡ event.Ack sticky notify
ack_again true true last = refl
ack_again true false last = refl
ack_again false true last = refl
ack_again false false last = refl

pub host_ack : (sticky notify : Bool) → Says command.AcknowledgeHost (event.Ack sticky notify)
host_ack sticky notify = record {
  texts = ack_texts sticky notify;
  numbers = sticky_number sticky ∷ switch_number notify ∷ 0 ∷ [];
  text_is = ack_text sticky notify;
  plain = (sticky_plain sticky, (switch_plain notify, ((refl, tt), (tt, tt))));
  count = refl;
  takes = λ check. refl;
  values = (sticky_within sticky, (switch_within notify, (zero_within 19 1 (omega arith), tt)));
  span = refl;
  utf8 = (sticky_utf8 sticky, (switch_utf8 notify, (zero_utf8, (empty_utf8, (empty_utf8, tt)))));
  event = λ fs e. ack_again sticky notify (field fs (count_of command.AcknowledgeHost - 1));
}

-- ---- downtimes

abbrev down_texts : ℕ → ℕ → Bool → ℕ → List (List ℕ)
down_texts start finish fixed duration = decimal start ∷ decimal finish ∷ switch_field fixed ∷ codes "0" ∷ decimal duration ∷ [] ∷ [] ∷ []

abbrev down_numbers : ℕ → ℕ → Bool → ℕ → List ℕ
down_numbers start finish fixed duration = start ∷ finish ∷ switch_number fixed ∷ 0 ∷ duration ∷ []

down_text : (start finish : ℕ) (fixed : Bool) (duration : ℕ) → fields_text (event.Down start finish fixed duration) ≡ behind_marks (down_texts start finish fixed duration)
down_text start finish true duration = refl
down_text start finish false duration = refl

duration_few : (fixed : Bool) (duration : ℕ) → IsDuration fixed duration → duration ≤ 99999999999
duration_few true duration h = omega (arith, h)
duration_few false duration h = h.1

duration_within : (fixed : Bool) (duration : ℕ) → IsDuration fixed duration → IsNumberWithin (record { digits = 19; most = 99999999999 }) (decimal duration) duration
duration_within fixed duration h = let few = duration_few fixed duration h in number_within 19 99999999999 duration 11 (omega arith) (omega (arith, few)) (omega arith) (omega (arith, few)) few

below : (a b : ℕ) → a < b → nat_lt a b ≡ true
below a b h = grind (arith, nat_tests, h)

down_span : (start finish : ℕ) (fixed : Bool) (duration : ℕ) → start < finish → IsDuration fixed duration → has_span (kind_of command.HostDowntime) (down_numbers start finish fixed duration) ≡ true
down_span start finish true duration h k = ap (λ t. t && true) (below start finish h)
down_span start finish false duration h k = ap (λ t. t && (false || nat_lt 0 duration)) (below start finish h) ∙ below 0 duration k.0

down_again : (start finish : ℕ) (fixed : Bool) (duration : ℕ) (last : List ℕ) → IsDuration fixed duration → event_of (kind_of command.HostDowntime) (down_numbers start finish fixed duration) last ≡ event.Down start finish fixed duration
down_again start finish true duration last h = ap (λ n. event.Down start finish true n) (sym h)
down_again start finish false duration last h = refl

pub host_down : (start finish : ℕ) (fixed : Bool) (duration : ℕ) → start < finish → finish ≤ 99999999999 → IsDuration fixed duration → Says command.HostDowntime (event.Down start finish fixed duration)
host_down start finish fixed duration h few k =
    let early : start ≤ 99999999999 = omega (arith, h, few) in
    let short : duration ≤ 99999999999 = duration_few fixed duration k in
    record {
      texts = down_texts start finish fixed duration;
      numbers = down_numbers start finish fixed duration;
      text_is = down_text start finish fixed duration;
      plain = (moment_plain start early, (moment_plain finish few, (switch_plain fixed, ((refl, tt), (moment_plain duration short, (tt, tt))))));
      count = refl;
      takes = λ check. refl;
      values = (moment_within start early, (moment_within finish few, (switch_within fixed, (zero_within 19 0 (omega arith), (duration_within fixed duration k, tt)))));
      span = down_span start finish fixed duration h k;
      utf8 = (moment_text start early, (moment_text finish few, (switch_utf8 fixed, (zero_utf8, (moment_text duration short, (empty_utf8, (empty_utf8, tt)))))));
      event = λ fs e. down_again start finish fixed duration (field fs (count_of command.HostDowntime - 1)) k;
    }

undown_text : (number : ℕ) → fields_text (event.Undown number) ≡ behind_marks (decimal number ∷ [])
undown_text number = ap (λ bs. 59 ∷ bs) (sym (append-nil (decimal number)))

any_within : (n : ℕ) → n ≤ 9999999999999999999 → IsNumberWithin (record { digits = 19; most = 9999999999999999999 }) (decimal n) n
any_within n h = number_within 19 9999999999999999999 n 19 (omega arith) (omega (arith, h)) (omega arith) (omega (arith, h)) h

pub host_undown : (number : ℕ) → number ≤ 9999999999999999999 → Says command.EndHostDowntime (event.Undown number)
host_undown number h = record {
  texts = decimal number ∷ [];
  numbers = number ∷ [];
  text_is = undown_text number;
  plain = decimal_plain number (omega (arith, h));
  count = refl;
  takes = λ check. refl;
  values = (any_within number h, tt);
  span = refl;
  utf8 = (decimal_text number (omega (arith, h)), tt);
  event = λ fs e. refl;
}

-- ---- of services as of hosts

-- a command of one kind with another says the same, where its texts don't count
like : (c d : Command) (e : Event) → kind_of c ≡ kind_of d → (y : Says d e) → ((last : List ℕ) → event_of (kind_of d) y.numbers last ≡ e) → Says c e
like c d e same y again = record {
  texts = y.texts;
  numbers = y.numbers;
  text_is = y.text_is;
  plain = subst (λ k. ArePlain (nat_lt 0 (texts_of k)) y.texts) (sym same) y.plain;
  count = y.count ∙ sym (ap (λ k. length (limits_of k) + texts_of k) same);
  values = subst (λ k. AreNumbers (limits_of k) y.texts y.numbers) (sym same) y.values;
  span = ap (λ k. has_span k y.numbers) same ∙ y.span;
  utf8 = y.utf8;
  takes = λ check. ap (λ k. is_open_to k (Some check)) same ∙ y.takes check;
  event = λ fs h. ap (λ k. event_of k y.numbers (field fs (count_of c - 1))) same ∙ again (field fs (count_of c - 1));
}

-- ---- all of them

-- the command that a log tells of an event of a host, or else of a service, with its fields
pub record Told (service : Bool) (e : Event) : Type 0 where
  pub command : Command
  pub is : command_for e service ≡ Some command
  pub names : names_service command ≡ service
  pub says : Says command e

bare : (c : Command) (service : Bool) (e : Event) → command_for e service ≡ Some c → names_service c ≡ service → ends_in_text c ≡ false → limits_of (kind_of c) ≡ [] → texts_of (kind_of c) ≡ 0 → fields_text e ≡ [] → has_span (kind_of c) [] ≡ true
    → ((last : List ℕ) → event_of (kind_of c) [] last ≡ e) → ((check : PlainCheck) → is_open_to (kind_of c) (Some check) ≡ takes_event check e) → Told service e
bare c service e is names last none no_text text span again takes = record { command = c; is = is; names = names; says = alone c e last none no_text text span again takes }

pub host_told : (e : Event) → IsInRange None e → Told false e
host_told (event.Result status true output perf) h = record { command = command.HostResult; is = refl; names = refl; says = host_result status output perf h.1.0 h.1.1 h.2 }
host_told (event.Result status false output perf) h = absurd (let f : false ≡ true = h.0 in cc)
host_told event.Tick h = absurd h
host_told (event.Ack sticky notify) h = record { command = command.AcknowledgeHost; is = refl; names = refl; says = host_ack sticky notify }
host_told event.Unack h = bare command.UnacknowledgeHost false event.Unack refl refl refl refl refl refl refl (λ last. refl) (λ check. refl)
host_told (event.Down start finish fixed duration) h = record { command = command.HostDowntime; is = refl; names = refl; says = host_down start finish fixed duration h.0 h.1 h.2 }
host_told (event.Undown number) h = record { command = command.EndHostDowntime; is = refl; names = refl; says = host_undown number h }
host_told (event.Checks true) h = bare command.HostChecksOn false (event.Checks true) refl refl refl refl refl refl refl (λ last. refl) (λ check. refl)
host_told (event.Checks false) h = bare command.HostChecksOff false (event.Checks false) refl refl refl refl refl refl refl (λ last. refl) (λ check. refl)
host_told (event.Notes true) h = bare command.HostNotesOn false (event.Notes true) refl refl refl refl refl refl refl (λ last. refl) (λ check. refl)
host_told (event.Notes false) h = bare command.HostNotesOff false (event.Notes false) refl refl refl refl refl refl refl (λ last. refl) (λ check. refl)
host_told (event.Check moment true) h = record { command = command.ForcedHostCheck; is = refl; names = refl; says = forced_host_check moment h }
host_told (event.Check moment false) h = record { command = command.HostCheck; is = refl; names = refl; says = host_check moment h }

pub service_told : (host : ℕ) (e : Event) → IsInRange (Some host) e → Told true e
unfolding host_ack host_down host_undown host_check forced_host_check
service_told host (event.Result status true output perf) h = record { command = command.ServiceResult; is = refl; names = refl; says = service_result status output perf h.1 h.2 }
service_told host (event.Result status false output perf) h = absurd (let f : false ≡ true = h.0 in cc)
service_told host event.Tick h = absurd h
service_told host (event.Ack sticky notify) h = record { command = command.AcknowledgeService; is = refl; names = refl; says = like command.AcknowledgeService command.AcknowledgeHost (event.Ack sticky notify) refl (host_ack sticky notify) (ack_again sticky notify) }
service_told host event.Unack h = bare command.UnacknowledgeService true event.Unack refl refl refl refl refl refl refl (λ last. refl) (λ check. refl)
service_told host (event.Down start finish fixed duration) h = record { command = command.ServiceDowntime; is = refl; names = refl; says = like command.ServiceDowntime command.HostDowntime (event.Down start finish fixed duration) refl (host_down start finish fixed duration h.0 h.1 h.2) (λ last. down_again start finish fixed duration last h.2) }
service_told host (event.Undown number) h = record { command = command.EndServiceDowntime; is = refl; names = refl; says = like command.EndServiceDowntime command.EndHostDowntime (event.Undown number) refl (host_undown number h) (λ last. refl) }
service_told host (event.Checks true) h = bare command.ServiceChecksOn true (event.Checks true) refl refl refl refl refl refl refl (λ last. refl) (λ check. refl)
service_told host (event.Checks false) h = bare command.ServiceChecksOff true (event.Checks false) refl refl refl refl refl refl refl (λ last. refl) (λ check. refl)
service_told host (event.Notes true) h = bare command.ServiceNotesOn true (event.Notes true) refl refl refl refl refl refl refl (λ last. refl) (λ check. refl)
service_told host (event.Notes false) h = bare command.ServiceNotesOff true (event.Notes false) refl refl refl refl refl refl refl (λ last. refl) (λ check. refl)
service_told host (event.Check moment true) h = record { command = command.ForcedServiceCheck; is = refl; names = refl; says = like command.ForcedServiceCheck command.ForcedHostCheck (event.Check moment true) refl (forced_host_check moment h) (λ last. refl) }
service_told host (event.Check moment false) h = record { command = command.ServiceCheck; is = refl; names = refl; says = like command.ServiceCheck command.HostCheck (event.Check moment false) refl (host_check moment h) (λ last. refl) }
