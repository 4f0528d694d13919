-- The line of a downtime is read again as what it tells.
use Rattle.std.proofs.Common.{◌≡◌, ℕ, zero, suc, ◌<◌, ◌≤◌, ◌^◌, ◌==◌, ◌&&◌, ◌||◌, not, lit<, nat_lt, Bool, true, false, cond, List, [], ◌∷◌, ◌++◌, length, drop, ◌-◌, slice_get, slice_index, codes, refl, sym, ap, ◌∙◌, subst, arith, append_assoc, Option, Some, None, true≢false}
use Rattle.std.proofs.lemmas.Bool.Decides.{nat_tests}
use Rattle.std.proofs.lemmas.Fmt.{decimal_is_IsNumeral, length-decimal-le, decimal_digit}
use Rattle.std.proofs.lemmas.Str.{IsUtf8-append, IsUtf8-from_ascii}
use Rattle.std.specs.Fmt.{decimal}
use Rattle.std.specs.Char.{is_ascii_digit}
use Rattle.std.specs.List.{AllByRecursion, list_all, list_any}
use Rattle.std.specs.Str.{IsUtf8}
use Rattle.std.specs.Str.Parse.{digits_value}
use Rattle.site_model.specs.PlainSite.{PlainSite}
use Rattle.site_model.specs.declared.event.Event.TheVariants as event
use Rattle.event_text.proofs.CutLaws.{cut_sound, uncut_sound}
use Rattle.event_text.proofs.NumberLaws.{are_digits}
use Rattle.event_text.specs.Checkables.{IsNamed}
use Rattle.event_text.specs.Commands.{command_name}
use Rattle.event_text.specs.Cuts.{Cut, IsCut, cut, cut_at, uncut}
use Rattle.event_text.specs.Fields.{AreFields, field, semicolon}
use Rattle.event_text.specs.Kinds as kinds
use Rattle.event_text.specs.Lines.{Has, HasNumbers, IsAsked, IsHead, IsOf, bracket, faulty, told}
use Rattle.event_text.specs.Numbers.{AreNumbers, IsNumber, IsNumberWithin}
use Rattle.event_text.specs.declared.command.Command.{Command}
use Rattle.event_text.specs.declared.command.Command.TheVariants as command
use Rattle.event_text.specs.declared.line_fault.LineFault.TheVariants as fault
use Rattle.down_recur.specs.Lines.{field_text, fixed_text, line_text, names_text, numbers_text}
use Rattle.down_recur.specs.Readback.{IsBooking, IsUtf8OrNone, IsWritable, LinesTell, told_of}
use Rattle.down_recur.specs.Recurrings.{has_semicolon, is_nameable}
use Rattle.down_recur.specs.declared.booking.Booking.{Booking}
use Rattle.down_recur.specs.declared.recurring.Recurring.{Recurring}

-- ---- cuts

-- no byte of a front is the mark's first one
abbrev Lacks : ℕ → List ℕ → Type 0
Lacks m front = AllByRecursion (λ b. b ≡ m → ⊥) front

no_earlier : (m : ℕ) (ms front behind f c : List ℕ) → Lacks m front → front ++ ((m ∷ ms) ++ behind) ≡ f ++ ((m ∷ ms) ++ c) → length front ≤ length f
no_earlier m ms [] behind f c h e = omega arith
no_earlier m ms (b ∷ bs) behind [] c h e = let same : b ≡ m = cc in absurd (h.0 same)
no_earlier m ms (b ∷ bs) behind (x ∷ f) c h e =
    let rest : bs ++ ((m ∷ ms) ++ behind) ≡ f ++ ((m ∷ ms) ++ c) = ap (drop 1) e in
    let less = no_earlier m ms bs behind f c h.1 rest in
    omega arith

first_cut : (m : ℕ) (ms front behind : List ℕ) → Lacks m front → IsCut (m ∷ ms) (front ++ ((m ∷ ms) ++ behind)) front behind
first_cut m ms front behind h = record { whole = refl; first = λ f c e. no_earlier m ms front behind f c h e }

not_semicolon : (b : ℕ) → (b == 59) ≡ false → b ≡ 59 → ⊥
not_semicolon b e h = grind (arith, nat_tests)

-- a text without a semicolon
lacks_semicolon : (text : List ℕ) → has_semicolon text ≡ false → Lacks 59 text
lacks_semicolon [] e = tt
lacks_semicolon (b ∷ bs) e = by (λ k. lacks_semicolon bs k) (b == 59) refl e
  where
    by : (has_semicolon bs ≡ false → Lacks 59 bs) → (t : Bool) → (b == 59) ≡ t → (t || has_semicolon bs) ≡ false → Lacks 59 (b ∷ bs)
    by rest true h e = absurd (true≢false e)
    by rest false h e = (not_semicolon b h, rest e)

-- digits lack whatever is no digit
no_digit : (m b : ℕ) → 57 < m → is_ascii_digit b ≡ true → b ≡ m → ⊥
no_digit m b h t e = grind (arith, nat_tests)

lacks_digit : (m : ℕ) (bs : List ℕ) → 57 < m → list_all is_ascii_digit bs ≡ true → Lacks m bs
lacks_digit m [] h k = tt
lacks_digit m (b ∷ bs) h k = by (λ d. lacks_digit m bs h d) (is_ascii_digit b) refl k
  where
    by : (list_all is_ascii_digit bs ≡ true → Lacks m bs) → (t : Bool) → is_ascii_digit b ≡ t → (t && list_all is_ascii_digit bs) ≡ true → Lacks m (b ∷ bs)
    by rest true d k = (no_digit m b h d, rest k)
    by rest false d k = absurd (true≢false (sym k))

decimal_digits : (n : ℕ) → n < 2 ^ 64 → list_all is_ascii_digit (decimal n) ≡ true
decimal_digits n h = are_digits (decimal n) (decimal_is_IsNumeral n h).0.1

-- ---- fields

-- fields, each with its semicolon, before a text
abbrev fields_text : List (List ℕ) → List ℕ → List ℕ
fields_text [] last = last
fields_text (f ∷ fs) last = f ++ (59 ∷ fields_text fs last)

abbrev AllLack : List (List ℕ) → Type 0
AllLack fs = AllByRecursion (Lacks 59) fs

are_fields : (fs : List (List ℕ)) (last f g : List ℕ) → AllLack fs → IsCut semicolon last f g → AreFields true (fs ++ f ∷ g ∷ []) (fields_text fs last)
are_fields [] last f g h k = (g, k, refl)
are_fields (x ∷ []) last f g h k = (last, first_cut 59 [] x last h.0, are_fields [] last f g tt k)
are_fields (x ∷ y ∷ fs) last f g h k = (fields_text (y ∷ fs) last, first_cut 59 [] x (fields_text (y ∷ fs) last) h.0, are_fields (y ∷ fs) last f g h.1 k)

-- author and comment are two fields, wherever the first semicolon is
record InTwo (text : List ℕ) : Type 0 where
  front : List ℕ
  behind : List ℕ
  is : IsCut semicolon text front behind

in_two : (author comment : List ℕ) → InTwo (author ++ (59 ∷ comment))
in_two author comment = by (cut_at semicolon (author ++ (59 ∷ comment))) refl
  where
    by : (r : Cut) → cut_at semicolon (author ++ (59 ∷ comment)) ≡ r → InTwo (author ++ (59 ∷ comment))
    by (cut f g) e = record { front = f; behind = g; is = cut_sound semicolon (author ++ (59 ∷ comment)) f g e }
    by uncut e = absurd (uncut_sound semicolon (author ++ (59 ∷ comment)) (lit< tt) e author comment refl)

-- ---- numbers

digits_of : (n k most : ℕ) → 0 < k → n < 10 ^ k → n < 2 ^ 64 → k ≤ most → IsNumber most (decimal n)
digits_of n k most some few fits digits =
    let is = decimal_is_IsNumeral n fits in
    let long = length-decimal-le k n some few fits in
    record { digits = is.0; few = omega arith }

value_of : (n : ℕ) → n < 2 ^ 64 → digits_value 10 (decimal n) ≡ n
value_of n fits = (decimal_is_IsNumeral n fits).1

moment_number : (n : ℕ) → n ≤ 99999999999 → IsNumberWithin kinds.moment (decimal n) n
moment_number n h = record { number = digits_of n 11 11 (omega arith) (omega arith) (omega arith) (omega arith); value = value_of n (omega arith); within = h }

duration_number : (n : ℕ) → n ≤ 99999999999 → IsNumberWithin kinds.duration (decimal n) n
duration_number n h = record { number = digits_of n 11 19 (omega arith) (omega arith) (omega arith) (omega arith); value = value_of n (omega arith); within = h }

one : decimal 1 ≡ codes "1"
one = decimal_digit 1 (omega arith)

none : decimal 0 ≡ codes "0"
none = decimal_digit 0 (omega arith)

abbrev fixed_number : Bool → ℕ
fixed_number true = 1
fixed_number false = 0

switch_number : (fixed : Bool) → IsNumberWithin kinds.switch (fixed_text fixed) (fixed_number fixed)
switch_number true = subst (λ t. IsNumberWithin kinds.switch t 1) one (record { number = digits_of 1 1 19 (omega arith) (omega arith) (omega arith) (omega arith); value = value_of 1 (omega arith); within = omega arith })
switch_number false = subst (λ t. IsNumberWithin kinds.switch t 0) none (record { number = digits_of 0 1 19 (omega arith) (omega arith) (omega arith) (omega arith); value = value_of 0 (omega arith); within = omega arith })

nothing_number : IsNumberWithin kinds.nothing (codes "0") 0
nothing_number = subst (λ t. IsNumberWithin kinds.nothing t 0) none (record { number = digits_of 0 1 19 (omega arith) (omega arith) (omega arith) (omega arith); value = value_of 0 (omega arith); within = omega arith })

abbrev number_texts : Booking → List (List ℕ)
number_texts b = decimal b.start ∷ decimal b.«end» ∷ fixed_text b.fixed ∷ codes "0" ∷ decimal b.duration ∷ []

abbrev numbers : Booking → List ℕ
numbers b = b.start ∷ b.«end» ∷ fixed_number b.fixed ∷ 0 ∷ b.duration ∷ []

are_numbers : (b : Booking) (more : List (List ℕ)) → IsBooking b → AreNumbers (kinds.limits_of (kinds.kind_of command.HostDowntime)) (number_texts b ++ more) (numbers b)
are_numbers b more h =
    (moment_number b.start (omega (arith, h.starts, h.ends)), (moment_number b.«end» h.ends, (switch_number b.fixed, (nothing_number, (duration_number b.duration h.lasts, tt)))))

fixed_lacks : (fixed : Bool) → Lacks 59 (fixed_text fixed)
fixed_lacks true = (λ e. absurd (omega arith), tt)
fixed_lacks false = (λ e. absurd (omega arith), tt)

zero_lacks : Lacks 59 (codes "0")
zero_lacks = (λ e. absurd (omega arith), tt)

number_lacks : (n : ℕ) → n ≤ 99999999999 → Lacks 59 (decimal n)
number_lacks n h = lacks_digit 59 (decimal n) (omega arith) (decimal_digits n (omega arith))

all_lack : (b : Booking) → IsBooking b → AllLack (number_texts b)
all_lack b h =
    (number_lacks b.start (omega (arith, h.starts, h.ends)), (number_lacks b.«end» h.ends, (fixed_lacks b.fixed, (zero_lacks, (number_lacks b.duration h.lasts, tt)))))

-- ---- texts

digit_small : (b : ℕ) → is_ascii_digit b ≡ true → b < 128
digit_small b e = grind (arith, nat_tests)

ascii_digits : (bs : List ℕ) → list_all is_ascii_digit bs ≡ true → (i : ℕ) → slice_index bs i < 128
ascii_digits [] h i = omega arith
ascii_digits (b ∷ bs) h i = by (λ d j. ascii_digits bs d j) (is_ascii_digit b) refl h i
  where
    by : (list_all is_ascii_digit bs ≡ true → (j : ℕ) → slice_index bs j < 128) → (t : Bool) → is_ascii_digit b ≡ t → (t && list_all is_ascii_digit bs) ≡ true → (i : ℕ) → slice_index (b ∷ bs) i < 128
    by rest true d h zero = digit_small b d
    by rest true d h (suc i) = rest h i
    by rest false d h i = absurd (true≢false (sym h))

decimal_text : (n : ℕ) → n < 2 ^ 64 → IsUtf8 (decimal n)
decimal_text n h = IsUtf8-from_ascii (decimal n) (ascii_digits (decimal n) (decimal_digits n h))

-- what is below 128 is text
small_texts : (bs : List ℕ) → list_all (λ b. nat_lt b 128) bs ≡ true → (i : ℕ) → slice_index bs i < 128
small_texts [] h i = omega arith
small_texts (b ∷ bs) h i = by (λ d j. small_texts bs d j) (nat_lt b 128) refl h i
  where
    below : nat_lt b 128 ≡ true → b < 128
    below e = grind (arith, nat_tests)

    by : (list_all (λ c. nat_lt c 128) bs ≡ true → (j : ℕ) → slice_index bs j < 128) → (t : Bool) → nat_lt b 128 ≡ t → (t && list_all (λ c. nat_lt c 128) bs) ≡ true → (i : ℕ) → slice_index (b ∷ bs) i < 128
    by rest true d h zero = below d
    by rest true d h (suc i) = rest h i
    by rest false d h i = absurd (true≢false (sym h))

small_utf8 : (bs : List ℕ) → list_all (λ b. nat_lt b 128) bs ≡ true → IsUtf8 bs
small_utf8 bs h = IsUtf8-from_ascii bs (small_texts bs h)

field_utf8 : (f : List ℕ) → IsUtf8 f → IsUtf8 (field_text f)
field_utf8 f h = IsUtf8-append f (codes ";") h (small_utf8 (codes ";") refl)

fixed_utf8 : (fixed : Bool) → IsUtf8 (fixed_text fixed)
fixed_utf8 true = small_utf8 (codes "1") refl
fixed_utf8 false = small_utf8 (codes "0") refl

both : (a b : List ℕ) → IsUtf8 a → IsUtf8 b → IsUtf8 (a ++ b)
both a b h k = IsUtf8-append a b h k

numbers_utf8 : (b : Booking) → IsBooking b → IsUtf8 (numbers_text b)
numbers_utf8 b h =
    both (field_text (decimal b.start) ++ field_text (decimal b.«end») ++ field_text (fixed_text b.fixed) ++ field_text (codes "0")) (field_text (decimal b.duration))
    (both (field_text (decimal b.start) ++ field_text (decimal b.«end») ++ field_text (fixed_text b.fixed)) (field_text (codes "0"))
    (both (field_text (decimal b.start) ++ field_text (decimal b.«end»)) (field_text (fixed_text b.fixed))
    (both (field_text (decimal b.start)) (field_text (decimal b.«end»)) (field_utf8 (decimal b.start) (decimal_text b.start (omega (arith, h.starts, h.ends)))) (field_utf8 (decimal b.«end») (decimal_text b.«end» (omega (arith, h.ends)))))
    (field_utf8 (fixed_text b.fixed) (fixed_utf8 b.fixed)))
    (field_utf8 (codes "0") (small_utf8 (codes "0") refl)))
    (field_utf8 (decimal b.duration) (decimal_text b.duration (omega (arith, h.lasts))))

names_utf8 : (host : List ℕ) (service : Option (List ℕ)) → IsUtf8 host → IsUtf8OrNone service → IsUtf8 (names_text host service)
names_utf8 host None h k = both (field_text (command_name command.HostDowntime)) (field_text host) (field_utf8 (command_name command.HostDowntime) (small_utf8 (command_name command.HostDowntime) refl)) (field_utf8 host h)
names_utf8 host (Some service) h k =
    both (field_text (command_name command.ServiceDowntime) ++ field_text host) (field_text service)
    (both (field_text (command_name command.ServiceDowntime)) (field_text host) (field_utf8 (command_name command.ServiceDowntime) (small_utf8 (command_name command.ServiceDowntime) refl)) (field_utf8 host h))
    (field_utf8 service k)

-- what stands behind the moment
abbrev behind_moment : Recurring → Booking → List ℕ
behind_moment r b = names_text r.host r.service ++ numbers_text b ++ field_text r.author ++ r.comment

behind_utf8 : (s : PlainSite) (k : ℕ) (r : Recurring) (b : Booking) → IsWritable s k r → IsBooking b → IsUtf8 (behind_moment r b)
behind_utf8 s k r b w h =
    both (names_text r.host r.service ++ numbers_text b ++ field_text r.author) r.comment
    (both (names_text r.host r.service ++ numbers_text b) (field_text r.author)
    (both (names_text r.host r.service) (numbers_text b) (names_utf8 r.host r.service w.host_text w.service_text) (numbers_utf8 b h))
    (field_utf8 r.author w.author_text))
    w.comment_text

nested : (a b c d e f : List ℕ) → a ++ b ++ c ++ d ++ e ++ f ≡ a ++ (b ++ (c ++ d ++ e ++ f))
nested a b c d e f = simp append_assoc

-- the line with its head in front
headed : (moment : ℕ) (r : Recurring) (b : Booking) → line_text moment r b ≡ 91 ∷ (decimal moment ++ (bracket ++ behind_moment r b))
headed moment r b = ap (λ l. 91 ∷ l) (nested (decimal moment) bracket (names_text r.host r.service) (numbers_text b) (field_text r.author) r.comment)

line_utf8 : (s : PlainSite) (moment k : ℕ) (r : Recurring) (b : Booking) → moment ≤ 99999999999 → IsWritable s k r → IsBooking b → IsUtf8 (line_text moment r b)
line_utf8 s moment k r b m w h =
    subst IsUtf8 (sym (headed moment r b))
    (both (codes "[") (decimal moment ++ (bracket ++ behind_moment r b)) (small_utf8 (codes "[") refl)
    (both (decimal moment) (bracket ++ behind_moment r b) (decimal_text moment (omega arith))
    (both bracket (behind_moment r b) (small_utf8 bracket refl) (behind_utf8 s k r b w h))))

-- ---- the command

head_is : (moment : ℕ) (r : Recurring) (b : Booking) → moment ≤ 99999999999 → IsHead (line_text moment r b) (decimal moment) (behind_moment r b)
head_is moment r b m = record {
  inner = decimal moment ++ (bracket ++ behind_moment r b);
  opened = headed moment r b;
  closed = first_cut 93 (32 ∷ []) (decimal moment) (behind_moment r b) (lacks_digit 93 (decimal moment) (omega arith) (decimal_digits moment (omega arith)));
}

time_is : (moment : ℕ) → moment ≤ 99999999999 → IsNumber 11 (decimal moment)
time_is moment m = (moment_number moment m).number

-- the fields behind the names, and then author and comment
abbrev texts_behind : Recurring → List ℕ
texts_behind r = r.author ++ (59 ∷ r.comment)

host_fields : (r : Recurring) (b : Booking) → names_text r.host None ++ numbers_text b ++ field_text r.author ++ r.comment ≡ command_name command.HostDowntime ++ (59 ∷ fields_text (r.host ∷ number_texts b) (texts_behind r))
host_fields r b = simp append_assoc

service_fields : (r : Recurring) (service : List ℕ) (b : Booking) → names_text r.host (Some service) ++ numbers_text b ++ field_text r.author ++ r.comment ≡ command_name command.ServiceDowntime ++ (59 ∷ fields_text (r.host ∷ service ∷ number_texts b) (texts_behind r))
service_fields r service b = simp append_assoc

name_lacks : (c : Command) → list_any (λ b. b == 59) (command_name c) ≡ false → Lacks 59 (command_name c)
name_lacks c e = lacks_semicolon (command_name c) e

not_true : (b : Bool) → not b ≡ true → b ≡ false
not_true true e = sym e
not_true false e = refl

-- ---- what it tells

-- a flexible one, with or without a duration
flexible : (s : PlainSite) (k : ℕ) (c : Command) (line : List ℕ) (fs : List (List ℕ)) (start finish duration : ℕ) (some : Bool) → nat_lt 0 duration ≡ some → kinds.kind_of c ≡ kinds.kind_of command.HostDowntime → IsAsked line c fs → IsOf s c fs k
    → HasNumbers c fs (start ∷ finish ∷ 0 ∷ 0 ∷ duration ∷ []) → nat_lt start finish ≡ true → Has s line (cond some (told k (event.Down start finish false duration)) (faulty fault.BadSpan))
flexible s k c line fs start finish duration true t e asked named values before =
    record {
      command = c;
      fields = fs;
      numbers = start ∷ finish ∷ 0 ∷ 0 ∷ duration ∷ [];
      asked = asked;
      named = named;
      values = values;
      span = ap (λ q. kinds.has_span q (start ∷ finish ∷ 0 ∷ 0 ∷ duration ∷ [])) e ∙ ap (λ x. x && nat_lt 0 duration) before ∙ t;
      taken = ap (λ q. kinds.is_open_to q (slice_get s.checkables k)) e;
      event = ap (λ q. kinds.event_of q (start ∷ finish ∷ 0 ∷ 0 ∷ duration ∷ []) (field fs (kinds.count_of c - 1))) (sym e);
    }
flexible s k c line fs start finish duration false t e asked named values before =
    (c, fs, k, start ∷ finish ∷ 0 ∷ 0 ∷ duration ∷ [], asked, named, values, ap (λ q. kinds.has_span q (start ∷ finish ∷ 0 ∷ 0 ∷ duration ∷ [])) e ∙ ap (λ x. x && nat_lt 0 duration) before ∙ t)

tell : (s : PlainSite) (k : ℕ) (c : Command) (line : List ℕ) (fs : List (List ℕ)) (start finish : ℕ) (fixed : Bool) (duration : ℕ) → kinds.kind_of c ≡ kinds.kind_of command.HostDowntime → IsAsked line c fs → IsOf s c fs k
    → HasNumbers c fs (start ∷ finish ∷ fixed_number fixed ∷ 0 ∷ duration ∷ []) → nat_lt start finish ≡ true → (fixed ≡ true → duration ≡ 0) → Has s line (told_of k (record { start = start; «end» = finish; fixed = fixed; duration = duration }))
tell s k c line fs start finish true duration e asked named values before zero_if =
    record {
      command = c;
      fields = fs;
      numbers = start ∷ finish ∷ 1 ∷ 0 ∷ duration ∷ [];
      asked = asked;
      named = named;
      values = values;
      span = ap (λ q. kinds.has_span q (start ∷ finish ∷ 1 ∷ 0 ∷ duration ∷ [])) e ∙ ap (λ x. x && true) before;
      taken = ap (λ q. kinds.is_open_to q (slice_get s.checkables k)) e;
      event = ap (λ d. event.Down start finish true d) (zero_if refl) ∙ ap (λ q. kinds.event_of q (start ∷ finish ∷ 1 ∷ 0 ∷ duration ∷ []) (field fs (kinds.count_of c - 1))) (sym e);
    }
tell s k c line fs start finish false duration e asked named values before zero_if =
    flexible s k c line fs start finish duration (nat_lt 0 duration) refl e asked named values before

begins_before : (start finish : ℕ) → start < finish → nat_lt start finish ≡ true
begins_before start finish h = grind (arith, nat_tests)

pub lines_tell : LinesTell
lines_tell s moment k r b m w h = by r.service refl
  where
    two : InTwo (texts_behind r)
    two = in_two r.author r.comment

    host_asked : r.service ≡ None → IsAsked (line_text moment r b) command.HostDowntime (r.host ∷ number_texts b ++ two.front ∷ two.behind ∷ [])
    host_asked e = record {
      fields = Some (fields_text (r.host ∷ number_texts b) (texts_behind r));
      is = record {
        moment = decimal moment;
        command = behind_moment r b;
        text = line_utf8 s moment k r b m w h;
        head = head_is moment r b m;
        in_time = time_is moment m;
        has_name = subst (λ t. IsCut semicolon t (command_name command.HostDowntime) (fields_text (r.host ∷ number_texts b) (texts_behind r)))
            (sym (ap (λ o. names_text r.host o ++ numbers_text b ++ field_text r.author ++ r.comment) e ∙ host_fields r b))
            (first_cut 59 [] (command_name command.HostDowntime) (fields_text (r.host ∷ number_texts b) (texts_behind r)) (name_lacks command.HostDowntime refl));
      };
      parts = (are_fields (r.host ∷ number_texts b) (texts_behind r) two.front two.behind (lacks_semicolon r.host w.host, all_lack b h) two.is, refl);
    }

    service_asked : (service : List ℕ) → r.service ≡ Some service → has_semicolon service ≡ false → IsAsked (line_text moment r b) command.ServiceDowntime (r.host ∷ service ∷ number_texts b ++ two.front ∷ two.behind ∷ [])
    service_asked service e plain = record {
      fields = Some (fields_text (r.host ∷ service ∷ number_texts b) (texts_behind r));
      is = record {
        moment = decimal moment;
        command = behind_moment r b;
        text = line_utf8 s moment k r b m w h;
        head = head_is moment r b m;
        in_time = time_is moment m;
        has_name = subst (λ t. IsCut semicolon t (command_name command.ServiceDowntime) (fields_text (r.host ∷ service ∷ number_texts b) (texts_behind r)))
            (sym (ap (λ o. names_text r.host o ++ numbers_text b ++ field_text r.author ++ r.comment) e ∙ service_fields r service b))
            (first_cut 59 [] (command_name command.ServiceDowntime) (fields_text (r.host ∷ service ∷ number_texts b) (texts_behind r)) (name_lacks command.ServiceDowntime refl));
      };
      parts = (are_fields (r.host ∷ service ∷ number_texts b) (texts_behind r) two.front two.behind (lacks_semicolon r.host w.host, (lacks_semicolon service plain, all_lack b h)) two.is, refl);
    }

    plain_service : (service : List ℕ) → r.service ≡ Some service → has_semicolon service ≡ false
    plain_service service e = not_true (has_semicolon service) (sym (ap is_nameable e) ∙ w.service)

    by : (o : Option (List ℕ)) → r.service ≡ o → Has s (line_text moment r b) (told_of k b)
    by None e =
        tell s k command.HostDowntime (line_text moment r b) (r.host ∷ number_texts b ++ two.front ∷ two.behind ∷ []) b.start b.«end» b.fixed b.duration refl (host_asked e)
        (subst (λ o. IsNamed s r.host o k) e w.named) (are_numbers b (two.front ∷ two.behind ∷ []) h) (begins_before b.start b.«end» h.starts) h.fixed
    by (Some service) e =
        tell s k command.ServiceDowntime (line_text moment r b) (r.host ∷ service ∷ number_texts b ++ two.front ∷ two.behind ∷ []) b.start b.«end» b.fixed b.duration refl (service_asked service e (plain_service service e))
        (subst (λ o. IsNamed s r.host o k) e w.named) (are_numbers b (two.front ∷ two.behind ∷ []) h) (begins_before b.start b.«end» h.starts) h.fixed
