-- Lines of a command with its fields.
use Rattle.std.proofs.Common.{◌≡◌, ℕ, zero, suc, ◌<◌, ◌≤◌, ◌^◌, ◌==◌, ◌&&◌, ◌||◌, nat_lt, Bool, true, false, List, [], ◌∷◌, ◌++◌, length, codes, slice_index, refl, sym, ap, ◌∙◌, subst, arith, Some, true≢false}
use Rattle.std.proofs.lemmas.Bool.Decides.{nat_tests}
use Rattle.std.proofs.lemmas.Fmt.{decimal_is_IsNumeral, length-decimal-le}
use Rattle.std.proofs.lemmas.List.{append-nil}
use Rattle.std.proofs.lemmas.Str.{IsUtf8-append, IsUtf8-from_ascii, IsUtf8-nil}
use Rattle.std.specs.Char.{is_ascii_digit}
use Rattle.std.specs.Fmt.{decimal}
use Rattle.std.specs.List.{AllByRecursion, list_all, list_any}
use Rattle.std.specs.Str.{IsUtf8}
use Rattle.event_text.proofs.CutLaws.{cut_sound, uncut_sound}
use Rattle.event_text.proofs.NumberLaws.{are_digits}
use Rattle.event_text.specs.Commands.{command_name}
use Rattle.event_text.specs.Cuts.{IsCut, IsUncut}
use Rattle.event_text.specs.Fields.{AreFields, semicolon}
use Rattle.event_text.specs.Kinds.{count_of, ends_in_text}
use Rattle.event_text.specs.Lines.{IsAsked, bracket}
use Rattle.event_text.specs.Numbers.{IsNumber, IsNumberWithin}
use Rattle.event_text.specs.declared.command.Command.{Command}
use Rattle.event_text.specs.declared.command.Command.TheVariants as command
use Rattle.audit_laws.proofs.Bytes.{Lacks, lacks_uncut, lacks_cut}

-- ---- texts

small_texts : (bs : List ℕ) → list_all (λ b. nat_lt b 128) bs ≡ true → (i : ℕ) → slice_index bs i < 128
small_texts [] h i = omega arith
small_texts (b ∷ bs) h i = by (λ d j. small_texts bs d j) (nat_lt b 128) refl h i
  where
    below : nat_lt b 128 ≡ true → b < 128
    below e = grind (arith, nat_tests)

    by : (list_all (λ c. nat_lt c 128) bs ≡ true → (j : ℕ) → slice_index bs j < 128) → (t : Bool) → nat_lt b 128 ≡ t → (t && list_all (λ c. nat_lt c 128) bs) ≡ true → (i : ℕ) → slice_index (b ∷ bs) i < 128
    by rest true d h zero = below d
    by rest true d h (suc i) = rest h i
    by rest false d h i = absurd (true≢false (sym h))

pub small_utf8 : (bs : List ℕ) → list_all (λ b. nat_lt b 128) bs ≡ true → IsUtf8 bs
small_utf8 bs h = IsUtf8-from_ascii bs (small_texts bs h)

digit_small : (b : ℕ) → is_ascii_digit b ≡ true → nat_lt b 128 ≡ true
digit_small b e = grind (arith, nat_tests)

digit_plain : (b : ℕ) → is_ascii_digit b ≡ true → (b == 59) ≡ false
digit_plain b e = grind (arith, nat_tests)

digits_small : (bs : List ℕ) → list_all is_ascii_digit bs ≡ true → list_all (λ b. nat_lt b 128) bs ≡ true
digits_small [] h = refl
digits_small (b ∷ bs) h = by (λ k. digits_small bs k) (is_ascii_digit b) refl h
  where
    by : (list_all is_ascii_digit bs ≡ true → list_all (λ c. nat_lt c 128) bs ≡ true) → (t : Bool) → is_ascii_digit b ≡ t → (t && list_all is_ascii_digit bs) ≡ true → (nat_lt b 128 && list_all (λ c. nat_lt c 128) bs) ≡ true
    by rest true d k = ap (λ t. t && list_all (λ c. nat_lt c 128) bs) (digit_small b d) ∙ rest k
    by rest false d k = absurd (true≢false (sym k))

digits_plain : (bs : List ℕ) → list_all is_ascii_digit bs ≡ true → Lacks 59 bs
digits_plain [] h = tt
digits_plain (b ∷ bs) h = by (λ k. digits_plain bs k) (is_ascii_digit b) refl h
  where
    by : (list_all is_ascii_digit bs ≡ true → Lacks 59 bs) → (t : Bool) → is_ascii_digit b ≡ t → (t && list_all is_ascii_digit bs) ≡ true → Lacks 59 (b ∷ bs)
    by rest true d k = (digit_plain b d, rest k)
    by rest false d k = absurd (true≢false (sym k))

decimal_digits : (n : ℕ) → n < 2 ^ 64 → list_all is_ascii_digit (decimal n) ≡ true
decimal_digits n h = are_digits (decimal n) (decimal_is_IsNumeral n h).0.1

pub decimal_text : (n : ℕ) → n < 2 ^ 64 → IsUtf8 (decimal n)
decimal_text n h = small_utf8 (decimal n) (digits_small (decimal n) (decimal_digits n h))

pub decimal_plain : (n : ℕ) → n < 2 ^ 64 → Lacks 59 (decimal n)
decimal_plain n h = digits_plain (decimal n) (decimal_digits n h)

-- ---- numbers

pub number_within : (digits most n k : ℕ) → 0 < k → n < 10 ^ k → k ≤ digits → n < 2 ^ 64 → n ≤ most → IsNumberWithin (record { digits = digits; most = most }) (decimal n) n
number_within digits most n k some few enough fits within =
    let is = decimal_is_IsNumeral n fits in
    let long = length-decimal-le k n some few fits in
    record { number = record { digits = is.0; few = omega (arith, long, enough) }; value = is.1; within = within }

-- ---- fields

-- fields, each behind a semicolon
abbrev pub behind_marks : List (List ℕ) → List ℕ
behind_marks [] = []
behind_marks (f ∷ fs) = 59 ∷ (f ++ behind_marks fs)

-- no field holds a semicolon, unless it is a text that takes the rest
abbrev pub ArePlain : Bool → List (List ℕ) → Type 0
ArePlain t [] = Unit {0}
ArePlain true (f ∷ []) = Unit {0}
ArePlain false (f ∷ []) = Lacks 59 f
ArePlain t (f ∷ g ∷ fs) = Lacks 59 f × ArePlain t (g ∷ fs)

pub plain_cons : (t : Bool) (f : List ℕ) (fs : List (List ℕ)) → Lacks 59 f → ArePlain t fs → ArePlain t (f ∷ fs)
plain_cons true f [] h k = tt
plain_cons false f [] h k = h
plain_cons t f (g ∷ fs) h k = (h, k)

pub plain_uncut : (c : ℕ) (f : List ℕ) → Lacks c f → IsUncut (c ∷ []) f
plain_uncut c f h = uncut_sound (c ∷ []) f (omega arith) (lacks_uncut c f h)

pub plain_cut : (c : ℕ) (f rest : List ℕ) → Lacks c f → IsCut (c ∷ []) (f ++ c ∷ rest) f rest
plain_cut c f rest h = cut_sound (c ∷ []) (f ++ c ∷ rest) f rest (lacks_cut c f rest h)

pub are_fields : (t : Bool) (f : List ℕ) (fs : List (List ℕ)) → ArePlain t (f ∷ fs) → AreFields t (f ∷ fs) (f ++ behind_marks fs)
are_fields true f [] h = append-nil f
are_fields false f [] h = (append-nil f, subst (IsUncut semicolon) (sym (append-nil f)) (plain_uncut 59 f h))
are_fields t f (g ∷ fs) h = (g ++ behind_marks fs, plain_cut 59 f (g ++ behind_marks fs) h.0, are_fields t g fs h.1)

pub fields_text_is : (fs : List (List ℕ)) → AllByRecursion IsUtf8 fs → IsUtf8 (behind_marks fs)
fields_text_is [] h = IsUtf8-nil
fields_text_is (f ∷ fs) h =
    IsUtf8-append (59 ∷ []) (f ++ behind_marks fs) (small_utf8 (59 ∷ []) refl) (IsUtf8-append f (behind_marks fs) h.0 (fields_text_is fs h.1))

-- ---- commands

not_there : (bs : List ℕ) → list_any (λ b. b == 59) bs ≡ false → Lacks 59 bs
not_there [] e = tt
not_there (b ∷ bs) e = by (λ k. not_there bs k) (b == 59) refl e
  where
    by : (list_any (λ x. x == 59) bs ≡ false → Lacks 59 bs) → (t : Bool) → (b == 59) ≡ t → (t || list_any (λ x. x == 59) bs) ≡ false → Lacks 59 (b ∷ bs)
    by rest true is e = absurd (true≢false e)
    by rest false is e = (is, rest e)

name_plain : (c : Command) → Lacks 59 (command_name c)
name_plain c = not_there (command_name c) (by c)
  where
    by : (c : Command) → list_any (λ b. b == 59) (command_name c) ≡ false
    by command.HostResult = refl
    by command.ServiceResult = refl
    by command.HostCheck = refl
    by command.ForcedHostCheck = refl
    by command.ServiceCheck = refl
    by command.ForcedServiceCheck = refl
    by command.AcknowledgeHost = refl
    by command.AcknowledgeService = refl
    by command.UnacknowledgeHost = refl
    by command.UnacknowledgeService = refl
    by command.HostDowntime = refl
    by command.ServiceDowntime = refl
    by command.EndHostDowntime = refl
    by command.EndServiceDowntime = refl
    by command.HostChecksOn = refl
    by command.HostChecksOff = refl
    by command.HostNotesOn = refl
    by command.HostNotesOff = refl
    by command.ServiceChecksOn = refl
    by command.ServiceChecksOff = refl
    by command.ServiceNotesOn = refl
    by command.ServiceNotesOff = refl

name_text : (c : Command) → IsUtf8 (command_name c)
name_text c = small_utf8 (command_name c) (by c)
  where
    by : (c : Command) → list_all (λ b. nat_lt b 128) (command_name c) ≡ true
    by command.HostResult = refl
    by command.ServiceResult = refl
    by command.HostCheck = refl
    by command.ForcedHostCheck = refl
    by command.ServiceCheck = refl
    by command.ForcedServiceCheck = refl
    by command.AcknowledgeHost = refl
    by command.AcknowledgeService = refl
    by command.UnacknowledgeHost = refl
    by command.UnacknowledgeService = refl
    by command.HostDowntime = refl
    by command.ServiceDowntime = refl
    by command.EndHostDowntime = refl
    by command.EndServiceDowntime = refl
    by command.HostChecksOn = refl
    by command.HostChecksOff = refl
    by command.HostNotesOn = refl
    by command.HostNotesOff = refl
    by command.ServiceChecksOn = refl
    by command.ServiceChecksOff = refl
    by command.ServiceNotesOn = refl
    by command.ServiceNotesOff = refl

-- ---- lines

-- a command with its fields, and the line that it is at moment 0
abbrev pub asking : Command → List (List ℕ) → List ℕ
asking c fs = command_name c ++ behind_marks fs

abbrev pub line_of : Command → List (List ℕ) → List ℕ
line_of c fs = codes "[0] " ++ asking c fs

pub zero_number : IsNumber 11 (codes "0")
zero_number = record { digits = (omega arith, (omega arith, tt)); few = omega arith }

line_text : (c : Command) (fs : List (List ℕ)) → AllByRecursion IsUtf8 fs → IsUtf8 (line_of c fs)
line_text c fs h =
    IsUtf8-append (codes "[0] ") (asking c fs) (small_utf8 (codes "[0] ") refl)
    (IsUtf8-append (command_name c) (behind_marks fs) (name_text c) (fields_text_is fs h))

pub is_asked : (c : Command) (f : List ℕ) (fs : List (List ℕ)) → ArePlain (ends_in_text c) (f ∷ fs) → AllByRecursion IsUtf8 (f ∷ fs) → length (f ∷ fs) ≡ count_of c → IsAsked (line_of c (f ∷ fs)) c (f ∷ fs)
is_asked c f fs plain texts count = record {
  fields = Some (f ++ behind_marks fs);
  is = record {
    moment = codes "0";
    command = asking c (f ∷ fs);
    text = line_text c (f ∷ fs) texts;
    head = record {
      inner = 48 ∷ 93 ∷ 32 ∷ asking c (f ∷ fs);
      opened = refl;
      closed = cut_sound bracket (48 ∷ 93 ∷ 32 ∷ asking c (f ∷ fs)) (codes "0") (asking c (f ∷ fs)) refl;
    };
    in_time = zero_number;
    has_name = plain_cut 59 (command_name c) (f ++ behind_marks fs) (name_plain c);
  };
  parts = (are_fields (ends_in_text c) f fs plain, count);
}
