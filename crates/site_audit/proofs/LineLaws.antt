-- The lines of a log, both ways.
use Rattle.std.proofs.Common.{◌≡◌, ℕ, zero, suc, ◌^◌, ◌<◌, ◌≤◌, Bool, true, false, cond, List, [], ◌∷◌, ◌++◌, length, drop, codes, refl, sym, ap, ◌∙◌, subst, append_assoc, append-nil, arith, Option, Some, None, Result, Ok, Err, IfOk, lit<}
use Rattle.std.proofs.lemmas.List.{length-append}
use Rattle.std.proofs.lemmas.Slice.Eq.{bytes_eq-Decides}
use Rattle.std.proofs.lemmas.Str.{is_utf8-from_IsUtf8}
use Rattle.std.specs.Fmt.{decimal}
use Rattle.std.specs.List.{AllByRecursion}
use Rattle.std.specs.Str.{IsUtf8, bytes_eq, is_utf8}
use Rattle.site_base.specs.Quoted.{quoted}
use Rattle.site_model.specs.PlainSite.{PlainSite, full_names}
use Rattle.site_model.specs.Sound.{AreDistinct}
use Rattle.site_model.specs.declared.entry.Entry.{Entry}
use Rattle.site_text.specs.Entries.{name_text, start_text}
use Rattle.site_text.specs.ScriptReading.{begins}
use Rattle.event_text.specs.Faults.{fault_name}
use Rattle.event_text.specs.declared.line_fault.LineFault.{LineFault}
use Rattle.event_text.specs.declared.line_fault.LineFault.TheVariants as fault
use Rattle.log_text.specs.EntryReading.{ended, last_moment}
use Rattle.log_text.specs.EntryTwo.{AreTexts, IsEntryOf}
use Rattle.log_text.specs.declared.entry_error.EntryError.{EntryError}
use Rattle.log_text.specs.Fronts.{Gives, ◌>>=◌, behind, number_at, bounded_at, text_at, name_at}
use Rattle.log_text.specs.LogLines.{order_start, words_text}
use Rattle.log_text.specs.SiteNames.{PlainNames, names_of, HasAllNames}
use Rattle.log_text.proofs.EntryLaws.{entry_sound, entry_complete, entry_two_sound, entry_two_complete}
use Rattle.log_text.proofs.FieldLaws.{bind_then, some_is, word_or, behind_sound, spelled_sound, number_sound, number_complete, bounded_sound, bounded_complete, text_sound, text_complete, name_sound, name_complete}
use Rattle.run_meaning.specs.Turns.{Command, missing, words}
use Rattle.run_text.specs.LogText.{command_line, styled_entry}
use Rattle.run_text.specs.declared.style.Style.{Style}
use Rattle.run_text.specs.declared.style.Style.TheVariants.{One, Two}
use Rattle.site_audit.specs.LineReading.{turn_at, fault_at, refused_line_at, refused_report_at, next_word, words_within, words_at, started_at, lacking_at, command_at, order_at, as_entry, styled_read, entry_line_read, line_read}
use Rattle.site_audit.specs.LogLines.{IsOfTexts, IsOrderLine, IsEntryLine, IsLogLine, IsWritten, told_entry, told_line, is_missing}
use Rattle.site_audit.specs.declared.log_line.LogLine.{LogLine}
use Rattle.site_audit.specs.declared.log_line.LogLine.TheVariants as line

-- a line ends there
end_sound : {A : Type 0} (x y : A) (rest : List ℕ) → ended (x, rest) ≡ Some y → (rest ≡ 10 ∷ []) × (x ≡ y)
end_sound x y rest e = by (bytes_eq rest (10 ∷ [])) refl e
  where
    by : (t : Bool) → bytes_eq rest (10 ∷ []) ≡ t → cond t (Some x) None ≡ Some y → (rest ≡ 10 ∷ []) × (x ≡ y)
    by true h e = ((bytes_eq-Decides rest (10 ∷ [])).0 h, some_is x y e)
    by false h e = absurd cc

-- What is read is the line.

turn_sound : (style : Style) (s : PlainSite) (bs : List ℕ) (l : LogLine) → turn_at bs ≡ Some l → IsLogLine style s (codes "turn " ++ bs) l
unfolding turn_at
turn_sound style s bs l e =
    bind_then (number_at bs) (λ n. behind (codes " ") n.1 >>= λ a. bounded_at last_moment a >>= λ m. ended (line.Turn n.0 m.0, m.1)) l
    (λ n h-n e-n.
    bind_then (behind (codes " ") n.1) (λ a. bounded_at last_moment a >>= λ m. ended (line.Turn n.0 m.0, m.1)) l
    (λ a h-a e-a.
    bind_then (bounded_at last_moment a) (λ m. ended (line.Turn n.0 m.0, m.1)) l
    (λ m h-m e-m.
    let end = end_sound (line.Turn n.0 m.0) l m.1 e-m in
    subst (IsLogLine style s (codes "turn " ++ bs)) end.1 (
      (number_sound bs n h-n).1,
      (bounded_sound last_moment a m h-m).1,
      ap (λ xs. codes "turn " ++ xs) ((number_sound bs n h-n).0 ∙ ap (λ xs. decimal n.0 ++ xs) (behind_sound (codes " ") n.1 a h-a ∙ ap (λ xs. codes " " ++ xs) ((bounded_sound last_moment a m h-m).0 ∙ ap (λ xs. decimal m.0 ++ xs) end.0))),
    ))
    e-a) e-n) e

abbrev faults : List LineFault
faults = fault.NotText ∷ fault.NoBracket ∷ fault.BadMoment ∷ fault.UnknownCommand ∷ fault.FieldCount ∷ fault.UnknownCheckable ∷ fault.BadNumber ∷ fault.BadSpan ∷ fault.PassiveOff ∷ []

fault_sound : (bs : List ℕ) (y : LineFault × List ℕ) → fault_at bs ≡ Some y → bs ≡ fault_name y.0 ++ y.1
unfolding fault_at
fault_sound bs y e = spelled_sound fault_name faults bs y e

refused_line_sound : (style : Style) (s : PlainSite) (bs : List ℕ) (l : LogLine) → refused_line_at bs ≡ Some l → IsLogLine style s (codes "refused line " ++ bs) l
unfolding refused_line_at
refused_line_sound style s bs l e =
    bind_then (number_at bs) (λ n. behind (codes " ") n.1 >>= λ a. fault_at a >>= λ f. ended (line.RefusedLine n.0 f.0, f.1)) l
    (λ n h-n e-n.
    bind_then (behind (codes " ") n.1) (λ a. fault_at a >>= λ f. ended (line.RefusedLine n.0 f.0, f.1)) l
    (λ a h-a e-a.
    bind_then (fault_at a) (λ f. ended (line.RefusedLine n.0 f.0, f.1)) l
    (λ f h-f e-f.
    let end = end_sound (line.RefusedLine n.0 f.0) l f.1 e-f in
    subst (IsLogLine style s (codes "refused line " ++ bs)) end.1 (
      (number_sound bs n h-n).1,
      ap (λ xs. codes "refused line " ++ xs) ((number_sound bs n h-n).0 ∙ ap (λ xs. decimal n.0 ++ xs) (behind_sound (codes " ") n.1 a h-a ∙ ap (λ xs. codes " " ++ xs) (fault_sound a f h-f ∙ ap (λ xs. fault_name f.0 ++ xs) end.0))),
    ))
    e-a) e-n) e

refused_report_sound : (style : Style) (s : PlainSite) (bs : List ℕ) (l : LogLine) → refused_report_at bs ≡ Some l → IsLogLine style s (codes "refused report " ++ bs) l
unfolding refused_report_at
refused_report_sound style s bs l e =
    bind_then (number_at bs) (λ n. ended (line.RefusedReport n.0, n.1)) l
    (λ n h-n e-n.
    let end = end_sound (line.RefusedReport n.0) l n.1 e-n in
    subst (IsLogLine style s (codes "refused report " ++ bs)) end.1
    ((number_sound bs n h-n).1, ap (λ xs. codes "refused report " ++ xs) ((number_sound bs n h-n).0 ∙ ap (λ xs. decimal n.0 ++ xs) end.0)))
    e

-- Words of a command.

record AreWords (bs : List ℕ) (rest : List ℕ) : Type 0 where
  first : List ℕ
  more : List (List ℕ)
  texts : AllByRecursion IsUtf8 (first ∷ more)
  whole : bs ≡ words_text false (first ∷ more) ++ rest

word_first : (w : List ℕ) (rest : List ℕ) → words_text false (w ∷ []) ++ rest ≡ quoted w ++ rest
word_first w rest = ap (λ xs. xs ++ rest) (append-nil (quoted w))

words_sound : (most : ℕ) (bs rest : List ℕ) → words_within most bs ≡ Some rest → AreWords bs rest
words_sound zero bs rest e = absurd cc
words_sound (suc most) bs rest e =
    bind_then (text_at bs) (λ w. next_word (words_within most) w.1 (behind (codes " ") w.1)) rest
    (λ w h-w e-w. by w (text_sound bs w h-w).0 (text_sound bs w h-w).1 (behind (codes " ") w.1) refl e-w (λ next. words_sound most next rest)) e
  where
    by : (w : List ℕ × List ℕ) → bs ≡ quoted w.0 ++ w.1 → IsUtf8 w.0 → (r : Option (List ℕ)) → behind (codes " ") w.1 ≡ r → next_word (words_within most) w.1 r ≡ Some rest → ((next : List ℕ) → words_within most next ≡ Some rest → AreWords next rest) → AreWords bs rest
    by w whole text None h e ih =
        record { first = w.0; more = []; texts = (text, tt); whole = whole ∙ (ap (λ xs. quoted w.0 ++ xs) (some_is w.1 rest e) ∙ sym (word_first w.0 rest)) }
    by w whole text (Some next) h e ih =
        let a = ih next e in
        record {
          first = w.0;
          more = a.first ∷ a.more;
          texts = (text, a.texts);
          whole =
              whole
              ∙ (ap (λ xs. quoted w.0 ++ xs) (behind_sound (codes " ") w.1 next h ∙ ap (λ xs. codes " " ++ xs) a.whole)
              ∙ sym (append_assoc (quoted w.0) (codes " " ++ words_text false (a.first ∷ a.more)) rest));
        }

record AreSomeWords (bs : List ℕ) (rest : List ℕ) : Type 0 where
  list : List (List ℕ)
  texts : AllByRecursion IsUtf8 list
  whole : bs ≡ words_text false list ++ rest

all_words_sound : (bs rest : List ℕ) → words_at bs ≡ Some rest → AreSomeWords bs rest
all_words_sound bs rest e =
    word_or (10 ∷ []) bs (Some bs) (words_within (length bs) bs) rest
    (λ front h. record { list = []; texts = tt; whole = some_is bs rest h })
    (λ h. let a = words_sound (length bs) bs rest h in record { list = a.first ∷ a.more; texts = a.texts; whole = a.whole })
    e

-- Orders.

record IsBehindName (style : Style) (s : PlainSite) (n k : ℕ) (bs : List ℕ) (l : LogLine) : Type 0 where
  command : Command
  texts : IsOfTexts command
  told : l ≡ line.Order n k (is_missing command)
  whole : order_start s n k ++ bs ≡ command_line style s n k command

started_sound : (style : Style) (s : PlainSite) (n k : ℕ) (bs : List ℕ) (l : LogLine) → started_at style n k bs ≡ Some l → IsBehindName style s n k bs l
started_sound One s n k bs l e =
    let end = end_sound (line.Order n k false) l bs e in
    record { command = words []; texts = tt; told = sym end.1; whole = ap (λ xs. order_start s n k ++ xs) end.0 }
started_sound Two s n k bs l e =
    bind_then (behind (codes " ") bs) (λ a. words_at a >>= λ rest. ended (line.Order n k false, rest)) l
    (λ a h-a e-a.
    bind_then (words_at a) (λ rest. ended (line.Order n k false, rest)) l
    (λ rest h-r e-r.
    let end = end_sound (line.Order n k false) l rest e-r in
    let ws = all_words_sound a rest h-r in
    record {
      command = words ws.list;
      texts = ws.texts;
      told = sym end.1;
      whole = ap (λ xs. order_start s n k ++ xs) (behind_sound (codes " ") bs a h-a ∙ ap (λ xs. codes " " ++ xs) (ws.whole ∙ ap (λ xs. words_text false ws.list ++ xs) end.0));
    }) e-a) e

lacking_sound : (style : Style) (s : PlainSite) (n k : ℕ) (bs rest : List ℕ) (l : LogLine) → bs ≡ codes " missing " ++ rest → lacking_at n k rest ≡ Some l → IsBehindName style s n k bs l
lacking_sound style s n k bs rest l front e =
    bind_then (text_at rest) (λ m. ended (line.Order n k true, m.1)) l
    (λ m h-m e-m.
    let end = end_sound (line.Order n k true) l m.1 e-m in
    record {
      command = missing m.0;
      texts = (text_sound rest m h-m).1;
      told = sym end.1;
      whole = ap (λ xs. order_start s n k ++ xs) (front ∙ ap (λ xs. codes " missing " ++ xs) ((text_sound rest m h-m).0 ∙ ap (λ xs. quoted m.0 ++ xs) end.0));
    }) e

command_sound : (style : Style) (s : PlainSite) (n k : ℕ) (bs : List ℕ) (l : LogLine) → command_at style n k bs ≡ Some l → IsBehindName style s n k bs l
command_sound style s n k bs l e =
    word_or (codes " missing ") bs (lacking_at n k (drop 9 bs)) (started_at style n k bs) l
    (λ front h. lacking_sound style s n k bs (drop 9 bs) l front h)
    (λ h. started_sound style s n k bs l h)
    e

order_is : (style : Style) (s : PlainSite) (bs rest : List ℕ) (n k : ℕ) (l : LogLine) → n < 2 ^ 64 → k < length (full_names s) → bs ≡ decimal n ++ (codes " " ++ (name_text (full_names s) k ++ rest)) → IsBehindName style s n k rest l → IsLogLine style s (codes "order " ++ bs) l
order_is style s bs rest n k l fits own front b =
    subst (IsLogLine style s (codes "order " ++ bs)) (sym b.told)
    (record {
      command = b.command;
      texts = b.texts;
      number_fits = fits;
      own = own;
      missing_is = refl;
      whole = ap (λ xs. codes "order " ++ xs) (front ∙ sym (append_assoc (decimal n) (codes " " ++ name_text (full_names s) k) rest)) ∙ b.whole;
    })

order_sound : (style : Style) (s : PlainSite) (bs : List ℕ) (l : LogLine) → order_at style (names_of s) bs ≡ Some l → IsLogLine style s (codes "order " ++ bs) l
unfolding order_at
order_sound style s bs l e =
    bind_then (number_at bs) (λ n. behind (codes " ") n.1 >>= λ a. name_at (full_names s) a >>= λ k. command_at style n.0 k.0 k.1) l
    (λ n h-n e-n.
    bind_then (behind (codes " ") n.1) (λ a. name_at (full_names s) a >>= λ k. command_at style n.0 k.0 k.1) l
    (λ a h-a e-a.
    bind_then (name_at (full_names s) a) (λ k. command_at style n.0 k.0 k.1) l
    (λ k h-k e-k.
    order_is style s bs k.1 n.0 k.0 l (number_sound bs n h-n).1 (name_sound (full_names s) a k h-k).1
    ((number_sound bs n h-n).0 ∙ ap (λ xs. decimal n.0 ++ xs) (behind_sound (codes " ") n.1 a h-a ∙ ap (λ xs. codes " " ++ xs) (name_sound (full_names s) a k h-k).0))
    (command_sound style s n.0 k.0 k.1 l e-k)) e-a) e-n) e

-- Entries.

styled_sound : (style : Style) (s : PlainSite) (bs : List ℕ) (y : ℕ × Entry) → styled_read style (names_of s) bs ≡ Some y → IsEntryLine style s bs y.0 y.1
styled_sound One s bs y e = entry_sound s bs y e
styled_sound Two s bs y e = entry_two_sound s bs y e

entry_line_sound : (style : Style) (s : PlainSite) (bs : List ℕ) (l : LogLine) → entry_line_read style (names_of s) bs ≡ Some l → IsLogLine style s bs l
entry_line_sound style s bs l e = by (is_utf8 bs) e
  where
    by : (t : Bool) → cond t (styled_read style (names_of s) bs >>= as_entry) None ≡ Some l → IsLogLine style s bs l
    by true e = bind_then (styled_read style (names_of s) bs) as_entry l (λ y h-y e-y. subst (IsLogLine style s bs) (some_is (line.Entry y.0 y.1) l e-y) (styled_sound style s bs y h-y)) e
    by false e = absurd cc

-- what is read of bytes is what they are
pub line_sound : (style : Style) (s : PlainSite) (bs : List ℕ) (l : LogLine) → line_read style (names_of s) bs ≡ Some l → IsLogLine style s bs l
unfolding line_read
line_sound style s bs l e =
    let names : PlainNames = names_of s in
    let orders : Option LogLine = cond (begins (codes "order ") bs) (order_at style names (drop 6 bs)) (entry_line_read style names bs) in
    let reports : Option LogLine = cond (begins (codes "refused report ") bs) (refused_report_at (drop 15 bs)) orders in
    let lines : Option LogLine = cond (begins (codes "refused line ") bs) (refused_line_at (drop 13 bs)) reports in
    word_or (codes "turn ") bs (turn_at (drop 5 bs)) lines l
    (λ front h. subst (λ xs. IsLogLine style s xs l) (sym front) (turn_sound style s (drop 5 bs) l h))
    (λ h.
    word_or (codes "refused line ") bs (refused_line_at (drop 13 bs)) reports l
    (λ front h. subst (λ xs. IsLogLine style s xs l) (sym front) (refused_line_sound style s (drop 13 bs) l h))
    (λ h.
    word_or (codes "refused report ") bs (refused_report_at (drop 15 bs)) orders l
    (λ front h. subst (λ xs. IsLogLine style s xs l) (sym front) (refused_report_sound style s (drop 15 bs) l h))
    (λ h.
    word_or (codes "order ") bs (order_at style names (drop 6 bs)) (entry_line_read style names bs) l
    (λ front h. subst (λ xs. IsLogLine style s xs l) (sym front) (order_sound style s (drop 6 bs) l h))
    (λ h. entry_line_sound style s bs l h)
    h) h) h) e

-- Each line is read.

end_complete : {A : Type 0} (x : A) → ended (x, 10 ∷ []) ≡ Some x
end_complete x = refl

fault_complete : (f : LineFault) (rest : List ℕ) → fault_at (fault_name f ++ rest) ≡ Some (f, rest)
unfolding fault_at
fault_complete fault.NotText rest = refl
fault_complete fault.NoBracket rest = refl
fault_complete fault.BadMoment rest = refl
fault_complete fault.UnknownCommand rest = refl
fault_complete fault.FieldCount rest = refl
fault_complete fault.UnknownCheckable rest = refl
fault_complete fault.BadNumber rest = refl
fault_complete fault.BadSpan rest = refl
fault_complete fault.PassiveOff rest = refl

turn_complete : (n m : ℕ) → n < 2 ^ 64 → m ≤ last_moment → turn_at (decimal n ++ 32 ∷ (decimal m ++ 10 ∷ [])) ≡ Some (line.Turn n m)
unfolding turn_at
turn_complete n m fits low = rw (number_complete n (32 ∷ (decimal m ++ 10 ∷ [])) fits refl, bounded_complete last_moment m (10 ∷ []) (lit< tt) low refl) refl

refused_line_complete : (n : ℕ) (f : LineFault) → n < 2 ^ 64 → refused_line_at (decimal n ++ 32 ∷ (fault_name f ++ 10 ∷ [])) ≡ Some (line.RefusedLine n f)
unfolding refused_line_at
refused_line_complete n f fits = rw (number_complete n (32 ∷ (fault_name f ++ 10 ∷ [])) fits refl, fault_complete f (10 ∷ [])) refl

refused_report_complete : (n : ℕ) → n < 2 ^ 64 → refused_report_at (decimal n ++ 10 ∷ []) ≡ Some (line.RefusedReport n)
unfolding refused_report_at
refused_report_complete n fits = rw (number_complete n (10 ∷ []) fits refl) refl

-- Words of a command, with room for all of them.

words_complete : (most : ℕ) (w : List ℕ) (ws : List (List ℕ)) → length (words_text false (w ∷ ws)) ≤ most → AllByRecursion IsUtf8 (w ∷ ws) → words_within most (words_text false (w ∷ ws) ++ 10 ∷ []) ≡ Some (10 ∷ [])
words_complete zero w ws room texts = absurd (omega (arith, room))
words_complete (suc most) w [] room texts =
    ap (λ xs. words_within (suc most) xs) (append_assoc (quoted w) [] (10 ∷ [])) ∙ ap (λ r. r >>= λ word. next_word (words_within most) word.1 (behind (codes " ") word.1)) (text_complete w (10 ∷ []) texts.0)
words_complete (suc most) w (v ∷ ws) room texts =
    let more : List ℕ = words_text false (v ∷ ws) in
    let l = length-append (quoted w) (codes " " ++ more) in
    ap (λ xs. words_within (suc most) xs) (append_assoc (quoted w) (codes " " ++ more) (10 ∷ []))
    ∙ (ap (λ r. r >>= λ word. next_word (words_within most) word.1 (behind (codes " ") word.1)) (text_complete w (codes " " ++ (more ++ 10 ∷ [])) texts.0) ∙ words_complete most v ws (omega (arith, room, l)) texts.1)

all_words_complete : (ws : List (List ℕ)) → AllByRecursion IsUtf8 ws → words_at (words_text false ws ++ 10 ∷ []) ≡ Some (10 ∷ [])
all_words_complete [] texts = refl
all_words_complete (w ∷ ws) texts =
    let l = length-append (words_text false (w ∷ ws)) (10 ∷ []) in
    words_complete (length (words_text false (w ∷ ws) ++ 10 ∷ [])) w ws (omega (arith, l)) texts

-- Orders.

-- what stands behind the name of the checkable
abbrev command_end : Style → Command → List ℕ
command_end One (words ws) = 10 ∷ []
command_end Two (words ws) = 32 ∷ (words_text false ws ++ 10 ∷ [])
command_end style (missing macro) = codes " missing " ++ (quoted macro ++ 10 ∷ [])

command_is : (style : Style) (s : PlainSite) (n k : ℕ) (c : Command) → command_line style s n k c ≡ order_start s n k ++ command_end style c
command_is One s n k (words ws) = refl
command_is Two s n k (words ws) = refl
command_is One s n k (missing macro) = refl
command_is Two s n k (missing macro) = refl

command_complete : (style : Style) (n k : ℕ) (c : Command) → IsOfTexts c → command_at style n k (command_end style c) ≡ Some (line.Order n k (is_missing c))
command_complete One n k (words ws) texts = refl
command_complete Two n k (words []) texts = refl
command_complete Two n k (words (w ∷ ws)) texts = ap (λ r. r >>= λ rest. ended (line.Order n k false, rest)) (all_words_complete (w ∷ ws) texts)
command_complete One n k (missing macro) texts = ap (λ r. r >>= λ m. ended (line.Order n k true, m.1)) (text_complete macro (10 ∷ []) texts)
command_complete Two n k (missing macro) texts = ap (λ r. r >>= λ m. ended (line.Order n k true, m.1)) (text_complete macro (10 ∷ []) texts)

order_complete : (style : Style) (s : PlainSite) (n k : ℕ) (c : Command) → AreDistinct (full_names s) → AllByRecursion IsUtf8 (full_names s) → n < 2 ^ 64 → k < length (full_names s) → IsOfTexts c
    → order_at style (names_of s) ((decimal n ++ 32 ∷ name_text (full_names s) k) ++ command_end style c) ≡ Some (line.Order n k (is_missing c))
unfolding order_at
order_complete style s n k c apart texts fits own of_texts =
    let end : List ℕ = command_end style c in
    ap (order_at style (names_of s)) (append_assoc (decimal n) (32 ∷ name_text (full_names s) k) end)
    ∙ (rw (number_complete n (32 ∷ (name_text (full_names s) k ++ end)) fits refl, name_complete (full_names s) k end apart texts own) refl ∙ command_complete style n k c of_texts)

order_read : (style : Style) (s : PlainSite) (bs : List ℕ) (n k : ℕ) (lacks : Bool) → HasAllNames s → AreTexts (names_of s) → IsOrderLine style s bs n k lacks → line_read style (names_of s) bs ≡ Some (line.Order n k lacks)
unfolding line_read
order_read style s bs n k lacks has texts h =
    ap (line_read style (names_of s)) (h.whole ∙ command_is style s n k h.command)
    ∙ (order_complete style s n k h.command (subst AreDistinct has.checkables.named has.checkables.distinct) texts.checkables h.number_fits h.own h.texts ∙ ap (λ m. Some (line.Order n k m)) h.missing_is)

pub entry_dispatch : (style : Style) (s : PlainSite) (k : ℕ) (e : Entry) → line_read style (names_of s) (styled_entry style s k e) ≡ entry_line_read style (names_of s) (styled_entry style s k e)
unfolding line_read start_text
entry_dispatch One s k e = refl
entry_dispatch Two s k e = refl

styled_complete : (style : Style) (s : PlainSite) (k : ℕ) (e : Entry) → HasAllNames s → AreTexts (names_of s) → IsEntryOf s k e → styled_read style (names_of s) (styled_entry style s k e) ≡ Some (k, told_entry style e)
styled_complete One s k e has texts h = entry_complete s k e has texts h
styled_complete Two s k e has texts h = entry_two_complete s k e has texts h

entry_written : (style : Style) (s : PlainSite) (bs : List ℕ) (k : ℕ) (e : Entry) → HasAllNames s → AreTexts (names_of s) → IsWritten style s bs (line.Entry k e) → line_read style (names_of s) bs ≡ Some (line.Entry k (told_entry style e))
entry_written style s bs k e has texts h =
    ap (line_read style (names_of s)) h.2
    ∙ (entry_dispatch style s k e
    ∙ (ap (λ t. cond t (styled_read style (names_of s) (styled_entry style s k e) >>= as_entry) None) (is_utf8-from_IsUtf8 (styled_entry style s k e) (subst IsUtf8 h.2 h.1))
    ∙ ap (λ r. r >>= as_entry) (styled_complete style s k e has texts h.0)))

-- each line is read
pub line_complete : (style : Style) (s : PlainSite) (bs : List ℕ) (l : LogLine) → HasAllNames s → AreTexts (names_of s) → IsWritten style s bs l → line_read style (names_of s) bs ≡ Some (told_line style l)
unfolding line_read
line_complete style s bs (line.Turn n m) has texts h = ap (line_read style (names_of s)) h.2 ∙ turn_complete n m h.0 h.1
line_complete style s bs (line.RefusedLine n f) has texts h = ap (line_read style (names_of s)) h.1 ∙ refused_line_complete n f h.0
line_complete style s bs (line.RefusedReport o) has texts h = ap (line_read style (names_of s)) h.1 ∙ refused_report_complete o h.0
line_complete style s bs (line.Entry k e) has texts h = entry_written style s bs k e has texts h
line_complete style s bs (line.Order n k lacks) has texts h = order_read style s bs n k lacks has texts h

-- What a call gave.

pub found : (P : LogLine → Type 0) (r : Result LogLine EntryError) (read : Option LogLine) → Gives (λ x. x) r read → ((l : LogLine) → read ≡ Some l → P l) → IfOk r P
found P (Ok l) read gives k = k l gives
found P (Err e) read gives k = tt
