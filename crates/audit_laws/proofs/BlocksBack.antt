-- The lines of a turn, read as a block, tell of the turn what its log shows.
use Rattle.std.proofs.Common.{◌≡◌, ◌+◌, ◌<◌, ◌≤◌, ◌^◌, ℕ, zero, suc, Bool, false, cond, List, [], ◌∷◌, ◌++◌, length, map, codes, refl, sym, ap, ap₂, ◌∙◌, subst, arith, append_assoc, append-nil, Option, Some, None, lit<}
use Rattle.std.proofs.lemmas.List.{length-append}
use Rattle.std.proofs.lemmas.Str.{is_utf8-from_IsUtf8}
use Rattle.std.specs.Fmt.{decimal}
use Rattle.std.specs.List.{AllByRecursion, flat_map}
use Rattle.std.specs.Str.{IsUtf8}
use Rattle.site_base.specs.Quoted.{quoted}
use Rattle.site_model.specs.PlainSite.{PlainSite, full_names}
use Rattle.site_model.specs.Sound.{AreDistinct}
use Rattle.site_model.specs.declared.entry.Entry.{Entry}
use Rattle.site_text.specs.Entries.{name_text, IsPrintable}
use Rattle.event_text.specs.Faults.{fault_name}
use Rattle.event_text.specs.Lines.{Answer, told, faulty}
use Rattle.event_text.specs.declared.line_fault.LineFault.{LineFault}
use Rattle.event_text.specs.declared.line_fault.LineFault.TheVariants as fault
use Rattle.log_text.specs.EntryReading.{last_moment}
use Rattle.log_text.specs.EntryTwo.{untold, AreTexts, FitsEntry, IsEntryOf}
use Rattle.log_text.specs.Fronts.{◌>>=◌, behind}
use Rattle.log_text.specs.LogLines.{order_start, turn_line, words_text}
use Rattle.log_text.specs.SiteNames.{PlainNames, names_of, HasAllNames}
use Rattle.log_text.proofs.EntryLaws.{entry_complete, entry_two_complete}
use Rattle.log_text.proofs.FieldLaws.{number_complete, bounded_complete, text_complete, name_complete}
use Rattle.run_meaning.specs.Dealing.{Refusal, refused_line, refused_report, checkable_of, line_refusals, refusing, report_refusals, without}
use Rattle.run_meaning.specs.Runs.{TurnLog}
use Rattle.run_meaning.specs.Shares.{orders_refused}
use Rattle.run_meaning.specs.Turns.{Command, Histories, Ordered, Outstanding, Reported, missing, of_index, words}
use Rattle.run_text.specs.LogText.{command_line, ordered_line, refusal_line, round_lines, styled_entry, turn_lines}
use Rattle.run_text.specs.TurnReading.{as_line}
use Rattle.run_text.specs.declared.style.Style.{Style}
use Rattle.run_text.specs.declared.style.Style.TheVariants.{One, Two}
use Rattle.site_audit.specs.BlockReading.{block_at, block_read, line_added, line_begun, lines_into, with_log_line}
use Rattle.site_audit.specs.LineReading.{turn_at, fault_at, refused_line_at, refused_report_at, next_word, words_within, words_at, command_at, order_at, as_entry, styled_read, line_read}
use Rattle.site_audit.specs.LogLines.{IsOfTexts, is_missing, told_entry}
use Rattle.site_audit.proofs.LineLaws.{entry_dispatch}
use Rattle.audit_laws.specs.Types.{Block, EntryLine}
use Rattle.audit_laws.specs.Fitting.{FitsLog, FitsOrder, FitsRefusal}
use Rattle.audit_laws.specs.Refilled.{refused_from}
use Rattle.audit_laws.specs.Retaken.{lines_from}
use Rattle.audit_laws.proofs.ByVersion.{shown_histories}
use Rattle.audit_laws.proofs.LineTexts.{line_text}
use Rattle.audit_laws.proofs.Opening.{order_line}

some_same : {A : Type 0} (x y : A) → Some x ≡ Some y → x ≡ y
some_same x y e = cc

-- ---- single lines

abbrev begun : ℕ → Block
begun moment = record { moment = moment; lines = []; reports = []; entries = []; orders = [] }

turn_read_at : (n m : ℕ) → n < 2 ^ 64 → m ≤ last_moment → (turn_at (decimal n ++ 32 ∷ (decimal m ++ 10 ∷ [])) >>= block_at) ≡ Some (begun m)
unfolding turn_at
turn_read_at n m fits low = rw (number_complete n (32 ∷ (decimal m ++ 10 ∷ [])) fits refl, bounded_complete last_moment m (10 ∷ []) (lit< tt) low refl) refl

turn_begun : (style : Style) (names : PlainNames) (n m : ℕ) → n < 2 ^ 64 → m ≤ last_moment → line_begun style names (turn_line n m) ≡ Some (begun m)
unfolding line_read
turn_begun style names n m fits low = turn_read_at n m fits low

fault_read : (f : LineFault) (rest : List ℕ) → fault_at (fault_name f ++ rest) ≡ Some (f, rest)
unfolding fault_at
fault_read fault.NotText rest = refl
fault_read fault.NoBracket rest = refl
fault_read fault.BadMoment rest = refl
fault_read fault.UnknownCommand rest = refl
fault_read fault.FieldCount rest = refl
fault_read fault.UnknownCheckable rest = refl
fault_read fault.BadNumber rest = refl
fault_read fault.BadSpan rest = refl
fault_read fault.PassiveOff rest = refl

refused_read : (b : Block) (n : ℕ) (f : LineFault) → n < 2 ^ 64 → (refused_line_at (decimal n ++ 32 ∷ (fault_name f ++ 10 ∷ [])) >>= with_log_line b) ≡ Some (record b { lines = b.lines ++ record { number = n; fault = f } ∷ [] })
unfolding refused_line_at
refused_read b n f fits = rw (number_complete n (32 ∷ (fault_name f ++ 10 ∷ [])) fits refl, fault_read f (10 ∷ [])) refl

refused_added : (style : Style) (names : PlainNames) (b : Block) (n : ℕ) (f : LineFault) → n < 2 ^ 64 → line_added style names b (refusal_line (refused_line n (fault_name f))) ≡ Some (record b { lines = b.lines ++ record { number = n; fault = f } ∷ [] })
unfolding line_read
refused_added style names b n f fits = refused_read b n f fits

report_read_at : (b : Block) (n : ℕ) → n < 2 ^ 64 → (refused_report_at (decimal n ++ 10 ∷ []) >>= with_log_line b) ≡ Some (record b { reports = b.reports ++ n ∷ [] })
unfolding refused_report_at
report_read_at b n fits = rw (number_complete n (10 ∷ []) fits refl) refl

report_added : (style : Style) (names : PlainNames) (b : Block) (n : ℕ) → n < 2 ^ 64 → line_added style names b (refusal_line (refused_report n)) ≡ Some (record b { reports = b.reports ++ n ∷ [] })
unfolding line_read
report_added style names b n fits = report_read_at b n fits

-- the words of a command, with room for all of them
words_read : (most : ℕ) (w : List ℕ) (ws : List (List ℕ)) → length (words_text false (w ∷ ws)) ≤ most → AllByRecursion IsUtf8 (w ∷ ws) → words_within most (words_text false (w ∷ ws) ++ 10 ∷ []) ≡ Some (10 ∷ [])
words_read zero w ws room texts = absurd (omega (arith, room))
words_read (suc most) w [] room texts =
    ap (λ xs. words_within (suc most) xs) (append_assoc (quoted w) [] (10 ∷ [])) ∙ ap (λ r. r >>= λ word. next_word (words_within most) word.1 (behind (codes " ") word.1)) (text_complete w (10 ∷ []) texts.0)
words_read (suc most) w (v ∷ ws) room texts =
    let more : List ℕ = words_text false (v ∷ ws) in
    let l = length-append (quoted w) (codes " " ++ more) in
    ap (λ xs. words_within (suc most) xs) (append_assoc (quoted w) (codes " " ++ more) (10 ∷ []))
    ∙ (ap (λ r. r >>= λ word. next_word (words_within most) word.1 (behind (codes " ") word.1)) (text_complete w (codes " " ++ (more ++ 10 ∷ [])) texts.0) ∙ words_read most v ws (omega (arith, room, l)) texts.1)

all_words_read : (w : List ℕ) (ws : List (List ℕ)) → AllByRecursion IsUtf8 (w ∷ ws) → words_at (words_text false (w ∷ ws) ++ 10 ∷ []) ≡ Some (10 ∷ [])
all_words_read w ws texts =
    let l = length-append (words_text false (w ∷ ws)) (10 ∷ []) in
    words_read (length (words_text false (w ∷ ws) ++ 10 ∷ [])) w ws (omega (arith, l)) texts

-- what stands behind the name of the checkable
abbrev command_end : Style → Command → List ℕ
command_end One (words ws) = 10 ∷ []
command_end Two (words ws) = 32 ∷ (words_text false ws ++ 10 ∷ [])
command_end style (missing macro) = codes " missing " ++ (quoted macro ++ 10 ∷ [])

command_parts : (style : Style) (s : PlainSite) (n k : ℕ) (c : Command) → command_line style s n k c ≡ order_start s n k ++ command_end style c
command_parts One s n k (words ws) = refl
command_parts Two s n k (words ws) = refl
command_parts One s n k (missing macro) = refl
command_parts Two s n k (missing macro) = refl

abbrev with_order : Block → ℕ → ℕ → Bool → Block
with_order b n k lacks = record b { orders = b.orders ++ record { number = n; checkable = k; missing = lacks } ∷ [] }

command_read : (b : Block) (style : Style) (n k : ℕ) (c : Command) → IsOfTexts c → (command_at style n k (command_end style c) >>= with_log_line b) ≡ Some (with_order b n k (is_missing c))
command_read b One n k (words ws) texts = refl
command_read b Two n k (words []) texts = refl
command_read b Two n k (words (w ∷ ws)) texts = rw (all_words_read w ws texts) refl
command_read b One n k (missing macro) texts = rw (text_complete macro (10 ∷ []) texts) refl
command_read b Two n k (missing macro) texts = rw (text_complete macro (10 ∷ []) texts) refl

order_parts : (style : Style) (s : PlainSite) (n k : ℕ) (end : List ℕ) → AreDistinct (full_names s) → AllByRecursion IsUtf8 (full_names s) → n < 2 ^ 64 → k < length (full_names s)
    → order_at style (names_of s) ((decimal n ++ 32 ∷ name_text (full_names s) k) ++ end) ≡ command_at style n k end
unfolding order_at
order_parts style s n k end apart texts fits own =
    ap (order_at style (names_of s)) (append_assoc (decimal n) (32 ∷ name_text (full_names s) k) end)
    ∙ rw (number_complete n (32 ∷ (name_text (full_names s) k ++ end)) fits refl, name_complete (full_names s) k end apart texts own) refl

order_dispatch : (style : Style) (s : PlainSite) (n k : ℕ) (end : List ℕ) → line_read style (names_of s) (order_start s n k ++ end) ≡ order_at style (names_of s) ((decimal n ++ 32 ∷ name_text (full_names s) k) ++ end)
unfolding line_read
order_dispatch style s n k end = refl

module _ (style : Style) (s : PlainSite) (has : HasAllNames s) (texts : AreTexts (names_of s)) where
  abbrev names : PlainNames
  names = names_of s

  order_added : (b : Block) (o : Ordered) → FitsOrder o → o.checkable < length (full_names s) → line_added style names b (ordered_line style s o) ≡ Some (with_order b o.number o.checkable (is_missing o.command))
  order_added b o fits own =
      ap (λ bs. line_added style names b bs) (command_parts style s o.number o.checkable o.command)
      ∙ (ap (λ r. r >>= with_log_line b) (order_dispatch style s o.number o.checkable (command_end style o.command) ∙ order_parts style s o.number o.checkable (command_end style o.command) (subst AreDistinct has.checkables.named has.checkables.distinct) texts.checkables fits.number own)
      ∙ command_read b style o.number o.checkable o.command fits.texts)

  styled_entry_read : (k : ℕ) (e : Entry) → IsEntryOf s k e → styled_read style names (styled_entry style s k e) ≡ Some (k, told_entry style e)
  styled_entry_read k e h = by style
    where
      by : (v : Style) → styled_read v names (styled_entry v s k e) ≡ Some (k, told_entry v e)
      by One = entry_complete s k e has texts h
      by Two = entry_two_complete s k e has texts h

  abbrev line_told : ℕ → Entry → EntryLine
  line_told k e = record { checkable = k; entry = told_entry style e }

  entry_added : (b : Block) (k : ℕ) (e : Entry) → IsPrintable s k e → FitsEntry e → line_added style names b (styled_entry style s k e) ≡ Some (record b { entries = b.entries ++ line_told k e ∷ [] })
  entry_added b k e printable fits =
      ap (λ r. r >>= with_log_line b)
      (entry_dispatch style s k e
      ∙ (ap (λ t. cond t (styled_read style names (styled_entry style s k e) >>= as_entry) None) (is_utf8-from_IsUtf8 (styled_entry style s k e) (line_text s texts style k e fits))
      ∙ ap (λ r. r >>= as_entry) (styled_entry_read k e (record { printable = printable; fits = fits }))))

  -- ---- lines of one kind

  abbrev into : List (List ℕ) → Block → Option Block
  into ls b = lines_into style names ls b

  parted : (ls ms : List (List ℕ)) (b c : Block) → into ls b ≡ Some c → into (ls ++ ms) b ≡ into ms c
  parted [] ms b c e = ap (into ms) (some_same b c e)
  parted (l ∷ ls) ms b c e = by (line_added style names b l) e (λ d. parted ls ms d c)
    where
      by : (o : Option Block) → (o >>= into ls) ≡ Some c → ((d : Block) → into ls d ≡ Some c → into (ls ++ ms) d ≡ into ms c) → (o >>= into (ls ++ ms)) ≡ into ms c
      by None e again = absurd cc
      by (Some d) e again = again d e

  one_into : (l : List ℕ) (ls : List (List ℕ)) (b c : Block) → line_added style names b l ≡ Some c → into (l ∷ ls) b ≡ into ls c
  one_into l ls b c e = ap (λ o. o >>= into ls) e

  lines_added : (n : ℕ) (answers : List Answer) (b : Block) → AllByRecursion FitsRefusal (line_refusals n (map as_line answers)) → into (map refusal_line (line_refusals n (map as_line answers))) b ≡ Some (record b { lines = b.lines ++ refused_from n answers })
  lines_added n [] b fits = ap (λ xs. Some (record b { lines = xs })) (sym (append-nil b.lines))
  lines_added n (told k e ∷ answers) b fits = lines_added (n + 1) answers b fits
  lines_added n (faulty f ∷ answers) b fits =
      one_into (refusal_line (refused_line n (fault_name f))) (map refusal_line (line_refusals (n + 1) (map as_line answers))) b (record b { lines = b.lines ++ record { number = n; fault = f } ∷ [] }) (refused_added style names b n f fits.0)
      ∙ (lines_added (n + 1) answers (record b { lines = b.lines ++ record { number = n; fault = f } ∷ [] }) fits.1
      ∙ ap (λ xs. Some (record b { lines = xs })) (append_assoc b.lines (record { number = n; fault = f } ∷ []) (refused_from (n + 1) answers)))

  reports_added : (os : List Outstanding) (rs : List Reported) (b : Block) → AllByRecursion FitsRefusal (report_refusals os rs) → into (map refusal_line (report_refusals os rs)) b ≡ Some (record b { reports = b.reports ++ orders_refused (report_refusals os rs) })
  reports_added os [] b fits = ap (λ xs. Some (record b { reports = xs })) (sym (append-nil b.reports))
  reports_added os (r ∷ rs) b fits = by (checkable_of r.order os) fits (reports_added (without r.order os) rs)
    where
      rest : List Refusal
      rest = report_refusals (without r.order os) rs

      by : (o : Option ℕ) → AllByRecursion FitsRefusal (refusing r o rest) → ((c : Block) → AllByRecursion FitsRefusal rest → into (map refusal_line rest) c ≡ Some (record c { reports = c.reports ++ orders_refused rest }))
          → into (map refusal_line (refusing r o rest)) b ≡ Some (record b { reports = b.reports ++ orders_refused (refusing r o rest) })
      by None fits again =
          one_into (refusal_line (refused_report r.order)) (map refusal_line rest) b (record b { reports = b.reports ++ r.order ∷ [] }) (report_added style names b r.order fits.0)
          ∙ (again (record b { reports = b.reports ++ r.order ∷ [] }) fits.1
          ∙ ap (λ xs. Some (record b { reports = xs })) (append_assoc b.reports (r.order ∷ []) (orders_refused rest)))
      by (Some c) fits again = again b fits

  abbrev IsShown : ℕ → Entry → Type 0
  IsShown k e = IsPrintable s k e × FitsEntry e

  entries_added : (k : ℕ) (es : List Entry) (b : Block) → AllByRecursion (IsShown k) es → into (map (styled_entry style s k) es) b ≡ Some (record b { entries = b.entries ++ map (line_told k) es })
  entries_added k [] b fits = ap (λ xs. Some (record b { entries = xs })) (sym (append-nil b.entries))
  entries_added k (e ∷ es) b fits =
      one_into (styled_entry style s k e) (map (styled_entry style s k) es) b (record b { entries = b.entries ++ line_told k e ∷ [] }) (entry_added b k e fits.0.0 fits.0.1)
      ∙ (entries_added k es (record b { entries = b.entries ++ line_told k e ∷ [] }) fits.1
      ∙ ap (λ xs. Some (record b { entries = xs })) (append_assoc b.entries (line_told k e ∷ []) (map (line_told k) es)))

  abbrev told_lines : ℕ → Histories → List EntryLine
  told_lines k [] = []
  told_lines k (es ∷ round) = map (line_told k) es ++ told_lines (suc k) round

  round_added : (k : ℕ) (round : Histories) (b : Block) → ((j : ℕ) → AllByRecursion (IsShown (k + j)) (of_index j round)) → into (flat_map (λ lines. lines) (round_lines style s k round)) b ≡ Some (record b { entries = b.entries ++ told_lines k round })
  round_added k [] b fits = ap (λ xs. Some (record b { entries = xs })) (sym (append-nil b.entries))
  round_added k (es ∷ round) b fits =
      parted (map (styled_entry style s k) es) (flat_map (λ lines. lines) (round_lines style s (suc k) round)) b (record b { entries = b.entries ++ map (line_told k) es })
      (entries_added k es b (let z : k + 0 ≡ k = omega arith in subst (λ m. AllByRecursion (IsShown m) es) z (fits 0)))
      ∙ (round_added (suc k) round (record b { entries = b.entries ++ map (line_told k) es }) (λ j. let z : k + suc j ≡ suc k + j = omega arith in subst (λ m. AllByRecursion (IsShown m) (of_index j round)) z (fits (suc j)))
      ∙ ap (λ xs. Some (record b { entries = xs })) (append_assoc b.entries (map (line_told k) es) (told_lines (suc k) round)))

  abbrev IsOrdered : Ordered → Type 0
  IsOrdered o = FitsOrder o × (o.checkable < length (full_names s))

  orders_added : (os : List Ordered) (b : Block) → AllByRecursion IsOrdered os → into (map (ordered_line style s) os) b ≡ Some (record b { orders = b.orders ++ map order_line os })
  orders_added [] b fits = ap (λ xs. Some (record b { orders = xs })) (sym (append-nil b.orders))
  orders_added (o ∷ os) b fits =
      one_into (ordered_line style s o) (map (ordered_line style s) os) b (with_order b o.number o.checkable (is_missing o.command)) (order_added b o fits.0.0 fits.0.1)
      ∙ (orders_added os (with_order b o.number o.checkable (is_missing o.command)) fits.1
      ∙ ap (λ xs. Some (record b { orders = xs })) (append_assoc b.orders (order_line o ∷ []) (map order_line os)))

-- ---- a turn

abbrev line_of : ℕ → Entry → EntryLine
line_of k e = record { checkable = k; entry = e }

-- what is told of a round are its entries as the version shows them
told_of_shown : (style : Style) (s : PlainSite) (has : HasAllNames s) (texts : AreTexts (names_of s)) (k : ℕ) (round : Histories) → told_lines style s has texts k round ≡ lines_from k (shown_histories style round)
told_of_shown One s has texts k [] = refl
told_of_shown One s has texts k (es ∷ round) = ap₂ (λ (xs ys : List EntryLine). xs ++ ys) (mapped es) (told_of_shown One s has texts (suc k) round)
  where
    mapped : (es : List Entry) → map (λ e. line_of k (untold e)) es ≡ map (line_of k) (map untold es)
    mapped [] = refl
    mapped (e ∷ es) = ap (λ xs. line_of k (untold e) ∷ xs) (mapped es)
told_of_shown Two s has texts k [] = refl
told_of_shown Two s has texts k (es ∷ round) = ap (λ xs. map (line_of k) es ++ xs) (told_of_shown Two s has texts (suc k) round)

all_front : {A : Type 0} (P : A → Type 0) (xs ys : List A) → AllByRecursion P (xs ++ ys) → AllByRecursion P xs × AllByRecursion P ys
all_front P [] ys h = (tt, h)
all_front P (x ∷ xs) ys h = let (a, b) = all_front P xs ys h.1 in ((h.0, a), b)

pairs : {A : Type 0} (P Q : A → Type 0) (xs : List A) → AllByRecursion P xs → AllByRecursion Q xs → AllByRecursion (λ x. P x × Q x) xs
pairs P Q [] h g = tt
pairs P Q (x ∷ xs) h g = ((h.0, g.0), pairs P Q xs h.1 g.1)

map_both : {A B : Type 0} (f : A → B) (xs ys : List A) → map f (xs ++ ys) ≡ map f xs ++ map f ys
map_both f [] ys = refl
map_both f (x ∷ xs) ys = ap (λ zs. f x ∷ zs) (map_both f xs ys)

-- the block that is read
pub block_back : (style : Style) (s : PlainSite) → HasAllNames s → AreTexts (names_of s) → (l : TurnLog) (answers : List Answer) (os : List Outstanding) (rs : List Reported) → l.refusals ≡ line_refusals 1 (map as_line answers) ++ report_refusals os rs
    → FitsLog l → ((k : ℕ) → AllByRecursion (IsPrintable s k) (of_index k l.round)) → AllByRecursion (λ o. o.checkable < length (full_names s)) l.orders
    → block_read style (names_of s) (turn_lines style s l)
    ≡ Some (record { moment = l.moment; lines = refused_from 1 answers; reports = orders_refused (report_refusals os rs); entries = lines_from 0 (shown_histories style l.round); orders = map order_line l.orders })
block_back style s has texts l answers os rs same fits printable own =
    ap (λ o. o >>= into style s has texts ((refused ++ entries) ++ orders)) (turn_begun style (names_of s) l.number l.moment fits.number fits.moment)
    ∙ (parted style s has texts (refused ++ entries) orders (begun l.moment) with_entries both
    ∙ (orders_added style s has texts l.orders with_entries (pairs FitsOrder (λ o. o.checkable < length (full_names s)) l.orders fits.orders own)
    ∙ ap (λ xs. Some (record with_refused { entries = xs; orders = map order_line l.orders })) (told_of_shown style s has texts 0 l.round)))
  where
    refused : List (List ℕ)
    refused = map refusal_line l.refusals

    entries : List (List ℕ)
    entries = flat_map (λ lines. lines) (round_lines style s 0 l.round)

    orders : List (List ℕ)
    orders = map (ordered_line style s) l.orders

    front : List Refusal
    front = line_refusals 1 (map as_line answers)

    back : List Refusal
    back = report_refusals os rs

    with_lines : Block
    with_lines = record { moment = l.moment; lines = refused_from 1 answers; reports = []; entries = []; orders = [] }

    with_refused : Block
    with_refused = record { moment = l.moment; lines = refused_from 1 answers; reports = orders_refused back; entries = []; orders = [] }

    with_entries : Block
    with_entries = record { moment = l.moment; lines = refused_from 1 answers; reports = orders_refused back; entries = told_lines style s has texts 0 l.round; orders = [] }

    all_fit : AllByRecursion FitsRefusal (front ++ back)
    all_fit = subst (AllByRecursion FitsRefusal) same fits.refusals

    refused_are : into style s has texts refused (begun l.moment) ≡ Some with_refused
    refused_are =
        ap (λ xs. into style s has texts xs (begun l.moment)) (ap (map refusal_line) same ∙ map_both refusal_line front back)
        ∙ (parted style s has texts (map refusal_line front) (map refusal_line back) (begun l.moment) with_lines (lines_added style s has texts 1 answers (begun l.moment) (all_front FitsRefusal front back all_fit).0)
        ∙ reports_added style s has texts os rs with_lines (all_front FitsRefusal front back all_fit).1)

    shown_all : (j : ℕ) → AllByRecursion (IsShown style s has texts (0 + j)) (of_index j l.round)
    shown_all j = let z : j ≡ 0 + j = omega arith in subst (λ m. AllByRecursion (IsShown style s has texts m) (of_index j l.round)) z (pairs (IsPrintable s j) FitsEntry (of_index j l.round) (printable j) (fits.entries j))

    both : into style s has texts (refused ++ entries) (begun l.moment) ≡ Some with_entries
    both = parted style s has texts refused entries (begun l.moment) with_refused refused_are ∙ round_added style s has texts 0 l.round with_refused shown_all
