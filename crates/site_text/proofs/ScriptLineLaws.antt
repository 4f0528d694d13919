-- Lines of scripts, both ways.
use Rattle.std.proofs.Common.{◌≡◌, ℕ, ◌^◌, ◌<◌, ◌≤◌, nat_le, Bool, true, false, cond, List, [], ◌∷◌, ◌++◌, length, take, drop, codes, refl, sym, ap, ap₂, ◌∙◌, subst, append_assoc, arith, Option, Some, None, lit<, lit≤}
use Rattle.std.proofs.lemmas.Bool.Decides.{nat_tests}
use Rattle.std.proofs.lemmas.List.{take-append-drop, length-append}
use Rattle.std.proofs.lemmas.Slice.Eq.{bytes_eq-Decides}
use Rattle.std.specs.Fmt.{decimal}
use Rattle.site_base.specs.Quoted.{quoted}
use Rattle.site_edge.specs.declared.report.Report.{Report}
use Rattle.site_text.specs.Scripts.{line_text, IsInRange}
use Rattle.site_text.specs.ScriptReading.{Read, got, bad, byte_at, number_at, quoted_at, text_end, text_ended_by, quoted_line_at, turn_of, turn_at, command_of, command_at, report_of, with_status, with_order, report_at, begins, line_at}
use Rattle.site_text.specs.declared.script_line.ScriptLine.{ScriptLine}
use Rattle.site_text.specs.declared.script_line.ScriptLine.TheVariants as line
use Rattle.site_text.proofs.BodyLaws.{quoted_sound, quoted_complete}
use Rattle.site_text.proofs.DecimalLaws.{IsNumberAt, number_sound, number_complete, ended_sound, ended_complete}

-- A quoted text and its newline.
quoted_line_sound : (bs rest text : List ℕ) → quoted_line_at bs ≡ got text rest → bs ≡ quoted text ++ 10 ∷ rest
unfolding quoted_line_at
quoted_line_sound bs rest text e = by (quoted_at bs) refl e
  where
    ended : (t more : List ℕ) → quoted_at bs ≡ got t more → (r : Option (List ℕ)) → byte_at 10 more ≡ r → text_ended_by t r ≡ got text rest → bs ≡ quoted text ++ 10 ∷ rest
    ended t more h None g e = cc
    ended t more h (Some behind) g e =
        let is : t ≡ text = cc in
        let last : behind ≡ rest = cc in
        quoted_sound bs t more h ∙ (ap (λ xs. quoted t ++ xs) (ended_sound 10 more behind g) ∙ ap₂ (λ t xs. quoted t ++ 10 ∷ xs) is last)

    by : (r : Read (List ℕ)) → quoted_at bs ≡ r → text_end r ≡ got text rest → bs ≡ quoted text ++ 10 ∷ rest
    by bad h e = cc
    by (got t more) h e = ended t more h (byte_at 10 more) refl e

quoted_line_complete : (rest text : List ℕ) → quoted_line_at (quoted text ++ 10 ∷ rest) ≡ got text rest
unfolding quoted_line_at
quoted_line_complete rest text = ap text_end (quoted_complete text (10 ∷ rest)) ∙ ap (text_ended_by text) (ended_complete 10 rest)

low_is : (a b : ℕ) → nat_le a b ≡ true → a ≤ b
low_is a b e = grind (arith, nat_tests)

low_test : (a b : ℕ) → a ≤ b → nat_le a b ≡ true
low_test a b h = grind (arith, nat_tests)

-- what stands behind the word of a line, with its newline
abbrev tail_text : ScriptLine → List ℕ → List ℕ
tail_text (line.Turn moment) rest = decimal moment ++ 10 ∷ rest
tail_text (line.Report r) rest = decimal r.order ++ 32 ∷ (decimal r.status ++ 32 ∷ (quoted r.output ++ 10 ∷ rest))
tail_text (line.Line text) rest = quoted text ++ 10 ∷ rest

abbrev word_text : ScriptLine → List ℕ
word_text (line.Turn moment) = codes "turn "
word_text (line.Report r) = codes "report "
word_text (line.Line text) = codes "line "

line_parts : (l : ScriptLine) (rest : List ℕ) → line_text l ++ rest ≡ word_text l ++ tail_text l rest
line_parts (line.Turn moment) rest = ap (λ xs. codes "turn " ++ xs) (append_assoc (decimal moment) (10 ∷ []) rest)
line_parts (line.Report r) rest =
    let text : List ℕ = quoted r.output in
    let three : (text ++ 10 ∷ []) ++ rest ≡ text ++ 10 ∷ rest = append_assoc text (10 ∷ []) rest in
    let two : (decimal r.status ++ 32 ∷ (text ++ 10 ∷ [])) ++ rest ≡ decimal r.status ++ 32 ∷ (text ++ 10 ∷ rest) =
    append_assoc (decimal r.status) (32 ∷ (text ++ 10 ∷ [])) rest ∙ ap (λ xs. decimal r.status ++ 32 ∷ xs) three in
    ap (λ xs. codes "report " ++ xs)
    (append_assoc (decimal r.order) (32 ∷ (decimal r.status ++ 32 ∷ (text ++ 10 ∷ []))) rest ∙ ap (λ xs. decimal r.order ++ 32 ∷ xs) two)
line_parts (line.Line text) rest = ap (λ xs. codes "line " ++ xs) (append_assoc (quoted text) (10 ∷ []) rest)

-- what is read of a line
pub record IsTailOf (bs rest : List ℕ) (l : ScriptLine) : Type 0 where
  pub whole : bs ≡ tail_text l rest
  pub in_range : IsInRange l

turn_sound : (bs rest : List ℕ) (l : ScriptLine) → turn_at bs ≡ got l rest → (m : ℕ) × (l ≡ line.Turn m) × IsTailOf bs rest (line.Turn m)
unfolding turn_at
turn_sound bs rest l e = by (number_at 10 11 bs) refl e
  where
    ranged : (m : ℕ) (more : List ℕ) → number_at 10 11 bs ≡ got m more → (t : Bool) → nat_le m 99999999999 ≡ t → cond t (got (line.Turn m) more) bad ≡ got l rest → (m : ℕ) × (l ≡ line.Turn m) × IsTailOf bs rest (line.Turn m)
    ranged m more h true low e =
        let is : line.Turn m ≡ l = cc in
        let behind : more ≡ rest = cc in
        (m, sym is, record { whole = (number_sound 10 11 bs more m (lit≤ tt) h).whole ∙ ap (λ xs. decimal m ++ 10 ∷ xs) behind; in_range = low_is m 99999999999 low })
    ranged m more h false low e = cc

    by : (r : Read ℕ) → number_at 10 11 bs ≡ r → turn_of r ≡ got l rest → (m : ℕ) × (l ≡ line.Turn m) × IsTailOf bs rest (line.Turn m)
    by bad h e = cc
    by (got m more) h e = ranged m more h (nat_le m 99999999999) refl e

turn_complete : (m : ℕ) (rest : List ℕ) → m ≤ 99999999999 → turn_at (decimal m ++ 10 ∷ rest) ≡ got (line.Turn m) rest
unfolding turn_at
turn_complete m rest h =
    ap turn_of (number_complete 10 11 m rest (lit< tt) (lit≤ tt) (omega arith) refl)
    ∙ ap (λ t. cond t (got (line.Turn m) rest) bad) (low_test m 99999999999 h)

command_sound : (bs rest : List ℕ) (l : ScriptLine) → command_at bs ≡ got l rest → (text : List ℕ) × (l ≡ line.Line text) × IsTailOf bs rest (line.Line text)
unfolding command_at
command_sound bs rest l e = by (quoted_line_at bs) refl e
  where
    by : (r : Read (List ℕ)) → quoted_line_at bs ≡ r → command_of r ≡ got l rest → (text : List ℕ) × (l ≡ line.Line text) × IsTailOf bs rest (line.Line text)
    by bad h e = cc
    by (got text more) h e =
        let is : line.Line text ≡ l = cc in
        let behind : more ≡ rest = cc in
        (text, sym is, record { whole = quoted_line_sound bs more text h ∙ ap (λ xs. quoted text ++ 10 ∷ xs) behind; in_range = tt })

command_complete : (text rest : List ℕ) → command_at (quoted text ++ 10 ∷ rest) ≡ got (line.Line text) rest
unfolding command_at
command_complete text rest = ap command_of (quoted_line_complete rest text)

abbrev report : ℕ → ℕ → List ℕ → Report
report order status text = record { order = order; status = status; output = text }

report_sound : (bs rest : List ℕ) (l : ScriptLine) → report_at bs ≡ got l rest → (r : Report) × (l ≡ line.Report r) × IsTailOf bs rest (line.Report r)
unfolding report_at
report_sound bs rest l e = by (number_at 32 19 bs) refl e
  where
    ended : (o s : ℕ) (a b : List ℕ) → number_at 32 19 bs ≡ got o a → number_at 32 3 a ≡ got s b → s ≤ 255 → (r : Read (List ℕ)) → quoted_line_at b ≡ r → report_of o s r ≡ got l rest
        → (r : Report) × (l ≡ line.Report r) × IsTailOf bs rest (line.Report r)
    ended o s a b h g low bad f e = cc
    ended o s a b h g low (got text more) f e =
        let is : line.Report (report o s text) ≡ l = cc in
        let behind : more ≡ rest = cc in
        let one : IsNumberAt 32 19 bs a o = number_sound 32 19 bs a o (lit≤ tt) h in
        let two : IsNumberAt 32 3 a b s = number_sound 32 3 a b s (lit≤ tt) g in
        let last : b ≡ quoted text ++ 10 ∷ rest = quoted_line_sound b more text f ∙ ap (λ xs. quoted text ++ 10 ∷ xs) behind in (
          report o s text,
          sym is,
          record {
            whole = one.whole ∙ (ap (λ xs. decimal o ++ 32 ∷ xs) two.whole ∙ ap (λ xs. decimal o ++ 32 ∷ (decimal s ++ 32 ∷ xs)) last);
            in_range = (one.low, low);
          },
        )

    ranged : (o s : ℕ) (a b : List ℕ) → number_at 32 19 bs ≡ got o a → number_at 32 3 a ≡ got s b → (t : Bool) → nat_le s 255 ≡ t → cond t (report_of o s (quoted_line_at b)) bad ≡ got l rest
        → (r : Report) × (l ≡ line.Report r) × IsTailOf bs rest (line.Report r)
    ranged o s a b h g true low e = ended o s a b h g (low_is s 255 low) (quoted_line_at b) refl e
    ranged o s a b h g false low e = cc

    status : (o : ℕ) (a : List ℕ) → number_at 32 19 bs ≡ got o a → (r : Read ℕ) → number_at 32 3 a ≡ r → with_status o r ≡ got l rest → (r : Report) × (l ≡ line.Report r) × IsTailOf bs rest (line.Report r)
    status o a h bad g e = cc
    status o a h (got s b) g e = ranged o s a b h g (nat_le s 255) refl e

    by : (r : Read ℕ) → number_at 32 19 bs ≡ r → with_order r ≡ got l rest → (r : Report) × (l ≡ line.Report r) × IsTailOf bs rest (line.Report r)
    by bad h e = cc
    by (got o a) h e = status o a h (number_at 32 3 a) refl e

report_complete : (r : Report) (rest : List ℕ) → IsInRange (line.Report r) → report_at (tail_text (line.Report r) rest) ≡ got (line.Report r) rest
unfolding report_at
report_complete r rest h =
    let last : List ℕ = quoted r.output ++ 10 ∷ rest in
    let low : r.status ≤ 255 = h.1 in
    let small : r.status < 10 ^ 3 = omega arith in
    ap with_order (number_complete 32 19 r.order (decimal r.status ++ 32 ∷ last) (lit< tt) (lit≤ tt) h.0 refl)
    ∙ (ap (with_status r.order) (number_complete 32 3 r.status last (lit< tt) (lit≤ tt) small refl)
    ∙ (ap (λ t. cond t (report_of r.order r.status (quoted_line_at last)) bad) (low_test r.status 255 low)
    ∙ ap (report_of r.order r.status) (quoted_line_complete rest r.output)))

-- lines
pub begins_is : (word bs : List ℕ) → begins word bs ≡ true → bs ≡ word ++ drop (length word) bs
begins_is word bs e =
    sym (take-append-drop (length word) bs) ∙ ap (λ w. w ++ drop (length word) bs) ((bytes_eq-Decides (take (length word) bs) word).0 e)

pub record IsLineAt (bs rest : List ℕ) (l : ScriptLine) : Type 0 where
  pub whole : bs ≡ line_text l ++ rest
  pub in_range : IsInRange l

as_line : (bs rest : List ℕ) (k l : ScriptLine) → l ≡ k → bs ≡ word_text k ++ drop (length (word_text k)) bs → IsTailOf (drop (length (word_text k)) bs) rest k → IsLineAt bs rest l
as_line bs rest k l is front h = subst (IsLineAt bs rest) (sym is) (record { whole = front ∙ (ap (λ xs. word_text k ++ xs) h.whole ∙ sym (line_parts k rest)); in_range = h.in_range })

pub line_sound : (bs rest : List ℕ) (l : ScriptLine) → line_at bs ≡ got l rest → IsLineAt bs rest l
unfolding line_at
line_sound bs rest l e = by (begins (codes "turn ") bs) refl (begins (codes "report ") bs) refl (begins (codes "line ") bs) refl e
  where
    by : (p : Bool) → begins (codes "turn ") bs ≡ p → (q : Bool) → begins (codes "report ") bs ≡ q → (r : Bool) → begins (codes "line ") bs ≡ r
        → cond p (turn_at (drop 5 bs)) (cond q (report_at (drop 7 bs)) (cond r (command_at (drop 5 bs)) bad)) ≡ got l rest → IsLineAt bs rest l
    by true hp q hq r hr e = let t = turn_sound (drop 5 bs) rest l e in as_line bs rest (line.Turn t.0) l t.1 (begins_is (codes "turn ") bs hp) t.2
    by false hp true hq r hr e = let t = report_sound (drop 7 bs) rest l e in as_line bs rest (line.Report t.0) l t.1 (begins_is (codes "report ") bs hq) t.2
    by false hp false hq true hr e = let t = command_sound (drop 5 bs) rest l e in as_line bs rest (line.Line t.0) l t.1 (begins_is (codes "line ") bs hr) t.2
    by false hp false hq false hr e = cc

pub line_complete : (l : ScriptLine) (rest : List ℕ) → IsInRange l → line_at (line_text l ++ rest) ≡ got l rest
unfolding line_at
line_complete (line.Turn m) rest h = ap line_at (line_parts (line.Turn m) rest) ∙ turn_complete m rest h
line_complete (line.Report r) rest h = ap line_at (line_parts (line.Report r) rest) ∙ report_complete r rest h
line_complete (line.Line text) rest h = ap line_at (line_parts (line.Line text) rest) ∙ command_complete text rest

line_some : (l : ScriptLine) → 0 < length (line_text l)
line_some (line.Turn m) = omega arith
line_some (line.Report r) = omega arith
line_some (line.Line text) = omega arith

pub line_shorter : (bs rest : List ℕ) (l : ScriptLine) → line_at bs ≡ got l rest → length rest < length bs
line_shorter bs rest l e = omega (arith, line_some l, ap length (line_sound bs rest l e).whole, length-append (line_text l) rest)

pub line_none : (rest : List ℕ) (l : ScriptLine) → line_at [] ≡ got l rest → ⊥
line_none rest l e = absurd (omega (arith, line_shorter [] rest l e))
