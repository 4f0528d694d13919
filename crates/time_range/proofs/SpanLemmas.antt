-- The spans that a text stands for, as they are written and as they are read.
use Rattle.std.proofs.Common.{◌≡◌, ℕ, suc, ◌+◌, ◌*◌, ◌/◌, ◌%◌, ◌<◌, ◌≤◌, ◌==◌, ◌&&◌, true, false, inl, inr, Option, Some, None, List, [], ◌∷◌, ◌++◌, length, take, drop, get_or, refl, sym, ap, subst, ◌∙◌, arith, nat_lt, nat_le, length-take, take-append-drop, length-append}
use Rattle.std.specs.List.{prefix_len, list_all}
use Rattle.std.proofs.lemmas.Bool.{cases_Bool}
use Rattle.std.proofs.lemmas.Bool.Decides.{nat_tests}
use Rattle.std.proofs.lemmas.List.{get_or-take}
use Rattle.std.proofs.lemmas.List.Folds.{list_all-append}
use Rattle.std.proofs.lemmas.Slice.Eq.{text_from_reads}
use Rattle.site_base.specs.declared.day.Day.{Day}
use Rattle.site_base.specs.declared.day_span.DaySpan.{DaySpan}
use Rattle.time_range.specs.Clock.{minute_at}
use Rattle.time_range.specs.Spans.{is_blank, span_text, IsSpan, AreJoined, AreSpans, span_between, span_at, span_of, is_inner, pieces, with_span, each_span, pieces_spans, spans_of}
use Rattle.time_range.proofs.ClockLemmas.{guarded, both, two_then, ReadsAt, minute_found, minute_again}
use Rattle.time_range.proofs.PieceLemmas.{join_parts, Parts, parts_of, one_piece, front_piece}

-- blanks in front are passed over
passed : (before : List ℕ) (b : ℕ) (bs : List ℕ) → list_all is_blank before ≡ true → is_blank b ≡ false → drop (prefix_len is_blank (before ++ b ∷ bs)) (before ++ b ∷ bs) ≡ b ∷ bs
passed [] b bs blank other = rw other refl
passed (x ∷ xs) b bs blank other =
    let g = both (is_blank x) (list_all is_blank xs) blank in
    let same : prefix_len is_blank (x ∷ xs ++ b ∷ bs) ≡ suc (prefix_len is_blank (xs ++ b ∷ bs)) = rw g.0 (omega arith) in
    rw same (passed xs b bs g.1 other)

-- what was passed over is blank
front_blank : (text : List ℕ) → list_all is_blank (take (prefix_len is_blank text) text) ≡ true
front_blank [] = refl
front_blank (b ∷ bs) =
    elim (cases_Bool (is_blank b)) [
      | inl blank ↦ (let same : prefix_len is_blank (b ∷ bs) ≡ suc (prefix_len is_blank bs) = rw blank (omega arith) in
          rw (same, blank) (front_blank bs))
      | inr other ↦ rw other refl
    ]

-- what a span reads: the two times, in minutes, and what follows them
pub record ReadsSpan (body : List ℕ) (day : Day) (span : DaySpan) : Type 0 where
  pub from : ℕ
  pub to : ℕ
  pub start : body ≡ span_text from to ++ drop 11 body
  pub after : list_all is_blank (drop 11 body) ≡ true
  pub ordered : from < to
  pub within : to ≤ 24 * 60
  pub is : span ≡ record { day = day; from = from * 60; to = to * 60 }

read_at : (body : List ℕ) (i b : ℕ) → i < 11 → get_or body i 0 ≡ b → get_or (take 11 body) i 0 ≡ b
read_at body i b h e = get_or-take 11 body i 0 h ∙ e

eleven : (body : List ℕ) (from to : ℕ) → 11 ≤ length body → get_or body 5 0 ≡ 45 → ReadsAt body 0 from → ReadsAt body 6 to → body ≡ span_text from to ++ drop 11 body
eleven body from to long hyphen a b =
    let text : take 11 body ≡ span_text from to =
    text_from_reads (take 11 body) (span_text from to) (length-take 11 body ∙ omega arith) (
      read_at body 0 _ (omega arith) a.hour_tens,
      (
        read_at body 1 _ (omega arith) a.hour_ones,
        (
          read_at body 2 _ (omega arith) a.colon,
          (
            read_at body 3 _ (omega arith) a.minute_tens,
            (
              read_at body 4 _ (omega arith) a.minute_ones,
              (read_at body 5 _ (omega arith) hyphen, (read_at body 6 _ (omega arith) b.hour_tens, (read_at body 7 _ (omega arith) b.hour_ones, (read_at body 8 _ (omega arith) b.colon, (read_at body 9 _ (omega arith) b.minute_tens, (read_at body 10 _ (omega arith) b.minute_ones, tt)))))),
            ),
          ),
        ),
      ),
    ) in
    sym (take-append-drop 11 body) ∙ ap (λ front. front ++ drop 11 body) text

between_found : (day : Day) (from to : ℕ) (span : DaySpan) → span_between day from to ≡ Some span → (from < to) × (to ≤ 1440) × (span ≡ record { day = day; from = from * 60; to = to * 60 })
between_found day from to span e =
    let g = guarded (nat_lt from to && nat_le to 1440) e in
    let h = both (nat_lt from to) (nat_le to 1440) g.0 in
    let same : record { day = day; from = from * 60; to = to * 60 } ≡ span = cc in
    (grind (arith, nat_tests, h.0), grind (arith, nat_tests, h.1), sym same)

at_found : (day : Day) (body : List ℕ) (span : DaySpan) → span_at day body ≡ Some span → ReadsSpan body day span
unfolding span_at
at_found day body span e =
    let g = guarded (nat_le 11 (length body) && (get_or body 5 0 == 45) && list_all is_blank (drop 11 body)) e in
    let h = both (nat_le 11 (length body) && (get_or body 5 0 == 45)) (list_all is_blank (drop 11 body)) g.0 in
    let k = both (nat_le 11 (length body)) (get_or body 5 0 == 45) h.0 in
    let long : 11 ≤ length body = grind (arith, nat_tests, k.0) in
    let hyphen : get_or body 5 0 ≡ 45 = grind (arith, nat_tests, k.1) in
    let t = two_then (minute_at body 0) (minute_at body 6) (λ from to. span_between day from to) span g.1 in
    let s = between_found day t.0 t.1 span t.4 in
    record {
      from = t.0;
      to = t.1;
      start = eleven body t.0 t.1 long hyphen (minute_found body 0 t.0 t.2) (minute_found body 6 t.1 t.3);
      after = h.1;
      ordered = s.0;
      within = s.1;
      is = s.2;
    }

pub span_found : (day : Day) (text : List ℕ) (span : DaySpan) → span_of day text ≡ Some span → IsSpan text day span
span_found day text span e =
    let n = prefix_len is_blank text in
    let r = at_found day (drop n text) span e in
    record {
      before = take n text;
      from = r.from;
      to = r.to;
      after = drop 11 (drop n text);
      written = sym (take-append-drop n text) ∙ ap (λ body. take n text ++ body) r.start;
      blank_before = front_blank text;
      blank_after = r.after;
      ordered = r.ordered;
      within = r.within;
      is = r.is;
    }

-- a text that begins with two times is read so
at_again : (day : Day) (from to : ℕ) (after : List ℕ) → list_all is_blank after ≡ true → from < to → to ≤ 24 * 60 → span_at day (span_text from to ++ after) ≡ Some (record { day = day; from = from * 60; to = to * 60 })
unfolding span_at
at_again day from to after blank ordered within =
    let body = span_text from to ++ after in
    let a : minute_at body 0 ≡ Some from = minute_again body 0 from (record { small = omega arith; hour_tens = refl; hour_ones = refl; colon = refl; minute_tens = refl; minute_ones = refl }) in
    let b : minute_at body 6 ≡ Some to = minute_again body 6 to (record { small = omega arith; hour_tens = refl; hour_ones = refl; colon = refl; minute_tens = refl; minute_ones = refl }) in
    let long : nat_le 11 (length body) ≡ true = grind (arith, nat_tests) in
    let less : nat_lt from to ≡ true = grind (arith, nat_tests) in
    let most : nat_le to 1440 ≡ true = grind (arith, nat_tests) in
    rw (long, blank, a, b, less, most) refl

pub span_again : (day : Day) (text : List ℕ) (span : DaySpan) → IsSpan text day span → span_of day text ≡ Some span
span_again day text span s =
    let body = span_text s.from s.to ++ s.after in
    let digit : is_blank (48 + s.from / 60 / 10) ≡ false = grind (arith, nat_tests) in
    let rest : drop (prefix_len is_blank (s.before ++ body)) (s.before ++ body) ≡ body = passed s.before (48 + s.from / 60 / 10) _ s.blank_before digit in
    ap (span_of day) s.written ∙ ap (span_at day) rest ∙ at_again day s.from s.to s.after s.blank_after s.ordered s.within ∙ ap Some (sym s.is)

-- Lists of spans.

blank_not : (b : ℕ) → is_blank b ≡ true → is_inner b ≡ true
blank_not b e = grind (arith, nat_tests)

digit_not : (d : ℕ) → is_inner (48 + d) ≡ true
digit_not d = grind (arith, nat_tests)

times_inner : (from to : ℕ) → list_all is_inner (span_text from to) ≡ true
times_inner from to =
    rw (digit_not (from / 60 / 10), digit_not (from / 60 % 10), digit_not (from % 60 / 10), digit_not (from % 60 % 10), digit_not (to / 60 / 10), digit_not (to / 60 % 10), digit_not (to % 60 / 10), digit_not (to % 60 % 10)) refl

-- a blank is no comma
blank_inner : (xs : List ℕ) → list_all is_blank xs ≡ true → list_all is_inner xs ≡ true
blank_inner [] e = refl
blank_inner (x ∷ xs) e =
    let g = both (is_blank x) (list_all is_blank xs) e in
    let inner : is_inner x ≡ true = blank_not x g.0 in
    rw inner (blank_inner xs g.1)

-- there is no comma in a span
span_inner : (day : Day) (text : List ℕ) (span : DaySpan) → IsSpan text day span → list_all is_inner text ≡ true
span_inner day text span s =
    let before = blank_inner s.before s.blank_before in
    let after = blank_inner s.after s.blank_after in
    let times : list_all is_inner (span_text s.from s.to) ≡ true = times_inner s.from s.to in
    ap (list_all is_inner) s.written ∙ list_all-append is_inner s.before (span_text s.from s.to ++ s.after)
    ∙ rw before (list_all-append is_inner (span_text s.from s.to) s.after ∙ rw times after)

with_found : (o : Option DaySpan) (others : Option (List DaySpan)) (spans : List DaySpan) → with_span o others ≡ Some spans → (span : DaySpan) × (more : List DaySpan) × (o ≡ Some span) × (others ≡ Some more) × (spans ≡ span ∷ more)
with_found None others spans e = absurd (cc)
with_found (Some span) None spans e = absurd (cc)
with_found (Some span) (Some more) spans e = let same : span ∷ more ≡ spans = cc in (span, more, refl, refl, sym same)

-- parts that are spans are joined spans
joined_found : (day : Day) (p : List ℕ) (ps : List (List ℕ)) (span : DaySpan) (spans : List DaySpan) → each_span day (p ∷ ps) ≡ Some (span ∷ spans) → AreJoined (join_parts p ps) day span spans
joined_found day p [] span spans e =
    let f = with_found (span_of day p) (Some []) (span ∷ spans) e in
    let none : spans ≡ [] = cc in
    let same : f.0 ≡ span = cc in
    subst (AreJoined p day span) (sym none) (span_found day p span (f.2 ∙ ap Some same))
joined_found day p (q ∷ qs) span spans e =
    let f = with_found (span_of day p) (each_span day (q ∷ qs)) (span ∷ spans) e in
    let same : f.0 ≡ span = cc in
    let rest : f.1 ≡ spans = cc in
    let g = with_found (span_of day q) (each_span day qs) f.1 f.3 in
    let more : spans ≡ g.0 ∷ g.1 = sym rest ∙ g.4 in
    subst (AreJoined (p ++ 44 ∷ join_parts q qs) day span) (sym more)
    (p, join_parts q qs, refl, span_found day p span (f.2 ∙ ap Some same), joined_found day q qs g.0 g.1 (f.3 ∙ ap Some g.4))

joined_again : (day : Day) (text : List ℕ) (span : DaySpan) (spans : List DaySpan) → AreJoined text day span spans → each_span day (pieces text) ≡ Some (span ∷ spans)
joined_again day text span [] is =
    ap (each_span day) (one_piece text (span_inner day text span is)) ∙ rw (span_again day text span is) refl
joined_again day text span (next ∷ others) is =
    let front = is.0 in
    let rest = is.1 in
    ap (λ t. each_span day (pieces t)) is.2 ∙ ap (each_span day) (front_piece is.0 is.1 (span_inner day is.0 span is.3))
    ∙ rw (span_again day is.0 span is.3, joined_again day is.1 next others is.4) refl

pieces_found : (day : Day) (text : List ℕ) (spans : List DaySpan) (parts : Parts text) → each_span day (pieces text) ≡ Some spans → (span : DaySpan) × (more : List DaySpan) × (spans ≡ span ∷ more) × AreJoined text day span more
pieces_found day text spans parts e =
    let each : each_span day (parts.first ∷ parts.others) ≡ Some spans = ap (each_span day) (sym parts.are) ∙ e in
    let f = with_found (span_of day parts.first) (each_span day parts.others) spans each in
    (f.0, f.1, f.4, subst (λ t. AreJoined t day f.0 f.1) (sym parts.joined) (joined_found day parts.first parts.others f.0 f.1 (each ∙ ap Some f.4)))

-- a text with a character has a part
some_pieces : (day : Day) (b : ℕ) (bs : List ℕ) → spans_of day (b ∷ bs) ≡ each_span day (pieces (b ∷ bs))
unfolding pieces_spans
some_pieces day b bs =
    let test : (suc (length bs) == 0) ≡ false = grind (arith, nat_tests) in
    rw test refl

pub spans_found : (day : Day) (text : List ℕ) (spans : List DaySpan) → spans_of day text ≡ Some spans → AreSpans text day spans
spans_found day [] spans e = let none : [] ≡ spans = cc in subst (AreSpans [] day) none refl
spans_found day (b ∷ bs) spans e =
    let f = pieces_found day (b ∷ bs) spans (parts_of (b ∷ bs)) (sym (some_pieces day b bs) ∙ e) in
    subst (AreSpans (b ∷ bs) day) (sym f.2) f.3

-- no span is written by nothing
none_joined : (day : Day) (span : DaySpan) (spans : List DaySpan) → AreJoined [] day span spans → ⊥
none_joined day span [] is = absurd (omega (arith, ap length is.written, length-append is.before (span_text is.from is.to ++ is.after)))
none_joined day span (next ∷ others) is = absurd (omega (arith, ap length is.2, length-append is.0 (44 ∷ is.1)))

pub spans_again : (day : Day) (text : List ℕ) (spans : List DaySpan) → AreSpans text day spans → spans_of day text ≡ Some spans
spans_again day text [] none = ap (spans_of day) none
spans_again day [] (span ∷ spans) are = absurd (none_joined day span spans are)
spans_again day (b ∷ bs) (span ∷ spans) are = some_pieces day b bs ∙ joined_again day (b ∷ bs) span spans are
