-- Which spans a text stands for.
use Rattle.std.specs.Prelude.{◌≡◌, ℕ, ◌+◌, ◌*◌, ◌<◌, ◌≤◌, ◌==◌, ◌&&◌, ◌||◌, not, nat_lt, nat_le, Bool, true, false, Option, Some, None, List, [], ◌∷◌, ◌++◌, length, take, drop, slice_index, option_map, option_and_then, if◌then◌else◌}
use Rattle.std.specs.List.{prefix_len, list_all}
use Rattle.site_base.specs.declared.day.Day.{Day}
use Rattle.site_base.specs.declared.day_span.DaySpan.{DaySpan}
use Rattle.time_range.specs.Clock.{clock_text, minute_at}

-- a space, a tab or a carriage return
abbrev pub is_blank : ℕ → Bool
is_blank b = (b == 32) || (b == 9) || (b == 13)

-- two times of a clock, so many minutes after midnight, with a hyphen between
abbrev pub span_text : ℕ → ℕ → List ℕ
span_text from to = clock_text from ++ 45 ∷ clock_text to

-- A text is this span: two times, the first before the second, which is at most 24:00,
-- and blanks on either side.
pub record IsSpan (text : List ℕ) (day : Day) (span : DaySpan) : Type 0 where
  pub before : List ℕ
  pub from : ℕ
  pub to : ℕ
  pub after : List ℕ
  pub written : text ≡ before ++ (span_text from to ++ after)
  pub blank_before : list_all is_blank before ≡ true
  pub blank_after : list_all is_blank after ≡ true
  pub ordered : from < to
  pub within : to ≤ 24 * 60
  pub is : span ≡ record { day = day; from = from * 60; to = to * 60 }

-- a text is these spans, the first and then the others, joined by commas
abbrev pub AreJoined : List ℕ → Day → DaySpan → List DaySpan → Type 0
AreJoined text day span [] = IsSpan text day span
AreJoined text day span (next ∷ others) =
    (front : List ℕ) × (rest : List ℕ) × (text ≡ front ++ 44 ∷ rest) × IsSpan front day span × AreJoined rest day next others

-- a text is these spans: the empty text is none
abbrev pub AreSpans : List ℕ → Day → List DaySpan → Type 0
AreSpans text day [] = text ≡ []
AreSpans text day (span ∷ others) = AreJoined text day span others

-- The same, calculated.

abbrev pub span_between : Day → ℕ → ℕ → Option DaySpan
span_between day from to =
    if nat_lt from to && nat_le to 1440 then Some (record { day = day; from = from * 60; to = to * 60 }) else None

-- the span that a text without blanks at its front begins with, if no more than blanks follow
unfoldable pub span_at : Day → List ℕ → Option DaySpan
span_at day body =
    if nat_le 11 (length body) && (slice_index body 5 == 45) && list_all is_blank (drop 11 body)
    then option_and_then (λ from. option_and_then (λ to. span_between day from to) (minute_at body 6)) (minute_at body 0)
    else None

abbrev pub span_of : Day → List ℕ → Option DaySpan
span_of day text = span_at day (drop (prefix_len is_blank text) text)

-- whether a byte is no comma
abbrev pub is_inner : ℕ → Bool
is_inner b = not (b == 44)

-- what stands before the first comma, or all
abbrev pub first_piece : List ℕ → List ℕ
first_piece text = take (prefix_len is_inner text) text

-- what stands behind it
abbrev pub more_pieces : List ℕ → Option (List ℕ)
more_pieces text =
    if nat_lt (prefix_len is_inner text) (length text) then Some (drop (prefix_len is_inner text + 1) text) else None

-- the parts of a text that commas divide
abbrev pub put_front : ℕ → List (List ℕ) → List (List ℕ)
put_front b [] = []
put_front b (p ∷ ps) = (b ∷ p) ∷ ps

abbrev pub pieces : List ℕ → List (List ℕ)
pieces [] = [] ∷ []
pieces (b ∷ bs) = if is_inner b then put_front b (pieces bs) else [] ∷ pieces bs

-- a span, and then the others
abbrev pub with_span : Option DaySpan → Option (List DaySpan) → Option (List DaySpan)
with_span None others = None
with_span (Some span) others = option_map (λ spans. span ∷ spans) others

-- a span for each part
abbrev pub each_span : Day → List (List ℕ) → Option (List DaySpan)
each_span day [] = Some []
each_span day (p ∷ ps) = with_span (span_of day p) (each_span day ps)

unfoldable pub pieces_spans : Day → List ℕ → Option (List DaySpan)
pieces_spans day text = each_span day (pieces text)

abbrev pub spans_of : Day → List ℕ → Option (List DaySpan)
spans_of day text = if length text == 0 then Some [] else pieces_spans day text

-- the spans were added, if there are any to add
abbrev pub IsPushed : Bool → List DaySpan → List DaySpan → Option (List DaySpan) → Type 0
IsPushed taken old new None = taken ≡ false
IsPushed taken old new (Some spans) = (taken ≡ true) × (new ≡ old ++ spans)
