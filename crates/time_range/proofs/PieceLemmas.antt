-- The parts of a text that commas divide.
use Rattle.std.proofs.Common.{◌≡◌, ℕ, suc, ◌+◌, ◌<◌, true, false, inl, inr, Option, Some, None, List, [], ◌∷◌, ◌++◌, length, option_map, refl, sym, ap, ◌∙◌, arith, nat_lt, length-drop, append_assoc}
use Rattle.std.specs.List.{prefix_len, list_all}
use Rattle.std.proofs.lemmas.Bool.{cases_Bool}
use Rattle.std.proofs.lemmas.Bool.Decides.{nat_tests}
use Rattle.site_base.specs.declared.day.Day.{Day}
use Rattle.site_base.specs.declared.day_span.DaySpan.{DaySpan}
use Rattle.time_range.proofs.ClockLemmas.{both}
use Rattle.time_range.specs.Spans.{is_inner, first_piece, more_pieces, put_front, pieces, with_span, each_span, pieces_spans, span_of, IsPushed}

-- parts, joined by commas
abbrev pub join_parts : List ℕ → List (List ℕ) → List ℕ
join_parts p [] = p
join_parts p (q ∷ qs) = p ++ 44 ∷ join_parts q qs

-- the parts behind the first
abbrev pub other_pieces : Option (List ℕ) → List (List ℕ)
other_pieces None = []
other_pieces (Some rest) = pieces rest

-- the spans of what is left
abbrev pub rest_spans : Day → Option (List ℕ) → Option (List DaySpan)
rest_spans day None = Some []
rest_spans day (Some rest) = pieces_spans day rest

abbrev pub rest_length : Option (List ℕ) → ℕ
rest_length None = 0
rest_length (Some rest) = length rest + 1

-- what follows a byte that is no comma
after_inner : (b : ℕ) (bs : List ℕ) → is_inner b ≡ true → more_pieces (b ∷ bs) ≡ more_pieces bs
after_inner b bs inner =
    let n = prefix_len is_inner bs in
    let same : prefix_len is_inner (b ∷ bs) ≡ suc n = rw inner (omega arith) in
    let test : nat_lt (suc n) (suc (length bs)) ≡ nat_lt n (length bs) = grind (arith, nat_tests) in
    let more : suc n + 1 ≡ suc (n + 1) = omega arith in
    rw (same, test, more) refl

first_inner : (b : ℕ) (bs : List ℕ) → is_inner b ≡ true → first_piece (b ∷ bs) ≡ b ∷ first_piece bs
first_inner b bs inner =
    let same : prefix_len is_inner (b ∷ bs) ≡ suc (prefix_len is_inner bs) = rw inner (omega arith) in
    rw same refl

inner_split : (b : ℕ) (bs : List ℕ) → is_inner b ≡ true → pieces bs ≡ first_piece bs ∷ other_pieces (more_pieces bs) → pieces (b ∷ bs) ≡ first_piece (b ∷ bs) ∷ other_pieces (more_pieces (b ∷ bs))
inner_split b bs inner more =
    let left : pieces (b ∷ bs) ≡ put_front b (pieces bs) = rw inner refl in
    left ∙ ap (put_front b) more
    ∙ sym (ap (λ p. p ∷ other_pieces (more_pieces (b ∷ bs))) (first_inner b bs inner) ∙ ap (λ m. (b ∷ first_piece bs) ∷ other_pieces m) (after_inner b bs inner))

comma_split : (b : ℕ) (bs : List ℕ) → is_inner b ≡ false → pieces (b ∷ bs) ≡ first_piece (b ∷ bs) ∷ other_pieces (more_pieces (b ∷ bs))
comma_split b bs comma =
    let test : nat_lt 0 (suc (length bs)) ≡ true = grind (arith, nat_tests) in
    rw (comma, test) refl

pub pieces_split : (text : List ℕ) → pieces text ≡ first_piece text ∷ other_pieces (more_pieces text)
pieces_split [] = refl
pieces_split (b ∷ bs) =
    elim (cases_Bool (is_inner b)) [
      | inl inner ↦ inner_split b bs inner (pieces_split bs)
      | inr comma ↦ comma_split b bs comma
    ]

each_split : (day : Day) (p : List ℕ) (more : Option (List ℕ)) → each_span day (p ∷ other_pieces more) ≡ with_span (span_of day p) (rest_spans day more)
unfolding pieces_spans
each_split day p None = refl
each_split day p (Some rest) = refl

-- the spans of a text, from its first part on
pub spans_split : (day : Day) (text : List ℕ) → pieces_spans day text ≡ with_span (span_of day (first_piece text)) (rest_spans day (more_pieces text))
unfolding pieces_spans
spans_split day text = ap (each_span day) (pieces_split text) ∙ each_split day (first_piece text) (more_pieces text)

-- what is left is shorter
pub more_shorter : (text : List ℕ) → rest_length (more_pieces text) < length text + 1
more_shorter text =
    elim (cases_Bool (nat_lt (prefix_len is_inner text) (length text))) [
      | inl at ↦ (let within : prefix_len is_inner text < length text = grind (arith, nat_tests) in
          let left = length-drop (prefix_len is_inner text + 1) text in
          rw at (omega (arith, left, within)))
      | inr none ↦ rw none (omega arith)
    ]

-- No part has a comma, and all are joined by commas again. Parts, the first and the others:
pub record Parts (text : List ℕ) : Type 0 where
  pub first : List ℕ
  pub others : List (List ℕ)
  pub are : pieces text ≡ first ∷ others
  pub joined : text ≡ join_parts first others

-- a text without a comma is one part
pub one_piece : (text : List ℕ) → list_all is_inner text ≡ true → pieces text ≡ text ∷ []
one_piece [] e = refl
one_piece (b ∷ bs) e =
    let g = both (is_inner b) (list_all is_inner bs) e in
    rw g.0 (ap (put_front b) (one_piece bs g.1))

-- what stands before the first comma is a part
pub front_piece : (front rest : List ℕ) → list_all is_inner front ≡ true → pieces (front ++ 44 ∷ rest) ≡ front ∷ pieces rest
front_piece [] rest e = refl
front_piece (b ∷ bs) rest e =
    let g = both (is_inner b) (list_all is_inner bs) e in
    rw g.0 (ap (put_front b) (front_piece bs rest g.1))

put_joined : (b : ℕ) (p : List ℕ) (ps : List (List ℕ)) → b ∷ join_parts p ps ≡ join_parts (b ∷ p) ps
put_joined b p [] = refl
put_joined b p (q ∷ qs) = refl

inner_parts : (b : ℕ) (bs : List ℕ) → is_inner b ≡ true → Parts bs → Parts (b ∷ bs)
inner_parts b bs inner parts =
    let left : pieces (b ∷ bs) ≡ put_front b (pieces bs) = rw inner refl in
    record {
      first = b ∷ parts.first;
      others = parts.others;
      are = left ∙ ap (put_front b) parts.are;
      joined = ap (λ t. b ∷ t) parts.joined ∙ put_joined b parts.first parts.others;
    }

comma_parts : (b : ℕ) (bs : List ℕ) → is_inner b ≡ false → Parts bs → Parts (b ∷ bs)
comma_parts b bs comma parts =
    let left : pieces (b ∷ bs) ≡ [] ∷ pieces bs = rw comma refl in
    let is : b ≡ 44 = grind (arith, nat_tests, comma) in
    record {
      first = [];
      others = parts.first ∷ parts.others;
      are = left ∙ ap (λ ps. [] ∷ ps) parts.are;
      joined = rw is (ap (λ t. 44 ∷ t) parts.joined);
    }

pub parts_of : (text : List ℕ) → Parts text
parts_of [] = record { first = []; others = []; are = refl; joined = refl }
parts_of (b ∷ bs) =
    elim (cases_Bool (is_inner b)) [
      | inl inner ↦ inner_parts b bs inner (parts_of bs)
      | inr comma ↦ comma_parts b bs comma (parts_of bs)
    ]

-- The loop over the parts.

no_spans : (out old : List DaySpan) (o : Option (List DaySpan)) → None ≡ option_map (λ spans. old ++ spans) o → IsPushed false old out o
no_spans out old None e = refl
no_spans out old (Some spans) e = absurd (cc)

-- where a part is no span, the text has no spans
pub none_left : (day : Day) (out old : List DaySpan) (rest text : List ℕ) → option_map (λ spans. out ++ spans) (pieces_spans day rest) ≡ option_map (λ spans. old ++ spans) (pieces_spans day text) → None ≡ span_of day (first_piece rest) → IsPushed false old out (pieces_spans day text)
none_left day out old rest text e none =
    let read : pieces_spans day rest ≡ None = spans_split day rest ∙ ap (λ o. with_span o (rest_spans day (more_pieces rest))) (sym none) in
    no_spans out old (pieces_spans day text) (ap (option_map (λ spans. out ++ spans)) (sym read) ∙ e)

put_behind : (out : List DaySpan) (span : DaySpan) (o : Option (List DaySpan)) → option_map (λ spans. (out ++ span ∷ []) ++ spans) o ≡ option_map (λ spans. out ++ spans) (with_span (Some span) o)
put_behind out span None = refl
put_behind out span (Some spans) = ap Some (append_assoc out (span ∷ []) spans)

-- the span of a part is added
pub one_more : (day : Day) (out new : List DaySpan) (rest : List ℕ) (span : DaySpan) (all : Option (List DaySpan)) → option_map (λ spans. out ++ spans) (pieces_spans day rest) ≡ all → Some span ≡ span_of day (first_piece rest) → new ≡ out ++ span ∷ [] → option_map (λ spans. new ++ spans) (rest_spans day (more_pieces rest)) ≡ all
one_more day out new rest span all e is added =
    ap (λ front. option_map (λ spans. front ++ spans) (rest_spans day (more_pieces rest))) added
    ∙ put_behind out span (rest_spans day (more_pieces rest))
    ∙ ap (λ o. option_map (λ spans. out ++ spans) (with_span o (rest_spans day (more_pieces rest)))) is
    ∙ ap (option_map (λ spans. out ++ spans)) (sym (spans_split day rest)) ∙ e
