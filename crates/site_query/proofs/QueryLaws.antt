-- Queries, both ways.
use Rattle.std.proofs.Common.{◌≡◌, ℕ, ◌+◌, ◌<◌, ◌≤◌, min, Bool, true, false, cond, List, [], ◌∷◌, ◌++◌, length, refl, sym, ap, ◌∙◌, subst, append_assoc, append-nil, arith, inl, inr, Option, Some, None, Result, Ok, Err}
use Rattle.std.proofs.lemmas.List.{length-append}
use Rattle.std.proofs.lemmas.Str.{IsUtf8-from_is_utf8, is_utf8-from_IsUtf8}
use Rattle.std.specs.List.{join_with_byte}
use Rattle.std.specs.Option.{option_and_then}
use Rattle.std.specs.Str.{IsUtf8, is_utf8}
use Rattle.site_text.specs.ScriptReading.{next}
use Rattle.site_query.specs.Lines.{all_of, with_line, Adds, IsOneLine, Ask, ended, lines_text, IsQuery, WantsLine, IsBadAt, Answer, told, bad_line, Has}
use Rattle.site_query.specs.Reading.{lines_of, line_read, kind_read, with_text, behind_line, last_read, lines_read, kind_with, text_read, query_read, Gives, Tells}
use Rattle.site_query.specs.declared.query.Query.{Query}
use Rattle.site_query.specs.declared.query_error.QueryError.{QueryError}
use Rattle.site_query.specs.declared.query_error.QueryError.TheVariants as error
use Rattle.site_query.specs.declared.query_line.QueryLine.{QueryLine}
use Rattle.site_query.proofs.LineLaws.{line_sound, line_complete, kind_sound, kind_complete}
use Rattle.site_query.proofs.PartLaws.{AllLack, HasPart, some_part, parts_at, parts_joined, parts_lack, parts_of_joined}

-- One line.
adds_read : (p q : Query) (text : List ℕ) → Adds (Some p) text q → with_text p text ≡ Some q
adds_read p q text h = ap (option_and_then (λ l. with_line p l)) (line_complete h.0 text h.1) ∙ h.2

read_adds : (p q : Query) (text : List ℕ) → with_text p text ≡ Some q → Adds (Some p) text q
read_adds p q text e = by (line_read text) refl e
  where
    by : (r : Option QueryLine) → line_read text ≡ r → option_and_then (λ l. with_line p l) r ≡ Some q → Adds (Some p) text q
    by None h e = cc
    by (Some l) h e = (l, line_sound l text h, e)

lines_at : (t rest : List ℕ) → IsOneLine t → lines_of (ended t ++ rest) ≡ t ∷ lines_of rest
lines_at t rest h = ap lines_of (append_assoc t (10 ∷ []) rest) ∙ parts_at 10 t rest h

-- What a query has is read.
abbrev count : ℕ → List (List ℕ) → ℕ
count n [] = n
count n (t ∷ ts) = count (next n) ts

count_is : (ts : List (List ℕ)) (n : ℕ) → n ≤ 4294967295 → count n ts ≡ min (n + length ts) 4294967295
count_is [] n h = omega arith
count_is (t ∷ ts) n h =
    let low : next n ≤ 4294967295 = omega arith in
    count_is ts (next n) low ∙ omega arith

pub more_read : (p q : Query) (n : ℕ) (t : List ℕ) (us : List (List ℕ)) → HasPart us → with_text p t ≡ Some q → lines_read p n (t ∷ us) ≡ lines_read q (next n) us
more_read p q n t us h e =
    ap (λ vs. lines_read p n (t ∷ vs)) h.is
    ∙ (ap (behind_line (λ r. lines_read r (next n) (h.first ∷ h.more)) (next n)) e ∙ ap (lines_read q (next n)) (sym h.is))

split_lines : (t : List ℕ) (ts : List (List ℕ)) (rest : List ℕ) → IsOneLine t → lines_of (lines_text (t ∷ ts) ++ rest) ≡ t ∷ lines_of (lines_text ts ++ rest)
split_lines t ts rest h = ap lines_of (append_assoc (ended t) (lines_text ts) rest) ∙ lines_at t (lines_text ts ++ rest) h

ask_read : (ts : List (List ℕ)) (p q : Query) (n : ℕ) (rest : List ℕ) → Ask (Some p) ts (Some q) → lines_read p n (lines_of (lines_text ts ++ rest)) ≡ lines_read q (count n ts) (lines_of rest)
ask_read [] p q n rest h = let is : p ≡ q = cc in ap (λ r. lines_read r n (lines_of rest)) is
ask_read (t ∷ ts) p q n rest h =
    ap (lines_read p n) (split_lines t ts rest h.1)
    ∙ (more_read p h.0 n t (lines_of (lines_text ts ++ rest)) (some_part 10 (lines_text ts ++ rest)) (adds_read p h.0 t h.2)
    ∙ ask_read ts h.0 q (next n) rest h.3)

kind_first : (t : List ℕ) (us : List (List ℕ)) → HasPart us → text_read (t ∷ us) ≡ kind_with (kind_read t) us
kind_first t us h = ap (λ vs. text_read (t ∷ vs)) h.is ∙ ap (kind_with (kind_read t)) (sym h.is)

-- what a text is read as, by its first line
pub text_by : (text first rest : List ℕ) (hosts : Bool) (q : Query) → lines_of text ≡ first ∷ lines_of rest → Some hosts ≡ kind_read first → q ≡ all_of hosts → lines_read q 1 (lines_of rest) ≡ text_read (lines_of text)
text_by text first rest hosts q parts kind is =
    ap (λ p. lines_read p 1 (lines_of rest)) is
    ∙ (ap (λ k. kind_with k (lines_of rest)) kind ∙ (sym (kind_first first (lines_of rest) (some_part 10 rest)) ∙ sym (ap text_read parts)))

first_read : (t : List ℕ) (us : List (List ℕ)) (q : Query) → HasPart us → Adds None t q → text_read (t ∷ us) ≡ lines_read q 1 us
first_read t us q h g =
    kind_first t us h
    ∙ (ap (λ k. kind_with k us) (kind_complete g.0 t g.1) ∙ ap (λ r. lines_read r 1 us) (sym g.2))

all_read : (ts : List (List ℕ)) (q : Query) (rest : List ℕ) → Ask None ts (Some q) → text_read (lines_of (lines_text ts ++ rest)) ≡ lines_read q (count 0 ts) (lines_of rest)
all_read [] q rest h = absurd (let no : None ≡ Some q = h in cc)
all_read (t ∷ ts) q rest h =
    ap text_read (split_lines t ts rest h.1)
    ∙ (first_read t (lines_of (lines_text ts ++ rest)) h.0 (some_part 10 (lines_text ts ++ rest)) h.2
    ∙ ask_read ts h.0 q 1 rest h.3)

-- of a text
pub text_of_query : (bytes : List ℕ) → IsUtf8 bytes → query_read bytes ≡ text_read (lines_of bytes)
unfolding query_read
text_of_query bytes h = ap (λ t. cond t (text_read (lines_of bytes)) (bad_line 1)) (is_utf8-from_IsUtf8 bytes h)

pub no_text : (bytes : List ℕ) → (IsUtf8 bytes → ⊥) → query_read bytes ≡ bad_line 1
unfolding query_read
no_text bytes h = by (is_utf8 bytes) refl
  where
    by : (t : Bool) → is_utf8 bytes ≡ t → cond (is_utf8 bytes) (text_read (lines_of bytes)) (bad_line 1) ≡ bad_line 1
    by true e = absurd (h (IsUtf8-from_is_utf8 bytes e))
    by false e = ap (λ t. cond t (text_read (lines_of bytes)) (bad_line 1)) e

query_found : (bytes : List ℕ) (q : Query) → IsQuery bytes q → query_read bytes ≡ told q
query_found bytes q h =
    text_of_query bytes h.text
    ∙ (ap (λ bs. text_read (lines_of bs)) (h.spelled ∙ sym (append-nil (lines_text h.lines)))
    ∙ all_read h.lines q [] h.ask)

-- where no line stands at the front
abbrev HasNone : Option Query → List ℕ → Type 0
HasNone before rest = (t behind : List ℕ) (q : Query) → IsOneLine t → Adds before t q → rest ≡ ended t ++ behind → ⊥

front_is : (rest t u : List ℕ) (us : List (List ℕ)) → lines_of rest ≡ t ∷ u ∷ us → rest ≡ ended t ++ join_with_byte 10 (u ∷ us)
front_is rest t u us e = sym (parts_joined 10 rest) ∙ (ap (join_with_byte 10) e ∙ sym (append_assoc t (10 ∷ []) (join_with_byte 10 (u ∷ us))))

front_whole : (rest t : List ℕ) (us : List (List ℕ)) → lines_of rest ≡ t ∷ us → IsOneLine t
front_whole rest t us e = (subst (AllLack 10) e (parts_lack 10 rest)).0

none_first : (rest : List ℕ) → HasNone None rest → text_read (lines_of rest) ≡ bad_line 1
none_first rest none = by (lines_of rest) refl
  where
    kinds : (t u : List ℕ) (us : List (List ℕ)) → lines_of rest ≡ t ∷ u ∷ us → (k : Option Bool) → kind_read t ≡ k → kind_with k (u ∷ us) ≡ bad_line 1
    kinds t u us e None k = refl
    kinds t u us e (Some hosts) k =
        absurd (none t (join_with_byte 10 (u ∷ us)) (all_of hosts) (front_whole rest t (u ∷ us) e) (hosts, kind_sound hosts t k, refl) (front_is rest t u us e))

    by : (ys : List (List ℕ)) → lines_of rest ≡ ys → text_read (lines_of rest) ≡ bad_line 1
    by [] e = ap text_read e
    by (t ∷ []) e = ap text_read e
    by (t ∷ u ∷ us) e = ap text_read e ∙ kinds t u us e (kind_read t) refl

none_later : (q : Query) (n : ℕ) (rest : List ℕ) → 0 < length rest → HasNone (Some q) rest → lines_read q n (lines_of rest) ≡ bad_line (next n)
none_later q n rest some none = by (lines_of rest) refl
  where
    last : (t : List ℕ) → t ≡ rest → last_read q n t ≡ bad_line (next n)
    last [] e = absurd (omega (arith, some, ap length e))
    last (b ∷ bs) e = refl

    lines : (t u : List ℕ) (us : List (List ℕ)) → lines_of rest ≡ t ∷ u ∷ us → (r : Option Query) → with_text q t ≡ r → behind_line (λ p. lines_read p (next n) (u ∷ us)) (next n) r ≡ bad_line (next n)
    lines t u us e None g = refl
    lines t u us e (Some p) g =
        absurd (none t (join_with_byte 10 (u ∷ us)) p (front_whole rest t (u ∷ us) e) (read_adds q p t g) (front_is rest t u us e))

    by : (ys : List (List ℕ)) → lines_of rest ≡ ys → lines_read q n (lines_of rest) ≡ bad_line (next n)
    by [] e = absurd (omega (arith, some, ap length (sym (ap (join_with_byte 10) e) ∙ parts_joined 10 rest)))
    by (t ∷ []) e = ap (lines_read q n) e ∙ last t (sym (ap (join_with_byte 10) e) ∙ parts_joined 10 rest)
    by (t ∷ u ∷ us) e = ap (lines_read q n) e ∙ lines t u us e (with_text q t) refl

-- lines ask for something
some_asked : (ts : List (List ℕ)) (p : Query) → Ask (Some p) ts None → ⊥
some_asked [] p h = absurd (let no : Some p ≡ None = h in cc)
some_asked (t ∷ ts) p h = some_asked ts h.0 h.3

bad_found : (bytes : List ℕ) (n : ℕ) → IsBadAt bytes n → query_read bytes ≡ bad_line n
bad_found bytes n h = text_of_query bytes h.text ∙ by h.before h.ask h.wants h.none
  where
    number : next (count 0 h.lines) ≡ n
    number = let low : 0 ≤ 4294967295 = omega arith in omega (arith, count_is h.lines 0 low, h.number)

    alone : (ts : List (List ℕ)) → ts ≡ h.lines → Ask None ts None → HasNone None h.rest → text_read (lines_of bytes) ≡ bad_line n
    alone [] e ask none =
        ap (λ bs. text_read (lines_of bs)) (h.whole ∙ ap (λ ts. lines_text ts ++ h.rest) (sym e))
        ∙ (none_first h.rest none ∙ ap bad_line (ap (λ ts. next (count 0 ts)) e ∙ number))
    alone (t ∷ ts) e ask none = absurd (some_asked ts ask.0 ask.3)

    by : (before : Option Query) → Ask None h.lines before → WantsLine before h.rest → HasNone before h.rest → text_read (lines_of bytes) ≡ bad_line n
    by None ask wants none = alone h.lines refl ask none
    by (Some q) ask wants none =
        ap (λ bs. text_read (lines_of bs)) h.whole
        ∙ (all_read h.lines q h.rest ask ∙ (none_later q (count 0 h.lines) h.rest wants none ∙ ap bad_line number))

pub has_read : (bytes : List ℕ) (a : Answer) → Has bytes a → query_read bytes ≡ a
has_read bytes (told q) h = query_found bytes q h
has_read bytes (bad_line n) (inl h) = no_text bytes h.0 ∙ ap bad_line (sym h.1)
has_read bytes (bad_line n) (inr h) = bad_found bytes n h

-- And what is read is what the bytes tell.
lines_append : (ts : List (List ℕ)) (t rest : List ℕ) → lines_text (ts ++ t ∷ []) ++ rest ≡ lines_text ts ++ (ended t ++ rest)
lines_append [] t rest = ap (λ xs. xs ++ rest) (append-nil (ended t))
lines_append (u ∷ ts) t rest =
    append_assoc (ended u) (lines_text (ts ++ t ∷ [])) rest
    ∙ (ap (λ xs. ended u ++ xs) (lines_append ts t rest) ∙ sym (append_assoc (ended u) (lines_text ts) (ended t ++ rest)))

ask_append : (ts : List (List ℕ)) (before middle : Option Query) (t : List ℕ) (q : Query) → Ask before ts middle → IsOneLine t → Adds middle t q → Ask before (ts ++ t ∷ []) (Some q)
ask_append [] before middle t q h one adds = (q, one, subst (λ p. Adds p t q) (sym h) adds, refl)
ask_append (u ∷ ts) before middle t q h one adds = (h.0, h.1, h.2, ask_append ts (Some h.0) middle t q h.3 one adds)

-- behind lines that ask for something
pub record IsBehind (whole : List ℕ) (lines : List (List ℕ)) (before : Option Query) (n : ℕ) (rest : List ℕ) : Type 0 where
  pub text : IsUtf8 whole
  pub spelled : whole ≡ lines_text lines ++ rest
  pub ask : Ask None lines before
  pub number : n ≡ min (length lines) 4294967295

one_more : (whole : List ℕ) (lines : List (List ℕ)) (before : Option Query) (n : ℕ) (t rest : List ℕ) (q : Query) → IsBehind whole lines before n (t ++ 10 ∷ rest) → IsOneLine t → Adds before t q
    → IsBehind whole (lines ++ t ∷ []) (Some q) (next n) rest
one_more whole lines before n t rest q h one adds = record {
  text = h.text;
  spelled = h.spelled ∙ (ap (λ xs. lines_text lines ++ xs) (sym (append_assoc t (10 ∷ []) rest)) ∙ sym (lines_append lines t rest));
  ask = ask_append lines None before t q h.ask one adds;
  number = omega (arith, h.number, length-append lines (t ∷ []));
}

bad_here : (whole : List ℕ) (lines : List (List ℕ)) (before : Option Query) (n : ℕ) (rest : List ℕ) → IsBehind whole lines before n rest → WantsLine before rest → HasNone before rest → IsBadAt whole (next n)
bad_here whole lines before n rest h wants none = record {
  lines = lines;
  before = before;
  rest = rest;
  text = h.text;
  whole = h.spelled;
  ask = h.ask;
  number = omega (arith, h.number);
  wants = wants;
  none = none;
}

-- a line at the front is the first part, and others follow it
front_line : (ys : List (List ℕ)) (t behind : List ℕ) → lines_of (join_with_byte 10 ys) ≡ ys → IsOneLine t → join_with_byte 10 ys ≡ ended t ++ behind → ys ≡ t ∷ lines_of behind
front_line ys t behind e one is = sym e ∙ (ap lines_of is ∙ lines_at t behind one)

alone_none : (before : Option Query) (t : List ℕ) → AllLack 10 (t ∷ []) → HasNone before t
alone_none before t lack u behind q one adds is =
    let parts : t ∷ [] ≡ u ∷ lines_of behind = front_line (t ∷ []) u behind (parts_of_joined 10 t [] lack) one is in
    let h = some_part 10 behind in
    let no : [] ≡ h.first ∷ h.more = (let rest : [] ≡ lines_of behind = cc in rest ∙ h.is) in
    absurd cc

front_none : (before : Option Query) (t u : List ℕ) (us : List (List ℕ)) → AllLack 10 (t ∷ u ∷ us) → ((q : Query) → Adds before t q → ⊥) → HasNone before (t ++ 10 ∷ join_with_byte 10 (u ∷ us))
front_none before t u us lack none v behind q one adds is =
    let parts : t ∷ u ∷ us ≡ v ∷ lines_of behind = front_line (t ∷ u ∷ us) v behind (parts_of_joined 10 t (u ∷ us) lack) one is in
    let same : v ≡ t = cc in
    none q (subst (λ x. Adds before x q) same adds)

judged_from : (ys : List (List ℕ)) (whole : List ℕ) (lines : List (List ℕ)) (q : Query) (n : ℕ) → AllLack 10 ys → IsBehind whole lines (Some q) n (join_with_byte 10 ys) → Has whole (lines_read q n ys)
judged_from [] whole lines q n lack h = record { lines = lines; text = h.text; spelled = h.spelled ∙ append-nil (lines_text lines); ask = h.ask }
judged_from ([] ∷ []) whole lines q n lack h = record { lines = lines; text = h.text; spelled = h.spelled ∙ append-nil (lines_text lines); ask = h.ask }
judged_from ((b ∷ bs) ∷ []) whole lines q n lack h = inr (bad_here whole lines (Some q) n (b ∷ bs) h (omega arith) (alone_none (Some q) (b ∷ bs) lack))
judged_from (t ∷ u ∷ us) whole lines q n lack h = by (λ p g. judged_from (u ∷ us) whole (lines ++ t ∷ []) p (next n) lack.1 g) (with_text q t) refl
  where
    lacks : with_text q t ≡ None → (p : Query) → Adds (Some q) t p → ⊥
    lacks e p adds = let found : with_text q t ≡ Some p = adds_read q p t adds in cc

    by : ((p : Query) → IsBehind whole (lines ++ t ∷ []) (Some p) (next n) (join_with_byte 10 (u ∷ us)) → Has whole (lines_read p (next n) (u ∷ us)))
        → (r : Option Query) → with_text q t ≡ r → Has whole (behind_line (λ p. lines_read p (next n) (u ∷ us)) (next n) (with_text q t))
    by again None e =
        subst (λ r. Has whole (behind_line (λ p. lines_read p (next n) (u ∷ us)) (next n) r)) (sym e)
        (inr (bad_here whole lines (Some q) n (join_with_byte 10 (t ∷ u ∷ us)) h (omega (arith, length-append t (10 ∷ join_with_byte 10 (u ∷ us)))) (front_none (Some q) t u us lack (lacks e))))
    by again (Some p) e =
        subst (λ r. Has whole (behind_line (λ p. lines_read p (next n) (u ∷ us)) (next n) r)) (sym e)
        (again p (one_more whole lines (Some q) n t (join_with_byte 10 (u ∷ us)) p h lack.0 (read_adds q p t e)))

judged_first : (ys : List (List ℕ)) (whole : List ℕ) → HasPart ys → AllLack 10 ys → IsBehind whole [] None 0 (join_with_byte 10 ys) → Has whole (text_read ys)
judged_first [] whole some lack h = let no : [] ≡ some.first ∷ some.more = some.is in cc
judged_first (t ∷ []) whole some lack h = inr (bad_here whole [] None 0 t h tt (alone_none None t lack))
judged_first (t ∷ u ∷ us) whole some lack h = by (kind_read t) refl
  where
    lacks : kind_read t ≡ None → (p : Query) → Adds None t p → ⊥
    lacks e p adds = let found : kind_read t ≡ Some adds.0 = kind_complete adds.0 t adds.1 in cc

    by : (k : Option Bool) → kind_read t ≡ k → Has whole (kind_with (kind_read t) (u ∷ us))
    by None e =
        subst (λ k. Has whole (kind_with k (u ∷ us))) (sym e)
        (inr (bad_here whole [] None 0 (join_with_byte 10 (t ∷ u ∷ us)) h tt (front_none None t u us lack (lacks e))))
    by (Some hosts) e =
        subst (λ k. Has whole (kind_with k (u ∷ us))) (sym e)
        (judged_from (u ∷ us) whole (t ∷ []) (all_of hosts) 1 lack.1
        (one_more whole [] None 0 t (join_with_byte 10 (u ∷ us)) (all_of hosts) h lack.0 (hosts, kind_sound hosts t e, refl)))

judged_text : (bytes : List ℕ) → IsUtf8 bytes → Has bytes (text_read (lines_of bytes))
judged_text bytes h =
    judged_first (lines_of bytes) bytes (some_part 10 bytes) (parts_lack 10 bytes) (record {
      text = h;
      spelled = sym (parts_joined 10 bytes);
      ask = refl;
      number = omega arith;
    })

pub judged : (bytes : List ℕ) → Has bytes (query_read bytes)
judged bytes = by (is_utf8 bytes) refl
  where
    by : (t : Bool) → is_utf8 bytes ≡ t → Has bytes (query_read bytes)
    by true e = let h : IsUtf8 bytes = IsUtf8-from_is_utf8 bytes e in subst (Has bytes) (sym (text_of_query bytes h)) (judged_text bytes h)
    by false e =
        let h : IsUtf8 bytes → ⊥ = λ g. (let yes : is_utf8 bytes ≡ true = is_utf8-from_IsUtf8 bytes g in absurd cc) in
        subst (Has bytes) (sym (no_text bytes h)) (inl (h, refl))

-- what a call gave
pub tells : (P : Answer → Type 0) (r : Result Query QueryError) (a : Answer) → Gives r a → P a → Tells P r
tells P (Ok q) a e h = subst P e h
tells P (Err (error.BadQuery n)) a e h = subst P e h
tells P (Err error.OutOfMemory) a e h = tt

pub gives : (r : Result Query QueryError) (a b : Answer) → Gives r a → a ≡ b → Gives r b
gives r a b g e = subst (λ x. Gives r x) e g
