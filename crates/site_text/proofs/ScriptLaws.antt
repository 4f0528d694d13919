-- Scripts, both ways.
use Rattle.std.proofs.Common.{◌≡◌, ℕ, zero, suc, ◌+◌, ◌<◌, ◌≤◌, min, List, [], ◌∷◌, ◌++◌, length, refl, sym, ap, ◌∙◌, subst, append_assoc, append-nil, arith, Option, Some, None, Result, Ok, Err}
use Rattle.std.proofs.lemmas.List.{length-append}
use Rattle.std.specs.List.{AllByRecursion}
use Rattle.std.specs.Option.{option_and_then}
use Rattle.site_edge.specs.declared.turn.Turn.{Turn}
use Rattle.site_text.specs.Scripts.{line_text, lines_text, IsInRange, with_line, with_lines, IsBadAt, Answer, told, bad_line, Has}
use Rattle.site_text.specs.ScriptReading.{Read, got, bad, line_at, next, behind_line, script_step, script_within, script_from, Gives, Tells}
use Rattle.site_text.specs.declared.script_error.ScriptError.{ScriptError}
use Rattle.site_text.specs.declared.script_error.ScriptError.TheVariants as error
use Rattle.site_text.specs.declared.script_line.ScriptLine.{ScriptLine}
use Rattle.site_text.proofs.ScriptLineLaws.{IsLineAt, line_sound, line_complete, line_shorter, line_none}

-- more than enough steps are enough
behind_enough : (m n k : ℕ) (rest : List ℕ) (r : Option (List Turn)) → ((ts : List Turn) → script_within m ts k rest ≡ script_within n ts k rest) → behind_line (script_within m) k rest r ≡ behind_line (script_within n) k rest r
behind_enough m n k rest None h = refl
behind_enough m n k rest (Some ts) h = h ts

enough : (m n : ℕ) (ts : List Turn) (k : ℕ) (bs : List ℕ) → length bs ≤ m → length bs ≤ n → script_within m ts k bs ≡ script_within n ts k bs
enough m n ts k [] l h = refl
enough zero n ts k (b ∷ bs) l h = absurd (omega arith)
enough (suc m) zero ts k (b ∷ bs) l h = absurd (omega arith)
enough (suc m) (suc n) ts k (b ∷ bs) l h = by (λ us rest p q. enough m n us (next k) rest p q) (line_at (b ∷ bs)) refl
  where
    by : ((us : List Turn) (rest : List ℕ) → length rest ≤ m → length rest ≤ n → script_within m us (next k) rest ≡ script_within n us (next k) rest)
        → (r : Read ScriptLine) → line_at (b ∷ bs) ≡ r → script_step (script_within m) ts (next k) r ≡ script_step (script_within n) ts (next k) r
    by again bad e = refl
    by again (got line rest) e =
        let short : length rest < length (b ∷ bs) = line_shorter (b ∷ bs) rest line e in
        behind_enough m n (next k) rest (with_line ts line) (λ us. again us rest (omega arith) (omega arith))

-- one line
script_more : (ts us : List Turn) (k : ℕ) (bs rest : List ℕ) (l : ScriptLine) → line_at bs ≡ got l rest → with_line ts l ≡ Some us → script_from ts k bs ≡ script_from us (next k) rest
script_more ts us k [] rest l e h = absurd (line_none rest l e)
script_more ts us k (b ∷ bs) rest l e h =
    let short : length rest < length (b ∷ bs) = line_shorter (b ∷ bs) rest l e in
    ap (script_step (script_within (length bs)) ts (next k)) e
    ∙ (ap (behind_line (script_within (length bs)) (next k) rest) h ∙ enough (length bs) (length rest) us (next k) rest (omega arith) (omega arith))

pub script_next : (ts us : List Turn) (k n : ℕ) (bs rest : List ℕ) (l : ScriptLine) (whole : Answer) → line_at bs ≡ got l rest → with_line ts l ≡ Some us → n ≡ next k
    → script_from ts k bs ≡ whole → script_from us n rest ≡ whole
script_next ts us k n bs rest l whole e h is g = ap (λ i. script_from us i rest) is ∙ (sym (script_more ts us k bs rest l e h) ∙ g)

script_bad : (ts : List Turn) (k : ℕ) (b : ℕ) (bs : List ℕ) → line_at (b ∷ bs) ≡ bad → script_from ts k (b ∷ bs) ≡ bad_line (next k)
script_bad ts k b bs e = ap (script_step (script_within (length bs)) ts (next k)) e

script_stuck : (ts : List Turn) (k : ℕ) (b : ℕ) (bs rest : List ℕ) (l : ScriptLine) → line_at (b ∷ bs) ≡ got l rest → with_line ts l ≡ None → script_from ts k (b ∷ bs) ≡ bad_line (next k)
script_stuck ts k b bs rest l e h =
    ap (script_step (script_within (length bs)) ts (next k)) e ∙ ap (behind_line (script_within (length bs)) (next k) rest) h

-- What a script has is read.
abbrev count : ℕ → List ScriptLine → ℕ
count k [] = k
count k (l ∷ ls) = count (next k) ls

count_is : (ls : List ScriptLine) (k : ℕ) → k ≤ 4294967295 → count k ls ≡ min (k + length ls) 4294967295
count_is [] k h = omega arith
count_is (l ∷ ls) k h =
    let low : next k ≤ 4294967295 = omega arith in
    count_is ls (next k) low ∙ omega arith

lines_read : (ls : List ScriptLine) (ts us : List Turn) (k : ℕ) (rest : List ℕ) → AllByRecursion IsInRange ls → with_lines ts ls ≡ Some us
    → script_from ts k (lines_text ls ++ rest) ≡ script_from us (count k ls) rest
lines_read [] ts us k rest h e = let is : ts ≡ us = cc in ap (λ vs. script_from vs k rest) is
lines_read (l ∷ ls) ts us k rest h e = by (λ vs g. lines_read ls vs us (next k) rest h.1 g) (with_line ts l) refl e
  where
    more : List ℕ
    more = lines_text ls ++ rest

    by : ((vs : List Turn) → with_lines vs ls ≡ Some us → script_from vs (next k) (lines_text ls ++ rest) ≡ script_from us (count (next k) ls) rest)
        → (r : Option (List Turn)) → with_line ts l ≡ r → option_and_then (λ vs. with_lines vs ls) r ≡ Some us → script_from ts k (lines_text (l ∷ ls) ++ rest) ≡ script_from us (count (next k) ls) rest
    by again None g e = cc
    by again (Some vs) g e =
        ap (script_from ts k) (append_assoc (line_text l) (lines_text ls) rest)
        ∙ (script_more ts vs k (line_text l ++ more) more l (line_complete l more h.0) g ∙ again vs e)

bad_read : (ts : List Turn) (k : ℕ) (rest : List ℕ) → 0 < length rest → ((l : ScriptLine) (behind : List ℕ) (us : List Turn) → IsInRange l → with_line ts l ≡ Some us → rest ≡ line_text l ++ behind → ⊥)
    → script_from ts k rest ≡ bad_line (next k)
bad_read ts k [] some none = absurd (omega arith)
bad_read ts k (b ∷ bs) some none = by (line_at (b ∷ bs)) refl
  where
    placed : (l : ScriptLine) (behind : List ℕ) → line_at (b ∷ bs) ≡ got l behind → (r : Option (List Turn)) → with_line ts l ≡ r → script_from ts k (b ∷ bs) ≡ bad_line (next k)
    placed l behind e None h = script_stuck ts k b bs behind l e h
    placed l behind e (Some us) h =
        let found : IsLineAt (b ∷ bs) behind l = line_sound (b ∷ bs) behind l e in
        absurd (none l behind us found.in_range h found.whole)

    by : (r : Read ScriptLine) → line_at (b ∷ bs) ≡ r → script_from ts k (b ∷ bs) ≡ bad_line (next k)
    by bad e = script_bad ts k b bs e
    by (got l behind) e = placed l behind e (with_line ts l) refl

pub has_read : (bytes : List ℕ) (a : Answer) → Has bytes a → script_from [] 0 bytes ≡ a
has_read bytes (told turns) h =
    ap (script_from [] 0) (h.spelled ∙ sym (append-nil (lines_text h.lines))) ∙ lines_read h.lines [] turns 0 [] h.in_range h.grouped
has_read bytes (bad_line n) h =
    let low : 0 ≤ 4294967295 = omega arith in
    let number : next (count 0 h.lines) ≡ n = omega (arith, count_is h.lines 0 low, h.number) in
    ap (script_from [] 0) h.whole
    ∙ (lines_read h.lines [] h.turns 0 h.rest h.in_range h.grouped ∙ (bad_read h.turns (count 0 h.lines) h.rest h.more h.none ∙ ap bad_line number))

-- And what is read is what the script has.
lines_append : (ls : List ScriptLine) (l : ScriptLine) → lines_text (ls ++ l ∷ []) ≡ lines_text ls ++ line_text l
lines_append [] l = append-nil (line_text l)
lines_append (k ∷ ls) l = ap (λ xs. line_text k ++ xs) (lines_append ls l) ∙ sym (append_assoc (line_text k) (lines_text ls) (line_text l))

all_append : (ls : List ScriptLine) (l : ScriptLine) → AllByRecursion IsInRange ls → IsInRange l → AllByRecursion IsInRange (ls ++ l ∷ [])
all_append [] l h g = (g, tt)
all_append (k ∷ ls) l h g = (h.0, all_append ls l h.1 g)

grouped_append : (ls : List ScriptLine) (l : ScriptLine) (ts us vs : List Turn) → with_lines ts ls ≡ Some us → with_line us l ≡ Some vs → with_lines ts (ls ++ l ∷ []) ≡ Some vs
grouped_append [] l ts us vs e h = let is : ts ≡ us = cc in ap (option_and_then (λ ws. Some ws)) (ap (λ ws. with_line ws l) is ∙ h)
grouped_append (k ∷ ls) l ts us vs e h = by (λ ws g. grouped_append ls l ws us vs g h) (with_line ts k) refl e
  where
    by : ((ws : List Turn) → with_lines ws ls ≡ Some us → with_lines ws (ls ++ l ∷ []) ≡ Some vs) → (r : Option (List Turn)) → with_line ts k ≡ r → option_and_then (λ ws. with_lines ws ls) r ≡ Some us
        → option_and_then (λ ws. with_lines ws (ls ++ l ∷ [])) (with_line ts k) ≡ Some vs
    by again None g e = cc
    by again (Some ws) g e = ap (option_and_then (λ ws. with_lines ws (ls ++ l ∷ []))) g ∙ again ws e

-- behind lines that make turns
pub record IsBehind (whole : List ℕ) (before : List ScriptLine) (turns : List Turn) (k : ℕ) (bs : List ℕ) : Type 0 where
  pub spelled : whole ≡ lines_text before ++ bs
  pub in_range : AllByRecursion IsInRange before
  pub grouped : with_lines [] before ≡ Some turns
  pub number : k ≡ min (length before) 4294967295

one_more : (whole : List ℕ) (before : List ScriptLine) (ts us : List Turn) (k : ℕ) (bs rest : List ℕ) (l : ScriptLine) → IsBehind whole before ts k bs → IsLineAt bs rest l → with_line ts l ≡ Some us
    → IsBehind whole (before ++ l ∷ []) us (next k) rest
one_more whole before ts us k bs rest l h g e = record {
  spelled = h.spelled ∙ (ap (λ xs. lines_text before ++ xs) g.whole ∙ (sym (append_assoc (lines_text before) (line_text l) rest) ∙ ap (λ xs. xs ++ rest) (sym (lines_append before l))));
  in_range = all_append before l h.in_range g.in_range;
  grouped = grouped_append before l [] ts us h.grouped e;
  number = omega (arith, h.number, length-append before (l ∷ []));
}

bad_here : (whole : List ℕ) (before : List ScriptLine) (ts : List Turn) (k : ℕ) (b : ℕ) (bs : List ℕ) → IsBehind whole before ts k (b ∷ bs)
    → ((l : ScriptLine) (behind : List ℕ) (us : List Turn) → IsInRange l → with_line ts l ≡ Some us → b ∷ bs ≡ line_text l ++ behind → ⊥) → IsBadAt whole (next k)
bad_here whole before ts k b bs h none = record {
  lines = before;
  rest = b ∷ bs;
  turns = ts;
  whole = h.spelled;
  in_range = h.in_range;
  grouped = h.grouped;
  number = omega (arith, h.number);
  more = omega arith;
  none = none;
}

judged_from : (most : ℕ) (whole : List ℕ) (before : List ScriptLine) (ts : List Turn) (k : ℕ) (bs : List ℕ) → length bs ≤ most → IsBehind whole before ts k bs → Has whole (script_within most ts k bs)
judged_from most whole before ts k [] few h = record {
  lines = before;
  spelled = h.spelled ∙ append-nil (lines_text before);
  in_range = h.in_range;
  grouped = h.grouped;
}
judged_from zero whole before ts k (b ∷ bs) few h = absurd (omega arith)
judged_from (suc most) whole before ts k (b ∷ bs) few h = by (λ ls us rest l g. judged_from most whole ls us (next k) rest l g) (line_at (b ∷ bs)) refl
  where
    no_line : line_at (b ∷ bs) ≡ bad → (l : ScriptLine) (behind : List ℕ) (us : List Turn) → IsInRange l → with_line ts l ≡ Some us → b ∷ bs ≡ line_text l ++ behind → ⊥
    no_line e l behind us r w s = let found : line_at (b ∷ bs) ≡ got l behind = ap line_at s ∙ line_complete l behind r in cc

    no_place : (k : ScriptLine) (rest : List ℕ) → line_at (b ∷ bs) ≡ got k rest → with_line ts k ≡ None → (l : ScriptLine) (behind : List ℕ) (us : List Turn) → IsInRange l → with_line ts l ≡ Some us → b ∷ bs ≡ line_text l ++ behind → ⊥
    no_place k rest e n l behind us r w s =
        let found : line_at (b ∷ bs) ≡ got l behind = ap line_at s ∙ line_complete l behind r in
        let is : k ≡ l = cc in
        let stuck : with_line ts l ≡ None = ap (with_line ts) (sym is) ∙ n in
        cc

    placed : ((ls : List ScriptLine) (us : List Turn) (rest : List ℕ) → length rest ≤ most → IsBehind whole ls us (next k) rest → Has whole (script_within most us (next k) rest))
        → (l : ScriptLine) (rest : List ℕ) → line_at (b ∷ bs) ≡ got l rest → (r : Option (List Turn)) → with_line ts l ≡ r → Has whole (behind_line (script_within most) (next k) rest r)
    placed again l rest e None w = bad_here whole before ts k b bs h (no_place l rest e w)
    placed again l rest e (Some us) w =
        let short : length rest < length (b ∷ bs) = line_shorter (b ∷ bs) rest l e in
        again (before ++ l ∷ []) us rest (omega arith) (one_more whole before ts us k (b ∷ bs) rest l h (line_sound (b ∷ bs) rest l e) w)

    by : ((ls : List ScriptLine) (us : List Turn) (rest : List ℕ) → length rest ≤ most → IsBehind whole ls us (next k) rest → Has whole (script_within most us (next k) rest))
        → (r : Read ScriptLine) → line_at (b ∷ bs) ≡ r → Has whole (script_step (script_within most) ts (next k) (line_at (b ∷ bs)))
    by again bad e = subst (λ r. Has whole (script_step (script_within most) ts (next k) r)) (sym e) (bad_here whole before ts k b bs h (no_line e))
    by again (got l rest) e = subst (λ r. Has whole (script_step (script_within most) ts (next k) r)) (sym e) (placed again l rest e (with_line ts l) refl)

pub judged : (bytes : List ℕ) → Has bytes (script_from [] 0 bytes)
judged bytes = judged_from (length bytes) bytes [] [] 0 bytes (omega arith) (record { spelled = refl; in_range = tt; grouped = refl; number = omega arith })

-- what a call gave
pub tells : (P : Answer → Type 0) (r : Result (List Turn) ScriptError) (a : Answer) → Gives r a → P a → Tells P r
tells P (Ok turns) a e h = subst P e h
tells P (Err (error.BadScript n)) a e h = subst P e h
tells P (Err error.OutOfMemory) a e h = tt

pub gives : (r : Result (List Turn) ScriptError) (a b : Answer) → Gives r a → a ≡ b → Gives r b
gives r a b g e = subst (λ x. Gives r x) e g
