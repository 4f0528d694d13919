-- Two scripts, one after the other, are a script with the turns of both.
use Rattle.std.proofs.Common.{◌≡◌, ℕ, suc, ◌-◌, List, [], ◌∷◌, ◌++◌, length, refl, sym, ap, ◌∙◌, subst, append_assoc, append-nil, arith, Option, Some, None}
use Rattle.std.specs.Prelude.{Result, Ok}
use Rattle.std.specs.List.{AllByRecursion, concat, slice_get, slice_set}
use Rattle.std.specs.Option.{option_and_then, option_map}
use Rattle.std.proofs.lemmas.List.Concat.{flat_map-append}
use Rattle.site_edge.specs.declared.turn.Turn.{Turn}
use Rattle.site_text.specs.Scripts.{IsInRange, IsScript, line_text, lines_text, on_last, with_command, with_last, with_line, with_lines, with_report}
use Rattle.site_text.specs.declared.script_error.ScriptError.{ScriptError}
use Rattle.site_text.specs.declared.script_line.ScriptLine.{ScriptLine}
use Rattle.site_text.specs.declared.script_line.ScriptLine.TheVariants as line
use Rattle.script_parts.specs.Parts.{AreRead, IsReadInParts}

-- what becomes of the last turn stays the same when a turn stands before all others

abbrev placed : (Turn → Turn) → List Turn → ℕ → Option Turn → Option (List Turn)
placed f ts k None = None
placed f ts k (Some t) = Some (slice_set ts k (f t))

last_placed : (f : Turn → Turn) (ts : List Turn) (k : ℕ) (o : Option Turn) → length ts - 1 ≡ k → with_last ts f o ≡ placed f ts k o
last_placed f ts k None e = refl
last_placed f ts k (Some t) e = ap (λ n. Some (slice_set ts n (f t))) e

on_last_placed : (f : Turn → Turn) (ts : List Turn) (k : ℕ) → length ts - 1 ≡ k → on_last f ts ≡ placed f ts k (slice_get ts k)
on_last_placed f ts k e = ap (λ n. with_last ts f (slice_get ts n)) e ∙ last_placed f ts k (slice_get ts k) e

placed_behind : (f : Turn → Turn) (t : Turn) (ts : List Turn) (k : ℕ) (o : Option Turn) → placed f (t ∷ ts) (suc k) o ≡ option_map (λ us. t ∷ us) (placed f ts k o)
placed_behind f t ts k None = refl
placed_behind f t ts k (Some u) = refl

on_last_behind : (f : Turn → Turn) (t : Turn) (ts us : List Turn) → on_last f ts ≡ Some us → on_last f (t ∷ ts) ≡ Some (t ∷ us)
on_last_behind f t [] us e = cc
on_last_behind f t (u ∷ ts) us e =
    let n = length ts in
    let short : length (u ∷ ts) - 1 ≡ n = omega arith in
    let long : length (t ∷ u ∷ ts) - 1 ≡ suc n = omega arith in
    on_last_placed f (t ∷ u ∷ ts) (suc n) long
    ∙ placed_behind f t (u ∷ ts) n (slice_get (u ∷ ts) n)
    ∙ ap (option_map (λ vs. t ∷ vs)) (sym (on_last_placed f (u ∷ ts) n short) ∙ e)

line_behind : (t : Turn) (ts us : List Turn) (l : ScriptLine) → with_line ts l ≡ Some us → with_line (t ∷ ts) l ≡ Some (t ∷ us)
line_behind t ts us (line.Turn moment) e = ap (option_map (λ vs. t ∷ vs)) e
line_behind t ts us (line.Report r) e = on_last_behind (with_report r) t ts us e
line_behind t ts us (line.Line text) e = on_last_behind (with_command text) t ts us e

lines_behind : (t : Turn) (ts us : List Turn) (ls : List ScriptLine) → with_lines ts ls ≡ Some us → with_lines (t ∷ ts) ls ≡ Some (t ∷ us)
lines_behind t ts us [] e = ap (option_map (λ vs. t ∷ vs)) e
lines_behind t ts us (l ∷ ls) e = by (λ vs h. lines_behind t vs us ls h) (with_line ts l) refl e
  where
    by : ((vs : List Turn) → with_lines vs ls ≡ Some us → with_lines (t ∷ vs) ls ≡ Some (t ∷ us))
        → (r : Option (List Turn)) → with_line ts l ≡ r → option_and_then (λ vs. with_lines vs ls) r ≡ Some us → with_lines (t ∷ ts) (l ∷ ls) ≡ Some (t ∷ us)
    by again None g h = cc
    by again (Some vs) g h = ap (option_and_then (λ vs. with_lines vs ls)) (line_behind t ts vs l g) ∙ again vs h

all_behind : (ts us : List Turn) (ls : List ScriptLine) → with_lines [] ls ≡ Some us → with_lines ts ls ≡ Some (ts ++ us)
all_behind [] us ls e = e
all_behind (t ∷ ts) us ls e = lines_behind t ts (ts ++ us) ls (all_behind ts us ls e)

lines_then : (as' bs : List ScriptLine) (ts us vs : List Turn) → with_lines ts as' ≡ Some us → with_lines us bs ≡ Some vs → with_lines ts (as' ++ bs) ≡ Some vs
lines_then [] bs ts us vs e h = let is : ts ≡ us = cc in ap (λ ws. with_lines ws bs) is ∙ h
lines_then (l ∷ as') bs ts us vs e h = by (λ ws g. lines_then as' bs ws us vs g h) (with_line ts l) refl e
  where
    by : ((ws : List Turn) → with_lines ws as' ≡ Some us → with_lines ws (as' ++ bs) ≡ Some vs)
        → (r : Option (List Turn)) → with_line ts l ≡ r → option_and_then (λ ws. with_lines ws as') r ≡ Some us → option_and_then (λ ws. with_lines ws (as' ++ bs)) (with_line ts l) ≡ Some vs
    by again None g k = cc
    by again (Some ws) g k = ap (option_and_then (λ ws. with_lines ws (as' ++ bs))) g ∙ again ws k

ranges_both : (as' bs : List ScriptLine) → AllByRecursion IsInRange as' → AllByRecursion IsInRange bs → AllByRecursion IsInRange (as' ++ bs)
ranges_both [] bs h g = g
ranges_both (a ∷ as') bs h g = (h.0, ranges_both as' bs h.1 g)

pub script_more : (as' bs : List ℕ) (ts us : List Turn) → IsScript as' ts → IsScript bs us → IsScript (as' ++ bs) (ts ++ us)
script_more as' bs ts us a b = record {
  lines = a.lines ++ b.lines;
  spelled = ap (λ xs. xs ++ bs) a.spelled ∙ ap (λ xs. lines_text a.lines ++ xs) b.spelled ∙ sym (flat_map-append line_text a.lines b.lines);
  in_range = ranges_both a.lines b.lines a.in_range b.in_range;
  grouped = lines_then a.lines b.lines [] ts (ts ++ us) a.grouped (all_behind ts us b.lines b.grouped);
}

-- Part after part.

-- so many turns come before what these parts of the bytes tell
pub record IsJoined (bytes : List ℕ) (turns : List Turn) (read : List (Result (List Turn) ScriptError)) : Type 0 where
  pub before : List ℕ
  pub parts : List (List ℕ)
  pub whole : before ++ concat parts ≡ bytes
  pub script : IsScript before turns
  pub each : AreRead parts read

pub none_joined : (bytes : List ℕ) (read : List (Result (List Turn) ScriptError)) → IsReadInParts bytes read → IsJoined bytes [] read
none_joined bytes read h = record {
  before = [];
  parts = h.parts;
  whole = h.whole;
  script = record { lines = []; spelled = refl; in_range = tt; grouped = refl };
  each = h.each;
}

pub one_joined : (bytes : List ℕ) (turns more : List Turn) (read : List (Result (List Turn) ScriptError)) → IsJoined bytes turns (Ok more ∷ read) → IsJoined bytes (turns ++ more) read
one_joined bytes turns more read h = by h.parts h.whole h.each
  where
    by : (parts : List (List ℕ)) → h.before ++ concat parts ≡ bytes → AreRead parts (Ok more ∷ read) → IsJoined bytes (turns ++ more) read
    by [] w e = absurd e
    by (p ∷ ps) w e = record {
      before = h.before ++ p;
      parts = ps;
      whole = append_assoc h.before p (concat ps) ∙ w;
      script = script_more h.before p turns more h.script e.0;
      each = e.1;
    }

pub all_joined : (bytes : List ℕ) (turns : List Turn) (left : List (Result (List Turn) ScriptError)) → length left ≡ 0 → IsJoined bytes turns left → IsScript bytes turns
all_joined bytes turns [] none h = by h.parts h.whole h.each
  where
    by : (parts : List (List ℕ)) → h.before ++ concat parts ≡ bytes → AreRead parts [] → IsScript bytes turns
    by [] w e = subst (λ xs. IsScript xs turns) (sym (append-nil h.before) ∙ w) h.script
    by (p ∷ ps) w e = absurd e
all_joined bytes turns (r ∷ left) none h = absurd (omega (arith, none))
