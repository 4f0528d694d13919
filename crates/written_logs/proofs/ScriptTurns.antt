-- The turns of a script fit, if its bytes are few.
use Rattle.std.proofs.Common.{◌≡◌, ◌<◌, ◌≤◌, ◌+◌, ◌-◌, ◌^◌, ℕ, zero, suc, List, [], ◌∷◌, ◌++◌, length, take, refl, sym, ap, ◌∙◌, subst, arith, lit<, length-append, slice_get, slice_set, Option, Some, None, decimal, codes, option_and_then}
use Rattle.std.specs.List.{AllByRecursion, flat_map}
use Rattle.site_base.specs.Quoted.{quoted}
use Rattle.site_edge.specs.declared.report.Report.{Report}
use Rattle.site_edge.specs.declared.turn.Turn.{Turn}
use Rattle.site_text.specs.Scripts.{IsInRange, IsScript, empty_turn, line_text, lines_text, on_last, with_command, with_last, with_line, with_lines, with_report}
use Rattle.site_text.specs.declared.script_line.ScriptLine.{ScriptLine}
use Rattle.site_text.specs.declared.script_line.ScriptLine.TheVariants as line
use Rattle.audit_laws.specs.Fitting.{FitsTurn}
use Rattle.commit_meaning.proofs.Lists.{all_append, all_imp}

-- ---- lines are no more than bytes

line_long : (l : ScriptLine) → 1 ≤ length (line_text l)
line_long (line.Turn moment) = let e = length-append (codes "turn ") (decimal moment ++ 10 ∷ []) in omega (arith, e)
line_long (line.Report r) = let e = length-append (codes "report ") (decimal r.order ++ 32 ∷ (decimal r.status ++ 32 ∷ (quoted r.output ++ 10 ∷ []))) in omega (arith, e)
line_long (line.Line text) = let e = length-append (codes "line ") (quoted text ++ 10 ∷ []) in omega (arith, e)

few_lines : (ls : List ScriptLine) → length ls ≤ length (lines_text ls)
few_lines [] = omega arith
few_lines (l ∷ ls) = let e = length-append (line_text l) (lines_text ls) in let one = line_long l in let rest = few_lines ls in omega (arith, e, one, rest)

-- ---- turns after so many lines

pub record FitsAfter (n : ℕ) (t : Turn) : Type 0 where
  pub moment : t.moment ≤ 99999999999
  pub reports : AllByRecursion (λ r. r.order < 2 ^ 64) t.reports
  pub lines : length t.lines ≤ n

abbrev Fit : ℕ → List Turn → Type 0
Fit n = AllByRecursion (FitsAfter n)

later : (n : ℕ) (t : Turn) → FitsAfter n t → FitsAfter (suc n) t
later n t h = let low = h.lines in record { moment = h.moment; reports = h.reports; lines = omega (arith, low) }

all_later : (n : ℕ) (ts : List Turn) → Fit n ts → Fit (suc n) ts
all_later n ts h = all_imp (FitsAfter n) (FitsAfter (suc n)) (later n) ts h

got : (P : Turn → Type 0) (ts : List Turn) (k : ℕ) (t : Turn) → AllByRecursion P ts → slice_get ts k ≡ Some t → P t
got P [] k t h e = absurd cc
got P (u ∷ ts) zero t h e = let same : u ≡ t = cc in subst P same h.0
got P (u ∷ ts) (suc k) t h e = got P ts k t h.1 e

put : (P : Turn → Type 0) (ts : List Turn) (k : ℕ) (t : Turn) → AllByRecursion P ts → P t → AllByRecursion P (slice_set ts k t)
put P [] k t h p = tt
put P (u ∷ ts) zero t h p = (p, h.1)
put P (u ∷ ts) (suc k) t h p = (h.0, put P ts k t h.1 p)

last_fits : (n : ℕ) (ts : List Turn) (f : Turn → Turn) → ((t : Turn) → FitsAfter n t → FitsAfter (suc n) (f t)) → Fit n ts → (us : List Turn) → on_last f ts ≡ Some us → Fit (suc n) us
last_fits n ts f each h us e = by (slice_get ts (length ts - 1)) refl e
  where
    by : (o : Option Turn) → slice_get ts (length ts - 1) ≡ o → with_last ts f o ≡ Some us → Fit (suc n) us
    by None at e = absurd cc
    by (Some t) at e =
        let same : slice_set ts (length ts - 1) (f t) ≡ us = cc in
        subst (Fit (suc n)) same (put (FitsAfter (suc n)) ts (length ts - 1) (f t) (all_later n ts h) (each t (got (FitsAfter n) ts (length ts - 1) t h at)))

line_fits : (n : ℕ) (ts : List Turn) (l : ScriptLine) → IsInRange l → Fit n ts → (us : List Turn) → with_line ts l ≡ Some us → Fit (suc n) us
line_fits n ts (line.Turn moment) range h us e =
    let same : ts ++ empty_turn moment ∷ [] ≡ us = cc in
    subst (Fit (suc n)) same (all_append (FitsAfter (suc n)) ts (empty_turn moment ∷ []) (all_later n ts h) (record { moment = range; reports = tt; lines = omega arith }, tt))
line_fits n ts (line.Report r) range h us e =
    last_fits n ts (with_report r)
    (λ t p. let low = p.lines in let bound = range.0 in record { moment = p.moment; reports = all_append (λ (x : Report). x.order < 2 ^ 64) t.reports (r ∷ []) p.reports (omega (arith, bound), tt); lines = omega (arith, low) })
    h us e
line_fits n ts (line.Line text) range h us e =
    last_fits n ts (with_command text) (λ t p. let low = p.lines in let long = length-append t.lines (text ∷ []) in record { moment = p.moment; reports = p.reports; lines = omega (arith, low, long) }) h us e

lines_fit : (n : ℕ) (ts : List Turn) (ls : List ScriptLine) → AllByRecursion IsInRange ls → Fit n ts → (us : List Turn) → with_lines ts ls ≡ Some us → Fit (length ls + n) us
lines_fit n ts [] range h us e = let same : ts ≡ us = cc in let none : n ≡ length {A = ScriptLine} [] + n = omega arith in subst (λ k. Fit k us) none (subst (Fit n) same h)
lines_fit n ts (l ∷ ls) range h us e = by (λ vs at k. lines_fit (suc n) vs ls range.1 (line_fits n ts l range.0 h vs at) us k) (with_line ts l) refl e
  where
    by : ((vs : List Turn) → with_line ts l ≡ Some vs → with_lines vs ls ≡ Some us → Fit (length ls + suc n) us) → (o : Option (List Turn)) → with_line ts l ≡ o → option_and_then (λ vs. with_lines vs ls) o ≡ Some us → Fit (length (l ∷ ls) + n) us
    by rest None at e = absurd cc
    by rest (Some vs) at e =
        let many : length ls + suc n ≡ length (l ∷ ls) + n = omega arith in
        subst (λ k. Fit k us) many (rest vs at e)

pub script_fits : (bytes : List ℕ) (ts : List Turn) → IsScript bytes ts → length bytes < 2 ^ 64 → AllByRecursion FitsTurn ts
script_fits bytes ts is few =
    all_imp (FitsAfter (length is.lines + 0)) FitsTurn
    (λ t h. let low = h.lines in let many = few_lines is.lines in let same = ap length is.spelled in record { moment = h.moment; reports = h.reports; lines = omega (arith, low, many, same, few) }) ts
    (lines_fit 0 [] is.lines is.in_range tt ts is.grouped)
