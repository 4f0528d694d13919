-- Entries are no more than the bytes of their log.
use Rattle.std.proofs.Common.{◌≡◌, ◌<◌, ◌≤◌, ◌+◌, ℕ, zero, suc, List, [], ◌∷◌, ◌++◌, length, map, refl, sym, ap, ◌∙◌, arith, length-append, codes}
use Rattle.std.specs.List.{concat, flat_map}
use Rattle.std.proofs.lemmas.List.Folds.{concat-append}
use Rattle.site_model.specs.PlainSite.{PlainSite}
use Rattle.site_model.specs.declared.entry.Entry.{Entry}
use Rattle.site_text.specs.Entries.{effect_text, entry_line, lists_text, start_text}
use Rattle.log_text.specs.EntryTwo.{entry_line_two, told_text}
use Rattle.log_text.specs.LogLines.{turn_line}
use Rattle.run_meaning.specs.Runs.{TurnLog}
use Rattle.run_meaning.specs.Turns.{Histories, of_index}
use Rattle.run_text.specs.LogText.{first_lines, log_lines, log_text, ordered_line, refusal_line, round_lines, styled_entry, turn_lines}
use Rattle.run_text.specs.declared.style.Style.{Style}
use Rattle.run_text.specs.declared.style.Style.TheVariants.{One, Two}
use Rattle.audit_laws.specs.Fitting.{entries_in}

abbrev bytes_in : List (List ℕ) → ℕ
bytes_in ls = length (concat ls)

added : (xs ys : List (List ℕ)) → bytes_in (xs ++ ys) ≡ bytes_in xs + bytes_in ys
added xs ys = ap length (concat-append xs ys) ∙ length-append (concat xs) (concat ys)

-- ---- an entry has a line

line_long : (style : Style) (s : PlainSite) (k : ℕ) (e : Entry) → 1 ≤ length (styled_entry style s k e)
line_long One s k e =
    let a = length-append (start_text s k e) (effect_text e ++ (lists_text s e ++ 10 ∷ [])) in
    let b = length-append (effect_text e) (lists_text s e ++ 10 ∷ []) in
    let c = length-append (lists_text s e) (10 ∷ []) in
    omega (arith, a, b, c)
line_long Two s k e =
    let a = length-append (start_text s k e) (effect_text e ++ (lists_text s e ++ (codes " | " ++ (told_text e.event ++ 10 ∷ [])))) in
    let b = length-append (effect_text e) (lists_text s e ++ (codes " | " ++ (told_text e.event ++ 10 ∷ []))) in
    let c = length-append (lists_text s e) (codes " | " ++ (told_text e.event ++ 10 ∷ [])) in
    let d = length-append (codes " | ") (told_text e.event ++ 10 ∷ []) in
    omega (arith, a, b, c, d)

lines_long : (style : Style) (s : PlainSite) (k : ℕ) (es : List Entry) → length es ≤ bytes_in (map (styled_entry style s k) es)
lines_long style s k [] = omega arith
lines_long style s k (e ∷ es) =
    let one = line_long style s k e in
    let more = lines_long style s k es in
    let joined = length-append (styled_entry style s k e) (concat (map (styled_entry style s k) es)) in
    omega (arith, one, more, joined)

abbrev lines_of : List (List (List ℕ)) → List (List ℕ)
lines_of xss = flat_map (λ lines. lines) xss

round_long : (style : Style) (s : PlainSite) (j k : ℕ) (round : Histories) → length (of_index k round) ≤ bytes_in (lines_of (round_lines style s j round))
round_long style s j zero [] = omega arith
round_long style s j (suc k) [] = omega arith
round_long style s j zero (es ∷ ess) =
    let own = lines_long style s j es in
    let both = added (map (styled_entry style s j) es) (lines_of (round_lines style s (suc j) ess)) in
    omega (arith, own, both)
round_long style s j (suc k) (es ∷ ess) =
    let rest = round_long style s (suc j) k ess in
    let both = added (map (styled_entry style s j) es) (lines_of (round_lines style s (suc j) ess)) in
    omega (arith, rest, both)

turn_long : (style : Style) (s : PlainSite) (k : ℕ) (l : TurnLog) → length (of_index k l.round) ≤ bytes_in (turn_lines style s l)
turn_long style s k l =
    let round = lines_of (round_lines style s 0 l.round) in
    let refused = map refusal_line l.refusals in
    let ordered = map (ordered_line style s) l.orders in
    let own = round_long style s 0 k l.round in
    let a = added refused round in
    let b = added (refused ++ round) ordered in
    let c = length-append (turn_line l.number l.moment) (concat ((refused ++ round) ++ ordered)) in
    omega (arith, own, a, b, c)

turns_long : (style : Style) (s : PlainSite) (k : ℕ) (ls : List TurnLog) → entries_in k ls ≤ bytes_in (flat_map (turn_lines style s) ls)
turns_long style s k [] = omega arith
turns_long style s k (l ∷ ls) =
    let one = turn_long style s k l in
    let more = turns_long style s k ls in
    let both = added (turn_lines style s l) (flat_map (turn_lines style s) ls) in
    omega (arith, one, more, both)

pub entries_few : (style : Style) (s : PlainSite) (k : ℕ) (ls : List TurnLog) → entries_in k ls ≤ length (log_text style s ls)
entries_few style s k ls =
    let own = turns_long style s k ls in
    let both = added (first_lines style) (flat_map (turn_lines style s) ls) in
    omega (arith, own, both)
