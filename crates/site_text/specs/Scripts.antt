-- Scripts, in the format's own words.
use Rattle.std.specs.Prelude.{ℕ, ◌≡◌, ◌<◌, ◌≤◌, ◌+◌, ◌-◌, ◌^◌, min, List, [], ◌∷◌, ◌++◌, length, codes, Option, Some, None}
use Rattle.std.specs.Fmt.{decimal}
use Rattle.std.specs.List.{AllByRecursion, flat_map, slice_get, slice_set}
use Rattle.std.specs.Option.{option_and_then}
use Rattle.site_base.specs.Quoted.{quoted}
use Rattle.site_edge.specs.declared.report.Report.{Report}
use Rattle.site_edge.specs.declared.turn.Turn.{Turn}
use Rattle.site_text.specs.declared.script_line.ScriptLine.{ScriptLine}
use Rattle.site_text.specs.declared.script_line.ScriptLine.TheVariants as line

-- the one spelling of a line, with its newline
abbrev pub line_text : ScriptLine → List ℕ
line_text (line.Turn moment) = codes "turn " ++ (decimal moment ++ 10 ∷ [])
line_text (line.Report r) = codes "report " ++ (decimal r.order ++ 32 ∷ (decimal r.status ++ 32 ∷ (quoted r.output ++ 10 ∷ [])))
line_text (line.Line text) = codes "line " ++ (quoted text ++ 10 ∷ [])

-- a moment has at most 11 digits, an order's number at most 19, and a status is at most 255
abbrev pub IsInRange : ScriptLine → Type 0
IsInRange (line.Turn moment) = moment ≤ 99999999999
IsInRange (line.Report r) = (r.order < 10 ^ 19) × (r.status ≤ 255)
IsInRange (line.Line text) = Unit {0}

-- a turn in which nothing is handed in
abbrev pub empty_turn : ℕ → Turn
empty_turn moment = record { moment = moment; reports = []; lines = [] }

abbrev pub with_report : Report → Turn → Turn
with_report r t = record t { reports = t.reports ++ r ∷ [] }

abbrev pub with_command : List ℕ → Turn → Turn
with_command text t = record t { lines = t.lines ++ text ∷ [] }

-- the turns with another last one; none if there are none
abbrev pub with_last : List Turn → (Turn → Turn) → Option Turn → Option (List Turn)
with_last ts f None = None
with_last ts f (Some t) = Some (slice_set ts (length ts - 1) (f t))

abbrev pub on_last : (Turn → Turn) → List Turn → Option (List Turn)
on_last f ts = with_last ts f (slice_get ts (length ts - 1))

-- the turns behind one more line, which begins a turn or goes to the last one
abbrev pub with_line : List Turn → ScriptLine → Option (List Turn)
with_line ts (line.Turn moment) = Some (ts ++ empty_turn moment ∷ [])
with_line ts (line.Report r) = on_last (with_report r) ts
with_line ts (line.Line text) = on_last (with_command text) ts

-- the turns behind these lines; none if there is no turn that a line could go to
abbrev pub with_lines : List Turn → List ScriptLine → Option (List Turn)
with_lines ts [] = Some ts
with_lines ts (l ∷ ls) = option_and_then (λ us. with_lines us ls) (with_line ts l)

-- the lines one behind another
abbrev pub lines_text : List ScriptLine → List ℕ
lines_text ls = flat_map line_text ls

-- the bytes are lines, each in its one spelling, that make these turns
pub record IsScript (bytes : List ℕ) (turns : List Turn) : Type 0 where
  pub lines : List ScriptLine
  pub spelled : bytes ≡ lines_text lines
  pub in_range : AllByRecursion IsInRange lines
  pub grouped : with_lines [] lines ≡ Some turns

-- the n-th line is the first that is none: the lines before it are lines, and no line that could follow them stands
-- at the front of the rest, of which there is some; lines are counted up to the greatest number of 32 bits
pub record IsBadAt (bytes : List ℕ) (n : ℕ) : Type 0 where
  pub lines : List ScriptLine
  pub rest : List ℕ
  pub turns : List Turn
  pub whole : bytes ≡ lines_text lines ++ rest
  pub in_range : AllByRecursion IsInRange lines
  pub grouped : with_lines [] lines ≡ Some turns
  pub number : n ≡ min (length lines + 1) 4294967295
  pub more : 0 < length rest
  pub none : (l : ScriptLine) (behind : List ℕ) (us : List Turn) → IsInRange l → with_line turns l ≡ Some us → rest ≡ line_text l ++ behind → ⊥

-- what a script tells: its turns, or its first line that is none
pub data Answer : Type 0 where
  told : List Turn → Answer
  bad_line : ℕ → Answer

abbrev pub Has : List ℕ → Answer → Type 0
Has bytes (told turns) = IsScript bytes turns
Has bytes (bad_line n) = IsBadAt bytes n
