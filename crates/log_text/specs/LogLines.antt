-- The lines of a log that are of no entry.
use Rattle.std.specs.Prelude.{ℕ, Bool, true, false, List, [], ◌∷◌, ◌++◌, codes, if◌then◌else◌}
use Rattle.std.specs.Fmt.{decimal}
use Rattle.site_base.specs.Quoted.{quoted}
use Rattle.site_model.specs.PlainSite.{PlainSite, full_names}
use Rattle.site_text.specs.Entries.{name_text}

-- `turn NUMBER MOMENT`
abbrev pub turn_line : ℕ → ℕ → List ℕ
turn_line number moment = codes "turn " ++ (decimal number ++ 32 ∷ (decimal moment ++ 10 ∷ []))

-- `order NUMBER NAME`
abbrev pub order_start : PlainSite → ℕ → ℕ → List ℕ
order_start s number checkable = codes "order " ++ (decimal number ++ 32 ∷ name_text (full_names s) checkable)

-- the order of a check
abbrev pub order_line : PlainSite → ℕ → ℕ → List ℕ
order_line s number checkable = order_start s number checkable ++ 10 ∷ []

-- quoted words with a blank before each but the first
abbrev pub words_text : Bool → List (List ℕ) → List ℕ
words_text later [] = []
words_text later (word ∷ words) = (if later then codes " " else []) ++ (quoted word ++ words_text true words)

-- the same in version two: a blank and the quoted words of the command, joined by blanks
abbrev pub order_line_two : PlainSite → ℕ → ℕ → List (List ℕ) → List ℕ
order_line_two s number checkable words = order_start s number checkable ++ 32 ∷ (words_text false words ++ 10 ∷ [])

-- an order for which a macro is missing, in both versions
abbrev pub missing_line : PlainSite → ℕ → ℕ → List ℕ → List ℕ
missing_line s number checkable macro = order_start s number checkable ++ (codes " missing " ++ (quoted macro ++ 10 ∷ []))

-- what a log of version two begins with
abbrev pub log_two : List ℕ
log_two = codes "log 2" ++ 10 ∷ []
