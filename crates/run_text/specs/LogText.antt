-- The text of a log, line by line, in two versions.
use Rattle.std.specs.Prelude.{ℕ, suc, List, [], ◌∷◌, ◌++◌, codes, map}
use Rattle.std.specs.Fmt.{decimal}
use Rattle.std.specs.List.{concat, flat_map}
use Rattle.site_model.specs.PlainSite.{PlainSite}
use Rattle.site_model.specs.declared.entry.Entry.{Entry}
use Rattle.site_text.specs.Entries.{entry_line}
use Rattle.log_text.specs.EntryTwo.{entry_line_two}
use Rattle.log_text.specs.LogLines.{log_two, missing_line, order_line, order_line_two, turn_line}
use Rattle.run_meaning.specs.Turns.{Command, Histories, Ordered, missing, words}
use Rattle.run_meaning.specs.Dealing.{Refusal, refused_line, refused_report}
use Rattle.run_meaning.specs.Runs.{TurnLog}
use Rattle.run_text.specs.declared.style.Style.{Style}
use Rattle.run_text.specs.declared.style.Style.TheVariants.{One, Two}

-- `refused line N FAULT` or `refused report ORDER`
abbrev pub refusal_line : Refusal → List ℕ
refusal_line (refused_line n fault) = codes "refused line " ++ (decimal n ++ 32 ∷ (fault ++ 10 ∷ []))
refusal_line (refused_report order) = codes "refused report " ++ (decimal order ++ 10 ∷ [])

-- the line of an entry of the checkable of this index
abbrev pub styled_entry : Style → PlainSite → ℕ → Entry → List ℕ
styled_entry One = entry_line
styled_entry Two = entry_line_two

-- the lines of the entries of each checkable from this index on
abbrev pub round_lines : Style → PlainSite → ℕ → Histories → List (List (List ℕ))
round_lines style s k [] = []
round_lines style s k (es ∷ ess) = map (styled_entry style s k) es ∷ round_lines style s (suc k) ess

-- an order with these words
abbrev pub words_line : Style → PlainSite → ℕ → ℕ → List (List ℕ) → List ℕ
words_line One s number checkable ws = order_line s number checkable
words_line Two s number checkable ws = order_line_two s number checkable ws

abbrev pub command_line : Style → PlainSite → ℕ → ℕ → Command → List ℕ
command_line style s number checkable (words ws) = words_line style s number checkable ws
command_line style s number checkable (missing macro) = missing_line s number checkable macro

-- the order of a check, with the macro that is missing for its command if one is
abbrev pub ordered_line : Style → PlainSite → Ordered → List ℕ
ordered_line style s o = command_line style s o.number o.checkable o.command

-- the lines of a turn: its number and moment, what is refused, the entries by checkable and number, and the orders by number
abbrev pub turn_lines : Style → PlainSite → TurnLog → List (List ℕ)
turn_lines style s l =
    turn_line l.number l.moment ∷ ((map refusal_line l.refusals ++ flat_map (λ lines. lines) (round_lines style s 0 l.round)) ++ map (ordered_line style s) l.orders)

-- what stands before the first turn
abbrev pub first_lines : Style → List (List ℕ)
first_lines One = []
first_lines Two = log_two ∷ []

-- the lines of a whole log
abbrev pub log_lines : Style → PlainSite → List TurnLog → List (List ℕ)
log_lines style s ls = first_lines style ++ flat_map (turn_lines style s) ls

abbrev pub log_text : Style → PlainSite → List TurnLog → List ℕ
log_text style s ls = concat (log_lines style s ls)
