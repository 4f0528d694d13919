-- What a block of a log tells.
use Rattle.std.specs.Prelude.{ℕ, List, [], ◌∷◌, ◌++◌, Option, Some, None}
use Rattle.log_text.specs.Fronts.{◌>>=◌}
use Rattle.log_text.specs.SiteNames.{PlainNames}
use Rattle.run_text.specs.declared.style.Style.{Style}
use Rattle.site_audit.specs.LineReading.{line_read}
use Rattle.site_audit.specs.declared.block.Block.{Block}
use Rattle.site_audit.specs.declared.log_line.LogLine.{LogLine}
use Rattle.site_audit.specs.declared.log_line.LogLine.TheVariants as line

-- the line of a turn begins a block
abbrev pub block_at : LogLine → Option Block
block_at (line.Turn number moment) = Some (record { moment = moment; lines = []; reports = []; entries = []; orders = [] })
block_at l = None

-- with one line more, which begins none
abbrev pub with_log_line : Block → LogLine → Option Block
with_log_line b (line.Turn number moment) = None
with_log_line b (line.RefusedLine number fault) = Some (record b { lines = b.lines ++ record { number = number; fault = fault } ∷ [] })
with_log_line b (line.RefusedReport order) = Some (record b { reports = b.reports ++ order ∷ [] })
with_log_line b (line.Entry checkable entry) = Some (record b { entries = b.entries ++ record { checkable = checkable; entry = entry } ∷ [] })
with_log_line b (line.Order number checkable missing) = Some (record b { orders = b.orders ++ record { number = number; checkable = checkable; missing = missing } ∷ [] })

-- with what these bytes tell as one line more, and what they begin as the first one
abbrev pub line_added : Style → PlainNames → Block → List ℕ → Option Block
line_added style names b bytes = line_read style names bytes >>= with_log_line b

abbrev pub line_begun : Style → PlainNames → List ℕ → Option Block
line_begun style names bytes = line_read style names bytes >>= block_at

abbrev pub lines_into : Style → PlainNames → List (List ℕ) → Block → Option Block
lines_into style names [] b = Some b
lines_into style names (l ∷ ls) b = line_added style names b l >>= lines_into style names ls

-- the lines of a block
abbrev pub block_read : Style → PlainNames → List (List ℕ) → Option Block
block_read style names [] = None
block_read style names (l ∷ ls) = line_begun style names l >>= lines_into style names ls
