-- The lines of a turn: a refused one stands at its number, and told ones fill the other numbers.
use Rattle.std.specs.Prelude.{ℕ, suc, ◌-◌, nat_lt, List, [], ◌∷◌, ◌++◌, length, take, drop, Option, Some, None, if◌then◌else◌}
use Rattle.event_text.specs.declared.line_fault.LineFault.{LineFault}
use Rattle.log_text.specs.Fronts.{◌>>=◌}
use Rattle.site_audit.specs.declared.block.RefusedLine.{RefusedLine}

-- the lines so far, and the told ones that are left
pub record Filling : Type 0 where
  pub lines : List (List ℕ)
  pub left : List (List ℕ)

-- how many told lines stand between so many lines and the one of this number; none if it is 0, doesn't rise, or is above what is left
abbrev pub gap_to : ℕ → ℕ → ℕ → Option ℕ
gap_to number so_far left =
    if nat_lt so_far number then (if nat_lt left (number - suc so_far) then None else Some (number - suc so_far)) else None

abbrev pub with_gap : Filling → ℕ → List ℕ → Filling
with_gap f gap line = record { lines = f.lines ++ (take gap f.left ++ line ∷ []); left = drop gap f.left }

abbrev pub with_text : Filling → ℕ → Option (List ℕ) → Option Filling
with_text f gap None = None
with_text f gap (Some line) = Some (with_gap f gap line)

-- with one line more that is refused, if each fault has such a line
abbrev pub one_filled : (LineFault → Option (List ℕ)) → RefusedLine → Filling → Option Filling
one_filled text r f = gap_to r.number (length f.lines) (length f.left) >>= λ gap. with_text f gap (text r.fault)

abbrev pub filled : (LineFault → Option (List ℕ)) → List RefusedLine → Filling → Option (List (List ℕ))
filled text [] f = Some (f.lines ++ f.left)
filled text (r ∷ rs) f = one_filled text r f >>= filled text rs
