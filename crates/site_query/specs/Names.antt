-- How columns and operators are spelled.
use Rattle.std.specs.Prelude.{ℕ, List, [], ◌∷◌, codes, Option, Some, None, if◌then◌else◌}
use Rattle.std.specs.Str.{bytes_eq}
use Rattle.site_query.specs.declared.column.Column.{Column}
use Rattle.site_query.specs.declared.column.Column.TheVariants as column
use Rattle.site_query.specs.declared.op.Op.{Op}
use Rattle.site_query.specs.declared.op.Op.TheVariants as op

abbrev pub column_name : Column → List ℕ
column_name column.Name = codes "name"
column_name column.State = codes "state"
column_name column.Hard = codes "hard"
column_name column.HasResult = codes "has_result"
column_name column.Acknowledged = codes "acknowledged"
column_name column.Flapping = codes "flapping"
column_name column.Attempt = codes "attempt"
column_name column.Change = codes "change"
column_name column.Count = codes "count"
column_name column.Downtime = codes "downtime"

abbrev pub op_text : Op → List ℕ
op_text op.Equal = codes "="
op_text op.Unequal = codes "!="
op_text op.Less = codes "<"
op_text op.Greater = codes ">"
op_text op.AtMost = codes "<="
op_text op.AtLeast = codes ">="

-- all of them
abbrev pub all_columns : List Column
all_columns =
    column.Name ∷ column.State ∷ column.Hard ∷ column.HasResult ∷ column.Acknowledged ∷ column.Flapping ∷ column.Attempt ∷ column.Change ∷ column.Count ∷ column.Downtime ∷ []

abbrev pub all_ops : List Op
all_ops = op.Equal ∷ op.Unequal ∷ op.Less ∷ op.Greater ∷ op.AtMost ∷ op.AtLeast ∷ []

-- the first of these that is spelled so
abbrev pub spelled_among : {X : Type 0} → (X → List ℕ) → List X → List ℕ → Option X
spelled_among spelling [] text = None
spelled_among spelling (x ∷ xs) text = if bytes_eq text (spelling x) then Some x else spelled_among spelling xs text

unfoldable pub column_named : List ℕ → Option Column
column_named text = spelled_among column_name all_columns text

unfoldable pub op_named : List ℕ → Option Op
op_named text = spelled_among op_text all_ops text
