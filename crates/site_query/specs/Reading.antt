-- What a query asks for, read from its front.
use Rattle.std.specs.Prelude.{ℕ, ◌≡◌, ◌==◌, Bool, true, false, List, [], ◌∷◌, codes, Option, Some, None, Result, Ok, Err, if◌then◌else◌}
use Rattle.std.specs.List.{join_with_byte, slice_split}
use Rattle.std.specs.Option.{option_map, option_and_then}
use Rattle.std.specs.Str.{bytes_eq, is_utf8}
use Rattle.event_text.specs.Kinds.{any_number}
use Rattle.event_text.specs.Numbers.{number_in}
use Rattle.site_text.specs.ScriptReading.{next}
use Rattle.site_query.specs.Lines.{Answer, told, bad_line, all_of, with_line, most_number, most_limit}
use Rattle.site_query.specs.Names.{column_named, op_named}
use Rattle.site_query.specs.declared.column.Column.{Column}
use Rattle.site_query.specs.declared.column.Column.TheVariants as column
use Rattle.site_query.specs.declared.filter.Filter.{Filter}
use Rattle.site_query.specs.declared.filter.FilterValue.{FilterValue}
use Rattle.site_query.specs.declared.filter.FilterValue.TheVariants as value
use Rattle.site_query.specs.declared.op.Op.{Op}
use Rattle.site_query.specs.declared.query.Query.{Query}
use Rattle.site_query.specs.declared.query_error.QueryError.{QueryError}
use Rattle.site_query.specs.declared.query_error.QueryError.TheVariants as error
use Rattle.site_query.specs.declared.query_line.QueryLine.{QueryLine}
use Rattle.site_query.specs.declared.query_line.QueryLine.TheVariants as line

-- what stands between newlines, the last part behind the last one
abbrev pub lines_of : List ℕ → List (List ℕ)
lines_of text = slice_split (λ b. b == 10) text

-- what stands between blanks
abbrev pub words_of : List ℕ → List (List ℕ)
words_of text = slice_split (λ b. b == 32) text

-- the number of at most 19 digits that a text stands for, if it is at most so great
abbrev pub number_read : ℕ → List ℕ → Option ℕ
number_read most text = number_in (record any_number { most = most }) text

-- Lines.

-- a column before others
abbrev pub before : Option Column → Option (List Column) → Option (List Column)
before None cs = None
before (Some c) cs = option_map (λ more. c ∷ more) cs

-- the columns of these names
abbrev pub columns_in : List (List ℕ) → Option (List Column)
columns_in [] = Some []
columns_in (t ∷ ts) = before (column_named t) (columns_in ts)

abbrev pub value_read : Column → List ℕ → Option FilterValue
value_read column.Name text = Some (value.Words text)
value_read c text = option_map value.Count (number_read most_number text)

abbrev pub filter_of : Option Column → Option Op → List ℕ → Option Filter
filter_of None o text = None
filter_of (Some c) None text = None
filter_of (Some c) (Some o) text = option_map (λ v. record { column = c; op = o; value = v }) (value_read c text)

-- the text whose words these are
abbrev pub text_of : List (List ℕ) → List ℕ
text_of words = join_with_byte 32 words

-- a column, an operator, and a value that takes the rest
abbrev pub filter_in : List (List ℕ) → Option Filter
filter_in [] = None
filter_in (name ∷ []) = None
filter_in (name ∷ spelling ∷ []) = None
filter_in (name ∷ spelling ∷ word ∷ words) = filter_of (column_named name) (op_named spelling) (text_of (word ∷ words))

abbrev pub limit_in : List (List ℕ) → Option ℕ
limit_in words = number_read most_limit (text_of words)

-- behind the word that a line begins with
abbrev pub line_with : List ℕ → List (List ℕ) → Option QueryLine
line_with word words =
    if bytes_eq word (codes "Columns:") then option_map line.Columns (columns_in words)
    else if bytes_eq word (codes "Filter:") then option_map line.Filter (filter_in words)
    else if bytes_eq word (codes "Limit:") then option_map line.Limit (limit_in words)
    else None

abbrev pub line_in : List (List ℕ) → Option QueryLine
line_in [] = None
line_in (word ∷ []) = None
line_in (word ∷ next ∷ words) = line_with word (next ∷ words)

unfoldable pub line_read : List ℕ → Option QueryLine
line_read text = line_in (words_of text)

abbrev pub kind_read : List ℕ → Option Bool
kind_read text = if bytes_eq text (codes "GET hosts") then Some true else if bytes_eq text (codes "GET services") then Some false else None

-- Queries.

-- what is asked for with this text as one line more
abbrev pub with_text : Query → List ℕ → Option Query
with_text q text = option_and_then (λ l. with_line q l) (line_read text)

-- behind the line of this number
abbrev pub behind_line : (Query → Answer) → ℕ → Option Query → Answer
behind_line more n None = bad_line n
behind_line more n (Some q) = more q

-- nothing stands behind the last newline
abbrev pub last_read : Query → ℕ → List ℕ → Answer
last_read q n [] = told q
last_read q n (b ∷ bs) = bad_line (next n)

-- behind so many lines
abbrev pub lines_read : Query → ℕ → List (List ℕ) → Answer
lines_read q n [] = told q
lines_read q n (t ∷ []) = last_read q n t
lines_read q n (t ∷ u ∷ ts) = behind_line (λ p. lines_read p (next n) (u ∷ ts)) (next n) (with_text q t)

abbrev pub kind_with : Option Bool → List (List ℕ) → Answer
kind_with None ts = bad_line 1
kind_with (Some hosts) ts = lines_read (all_of hosts) 1 ts

abbrev pub text_read : List (List ℕ) → Answer
text_read [] = bad_line 1
text_read (t ∷ []) = bad_line 1
text_read (t ∷ u ∷ ts) = kind_with (kind_read t) (u ∷ ts)

-- what bytes tell
unfoldable pub query_read : List ℕ → Answer
query_read bytes = if is_utf8 bytes then text_read (lines_of bytes) else bad_line 1

-- a call gave this answer, unless memory ran out
abbrev pub Gives : Result Query QueryError → Answer → Type 0
Gives (Ok q) a = a ≡ told q
Gives (Err (error.BadQuery n)) a = a ≡ bad_line n
Gives (Err error.OutOfMemory) a = Unit {0}

-- what holds of the answer that a call gave, unless memory ran out
abbrev pub Tells : (Answer → Type 0) → Result Query QueryError → Type 0
Tells P (Ok q) = P (told q)
Tells P (Err (error.BadQuery n)) = P (bad_line n)
Tells P (Err error.OutOfMemory) = Unit {0}
