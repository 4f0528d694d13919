-- Queries, in the format's own words.
use Rattle.std.specs.Prelude.{ℕ, ◌≡◌, ◌<◌, ◌+◌, ◌==◌, ◌⊎◌, min, Bool, true, false, List, [], ◌∷◌, ◌++◌, length, map, codes, Option, Some, None, All}
use Rattle.std.specs.List.{flat_map, join_with_byte}
use Rattle.std.specs.Str.{IsUtf8}
use Rattle.event_text.specs.Kinds.{any_number}
use Rattle.event_text.specs.Numbers.{IsNumberWithin}
use Rattle.site_query.specs.Names.{column_name, op_text}
use Rattle.site_query.specs.declared.column.Column.{Column}
use Rattle.site_query.specs.declared.column.Column.TheVariants as column
use Rattle.site_query.specs.declared.filter.Filter.{Filter}
use Rattle.site_query.specs.declared.filter.FilterValue.{FilterValue}
use Rattle.site_query.specs.declared.filter.FilterValue.TheVariants as value
use Rattle.site_query.specs.declared.query.Query.{Query}
use Rattle.site_query.specs.declared.query_line.QueryLine.{QueryLine}
use Rattle.site_query.specs.declared.query_line.QueryLine.TheVariants as line

-- 1 to 19 digits that stand for this number, which is at most so great
abbrev pub IsNumber : ℕ → List ℕ → ℕ → Type 0
IsNumber most text n = IsNumberWithin (record any_number { most = most }) text n

-- the greatest of 19 digits
abbrev pub most_number : ℕ
most_number = 9999999999999999999

abbrev pub most_limit : ℕ
most_limit = 1000000000

-- the first line
abbrev pub kind_text : Bool → List ℕ
kind_text true = codes "GET hosts"
kind_text false = codes "GET services"

-- a filter's value is a text of the name, and a number of each other column
abbrev pub IsValue : Column → List ℕ → FilterValue → Type 0
IsValue column.Name text (value.Words words) = text ≡ words
IsValue column.Name text (value.Count n) = ⊥
IsValue c text (value.Words words) = ⊥
IsValue c text (value.Count n) = IsNumber most_number text n

-- so a filter compares with a text exactly what is the name
abbrev pub is_name : Column → Bool
is_name column.Name = true
is_name c = false

abbrev pub is_words : FilterValue → Bool
is_words (value.Words words) = true
is_words (value.Count n) = false

abbrev pub IsApt : Filter → Type 0
IsApt f = is_words f.value ≡ is_name f.column

-- one blank stands between two parts of a filter
abbrev pub filter_text : Filter → List ℕ → List ℕ
filter_text f text = column_name f.column ++ 32 ∷ (op_text f.op ++ 32 ∷ text)

-- each line behind the first, without its newline
abbrev pub IsLine : QueryLine → List ℕ → Type 0
IsLine (line.Columns cs) text = (0 < length cs) × (text ≡ codes "Columns:" ++ 32 ∷ join_with_byte 32 (map column_name cs))
IsLine (line.Filter f) text = (v : List ℕ) × IsValue f.column v f.value × (text ≡ codes "Filter:" ++ 32 ∷ filter_text f v)
IsLine (line.Limit n) text = (digits : List ℕ) × IsNumber most_limit digits n × (text ≡ codes "Limit:" ++ 32 ∷ digits)

-- what the first line alone asks for
abbrev pub all_of : Bool → Query
all_of hosts = record { hosts = hosts; columns = []; filters = []; limit = None }

-- columns and a limit may stand once
abbrev pub with_columns : Query → List Column → List Column → Option Query
with_columns q cs [] = Some (record q { columns = cs })
with_columns q cs (d ∷ ds) = None

abbrev pub with_limit : Query → ℕ → Option ℕ → Option Query
with_limit q n None = Some (record q { limit = Some n })
with_limit q n (Some m) = None

-- what is asked for with one line more, if it may stand
abbrev pub with_line : Query → QueryLine → Option Query
with_line q (line.Columns cs) = with_columns q cs q.columns
with_line q (line.Filter f) = Some (record q { filters = q.filters ++ f ∷ [] })
with_line q (line.Limit n) = with_limit q n q.limit

-- what the lines so far ask for, of which there may be none, and what they ask for with this text as the next line
abbrev pub Adds : Option Query → List ℕ → Query → Type 0
Adds None text q = (hosts : Bool) × (text ≡ kind_text hosts) × (q ≡ all_of hosts)
Adds (Some p) text q = (l : QueryLine) × IsLine l text × (with_line p l ≡ Some q)

-- a text without a newline
abbrev pub IsOneLine : List ℕ → Type 0
IsOneLine text = All (λ b. (b == 10) ≡ false) text

-- what these lines ask for behind those so far
abbrev pub Ask : Option Query → List (List ℕ) → Option Query → Type 0
Ask before [] after = before ≡ after
Ask before (t ∷ ts) after = (q : Query) × IsOneLine t × Adds before t q × Ask (Some q) ts after

-- each line ends in a newline
abbrev pub ended : List ℕ → List ℕ
ended text = text ++ 10 ∷ []

abbrev pub lines_text : List (List ℕ) → List ℕ
lines_text ts = flat_map ended ts

-- the bytes are lines that ask for this
pub record IsQuery (bytes : List ℕ) (q : Query) : Type 0 where
  pub lines : List (List ℕ)
  pub text : IsUtf8 bytes
  pub spelled : bytes ≡ lines_text lines
  pub ask : Ask None lines (Some q)

-- a line is wanted: the first one, or one for the bytes that are left
abbrev pub WantsLine : Option Query → List ℕ → Type 0
WantsLine None rest = Unit {0}
WantsLine (Some q) rest = 0 < length rest

-- the n-th line is the first that is none: those before it are lines, and what follows them has no line at its front that may stand
-- there; lines are counted up to the greatest number of 32 bits
pub record IsBadAt (bytes : List ℕ) (n : ℕ) : Type 0 where
  pub lines : List (List ℕ)
  pub before : Option Query
  pub rest : List ℕ
  pub text : IsUtf8 bytes
  pub whole : bytes ≡ lines_text lines ++ rest
  pub ask : Ask None lines before
  pub number : n ≡ min (length lines + 1) 4294967295
  pub wants : WantsLine before rest
  pub none : (t behind : List ℕ) (q : Query) → IsOneLine t → Adds before t q → rest ≡ ended t ++ behind → ⊥

-- bytes that aren't UTF-8 are bad at once
abbrev pub IsNoText : List ℕ → ℕ → Type 0
IsNoText bytes n = (IsUtf8 bytes → ⊥) × (n ≡ 1)

-- what bytes tell: a query, or the first line that is none
pub data Answer : Type 0 where
  told : Query → Answer
  bad_line : ℕ → Answer

abbrev pub Has : List ℕ → Answer → Type 0
Has bytes (told q) = IsQuery bytes q
Has bytes (bad_line n) = IsNoText bytes n ⊎ IsBadAt bytes n
