-- What a query is answered.
use Rattle.std.specs.Prelude.{ℕ, Bool, false, not, nat_lt, ◌&&◌, List, [], ◌∷◌, ◌++◌, filter, map, take, Option, Some, None, if◌then◌else◌}
use Rattle.std.specs.Cmp.Lexicographic.{slice_cmp}
use Rattle.std.specs.Fmt.{decimal}
use Rattle.std.specs.List.{flat_map, join_with_byte, list_all}
use Rattle.std.specs.Ordering.{nat_cmp, is_eq, is_ne, is_lt, is_gt, is_le, is_ge}
use Rattle.std.specs.declared.cmp.Ordering.{Ordering}
use Rattle.run_meaning.specs.Turns.{Histories}
use Rattle.site_base.specs.Quoted.{quoted}
use Rattle.site_model.specs.PlainSite.{PlainCheck, PlainSite}
use Rattle.site_query.specs.Shown.{PlainShown, shown, value_in}
use Rattle.site_query.specs.declared.column.Column.{Column}
use Rattle.site_query.specs.declared.column.Column.TheVariants as column
use Rattle.site_query.specs.declared.filter.Filter.{Filter}
use Rattle.site_query.specs.declared.filter.FilterValue.{FilterValue}
use Rattle.site_query.specs.declared.filter.FilterValue.TheVariants as value
use Rattle.site_query.specs.declared.op.Op.{Op}
use Rattle.site_query.specs.declared.op.Op.TheVariants as op
use Rattle.site_query.specs.declared.query.Query.{Query}

-- Filters.

-- texts are compared by their bytes, and numbers as numbers; a text and a number aren't
abbrev pub compared : FilterValue → FilterValue → Option Ordering
compared (value.Words a) (value.Words b) = Some (slice_cmp nat_cmp a b)
compared (value.Words a) (value.Count n) = None
compared (value.Count m) (value.Words b) = None
compared (value.Count m) (value.Count n) = Some (nat_cmp m n)

abbrev pub stands : Op → Ordering → Bool
stands op.Equal o = is_eq o
stands op.Unequal o = is_ne o
stands op.Less o = is_lt o
stands op.Greater o = is_gt o
stands op.AtMost o = is_le o
stands op.AtLeast o = is_ge o

abbrev pub stands_so : Op → Option Ordering → Bool
stands_so p None = false
stands_so p (Some o) = stands p o

-- what is shown stands to the filter's value as the filter asks
abbrev pub meets : PlainShown → Filter → Bool
meets s f = stands_so f.op (compared (value_in f.column s) f.value)

-- a host where hosts are asked for, else a service
abbrev pub is_kind : Bool → PlainShown → Bool
is_kind hosts s = if hosts then s.host else not s.host

-- it is of the kind that is asked for, and meets every filter
abbrev pub is_asked : Query → PlainShown → Bool
is_asked q s = is_kind q.hosts s && list_all (meets s) q.filters

-- those that are asked for
abbrev pub asked_of : Query → List PlainShown → List PlainShown
asked_of q ss = filter (is_asked q) ss

-- one that is told of, where so many may be told
abbrev pub is_told : Query → ℕ → PlainShown → Bool
is_told q left s = nat_lt 0 left && is_asked q s

-- the first so many, or all
abbrev pub first_of : Option ℕ → List PlainShown → List PlainShown
first_of None ss = ss
first_of (Some n) ss = take n ss

-- Texts.

-- name and state where the query names no columns
abbrev pub columns_told : List Column → List Column
columns_told [] = column.Name ∷ column.State ∷ []
columns_told (c ∷ cs) = c ∷ cs

abbrev pub value_text : FilterValue → List ℕ
value_text (value.Words text) = quoted text
value_text (value.Count n) = decimal n

abbrev pub cell_text : PlainShown → Column → List ℕ
cell_text s c = value_text (value_in c s)

-- a line with the columns and a semicolon between two
abbrev pub row_text : List Column → PlainShown → List ℕ
row_text cs s = join_with_byte 59 (map (cell_text s) cs) ++ 10 ∷ []

-- what each checkable shows, by index
abbrev pub all_shown : List PlainCheck → Histories → ℕ → List PlainShown
all_shown [] hs moment = []
all_shown (c ∷ cs) [] moment = []
all_shown (c ∷ cs) (h ∷ hs) moment = shown c h moment ∷ all_shown cs hs moment

-- a line for each that is asked for, in the order of the site
abbrev pub answer_text : PlainSite → Histories → ℕ → Query → List ℕ
answer_text s histories moment q =
    flat_map (row_text (columns_told q.columns)) (first_of q.limit (asked_of q (all_shown s.checkables histories moment)))
