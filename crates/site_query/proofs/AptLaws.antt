-- The filters of a query that was read.
use Rattle.std.proofs.Common.{◌≡◌, ℕ, List, [], ◌∷◌, ◌++◌, refl, sym, subst, Option, Some, None, Result, Ok, Err, IfOk}
use Rattle.std.specs.List.{AllByRecursion}
use Rattle.site_query.specs.Lines.{IsValue, IsApt, is_name, is_words, IsLine, with_columns, with_limit, with_line, Ask, Has}
use Rattle.site_query.specs.Reading.{Tells}
use Rattle.site_query.specs.declared.column.Column.{Column}
use Rattle.site_query.specs.declared.column.Column.TheVariants as column
use Rattle.site_query.specs.declared.filter.Filter.{Filter}
use Rattle.site_query.specs.declared.filter.FilterValue.{FilterValue}
use Rattle.site_query.specs.declared.filter.FilterValue.TheVariants as value
use Rattle.site_query.specs.declared.query.Query.{Query}
use Rattle.site_query.specs.declared.query_error.QueryError.{QueryError}
use Rattle.site_query.specs.declared.query_line.QueryLine.{QueryLine}
use Rattle.site_query.specs.declared.query_line.QueryLine.TheVariants as line

abbrev AreApt : List Filter → Type 0
AreApt fs = AllByRecursion IsApt fs

value_apt : (c : Column) (text : List ℕ) (v : FilterValue) → IsValue c text v → is_words v ≡ is_name c
value_apt column.Name text (value.Words words) h = refl
value_apt column.Name text (value.Count n) h = absurd h
value_apt c text (value.Words words) h = absurd h
value_apt c text (value.Count n) h = refl

one_more : (fs : List Filter) (f : Filter) → AreApt fs → IsApt f → AreApt (fs ++ f ∷ [])
one_more [] f h g = (g, tt)
one_more (e ∷ fs) f h g = (h.0, one_more fs f h.1 g)

columns_apt : (p q : Query) (cs ds : List Column) → with_columns p cs ds ≡ Some q → AreApt p.filters → AreApt q.filters
columns_apt p q cs [] e h = let is : record p { columns = cs } ≡ q = cc in subst (λ (x : Query). AreApt x.filters) is h
columns_apt p q cs (d ∷ ds) e h = cc

limit_apt : (p q : Query) (n : ℕ) (l : Option ℕ) → with_limit p n l ≡ Some q → AreApt p.filters → AreApt q.filters
limit_apt p q n None e h = let is : record p { limit = Some n } ≡ q = cc in subst (λ (x : Query). AreApt x.filters) is h
limit_apt p q n (Some m) e h = cc

line_apt : (p q : Query) (l : QueryLine) (text : List ℕ) → IsLine l text → with_line p l ≡ Some q → AreApt p.filters → AreApt q.filters
line_apt p q (line.Columns cs) text is e h = columns_apt p q cs p.columns e h
line_apt p q (line.Filter f) text is e h =
    let same : record p { filters = p.filters ++ f ∷ [] } ≡ q = cc in
    subst (λ (x : Query). AreApt x.filters) same (one_more p.filters f h (value_apt f.column is.0 f.value is.1))
line_apt p q (line.Limit n) text is e h = limit_apt p q n p.limit e h

ask_apt : (ts : List (List ℕ)) (p q : Query) → Ask (Some p) ts (Some q) → AreApt p.filters → AreApt q.filters
ask_apt [] p q h g = let is : p ≡ q = cc in subst (λ (x : Query). AreApt x.filters) is g
ask_apt (t ∷ ts) p q h g = ask_apt ts h.0 q h.3 (line_apt p h.0 h.2.0 t h.2.1 h.2.2 g)

all_apt : (ts : List (List ℕ)) (q : Query) → Ask None ts (Some q) → AreApt q.filters
all_apt [] q h = absurd (let no : None ≡ Some q = h in cc)
all_apt (t ∷ ts) q h =
    let first : AreApt h.0.filters = subst (λ (x : Query). AreApt x.filters) (sym h.2.2) tt in
    ask_apt ts h.0 q h.3 first

pub query_apt : (bytes : List ℕ) (r : Result Query QueryError) → Tells (Has bytes) r → IfOk r (λ q. AreApt q.filters)
query_apt bytes (Ok q) h = all_apt h.lines q h.ask
query_apt bytes (Err e) h = tt
