-- The lines of a query, both ways.
use Rattle.std.proofs.Common.{◌≡◌, ℕ, ◌<◌, Bool, true, false, cond, List, [], ◌∷◌, ◌++◌, length, map, codes, refl, sym, ap, ap₂, ◌∙◌, subst, arith, Option, Some, None, option_map}
use Rattle.std.proofs.lemmas.Slice.Eq.{bytes_eq-Decides}
use Rattle.std.specs.List.{join_with_byte}
use Rattle.std.specs.Str.{bytes_eq}
use Rattle.event_text.specs.Kinds.{any_number}
use Rattle.event_text.proofs.NumberLaws.{number_sound, number_complete}
use Rattle.site_query.specs.Lines.{most_number, most_limit, kind_text, IsNumber, IsValue, filter_text, IsLine}
use Rattle.site_query.specs.Names.{column_name, op_text, column_named, op_named}
use Rattle.site_query.specs.Reading.{number_read, words_of, before, columns_in, value_read, filter_of, text_of, filter_in, limit_in, line_with, line_in, line_read, kind_read}
use Rattle.site_query.specs.declared.column.Column.{Column}
use Rattle.site_query.specs.declared.column.Column.TheVariants as column
use Rattle.site_query.specs.declared.filter.Filter.{Filter}
use Rattle.site_query.specs.declared.filter.FilterValue.{FilterValue}
use Rattle.site_query.specs.declared.filter.FilterValue.TheVariants as value
use Rattle.site_query.specs.declared.op.Op.{Op}
use Rattle.site_query.specs.declared.query_line.QueryLine.{QueryLine}
use Rattle.site_query.specs.declared.query_line.QueryLine.TheVariants as line
use Rattle.site_query.proofs.NameLaws.{column_sound, op_sound, column_found, op_found, column_lacks_blank, op_lacks_blank}
use Rattle.site_query.proofs.PartLaws.{Lacks, AllLack, lacks_by_test, parts_at, parts_joined, parts_of_joined, some_part}

-- Values.
count_found : (text : List ℕ) (n : ℕ) → IsNumber most_number text n → option_map value.Count (number_read most_number text) ≡ Some (value.Count n)
count_found text n h = ap (option_map value.Count) (number_complete (record any_number { most = most_number }) text n h)

value_found : (c : Column) (text : List ℕ) (v : FilterValue) → IsValue c text v → value_read c text ≡ Some v
value_found column.Name text (value.Words words) h = ap (λ t. Some (value.Words t)) h
value_found column.Name text (value.Count n) h = absurd h
value_found c text (value.Words words) h = absurd h
value_found c text (value.Count n) h = count_found text n h

abbrev IsCounted : List ℕ → FilterValue → Type 0
IsCounted text (value.Words words) = ⊥
IsCounted text (value.Count n) = IsNumber most_number text n

counted : (text : List ℕ) (v : FilterValue) → option_map value.Count (number_read most_number text) ≡ Some v → IsCounted text v
counted text v e = by (number_read most_number text) refl e
  where
    by : (r : Option ℕ) → number_read most_number text ≡ r → option_map value.Count r ≡ Some v → IsCounted text v
    by None g e = cc
    by (Some n) g e = let is : value.Count n ≡ v = cc in subst (λ w. IsCounted text w) is (number_sound (record any_number { most = most_number }) text n g)

named : (text : List ℕ) (v : FilterValue) → Some (value.Words text) ≡ Some v → IsValue column.Name text v
named text (value.Words words) e = cc
named text (value.Count n) e = cc

value_sound : (c : Column) (text : List ℕ) (v : FilterValue) → value_read c text ≡ Some v → IsValue c text v
value_sound column.Name text v e = named text v e
value_sound c text (value.Words words) e = counted text (value.Words words) e
value_sound c text (value.Count n) e = counted text (value.Count n) e

-- Columns.
columns_found : (cs : List Column) → columns_in (map column_name cs) ≡ Some cs
columns_found [] = refl
columns_found (c ∷ cs) = ap₂ before (column_found c) (columns_found cs)

columns_sound : (ts : List (List ℕ)) (cs : List Column) → columns_in ts ≡ Some cs → ts ≡ map column_name cs
columns_sound [] cs e = let is : [] ≡ cs = cc in ap (map column_name) is
columns_sound (t ∷ ts) cs e = by (λ ds g. columns_sound ts ds g) (column_named t) refl (columns_in ts) refl e
  where
    by : ((ds : List Column) → columns_in ts ≡ Some ds → ts ≡ map column_name ds) → (q : Option Column) → column_named t ≡ q → (r : Option (List Column)) → columns_in ts ≡ r → before q r ≡ Some cs → t ∷ ts ≡ map column_name cs
    by again None h r g e = cc
    by again (Some c) h None g e = cc
    by again (Some c) h (Some ds) g e =
        let is : c ∷ ds ≡ cs = cc in
        ap₂ (λ x xs. x ∷ xs) (column_sound t c h) (again ds g) ∙ ap (map column_name) is

names_lack : (cs : List Column) → AllLack 32 (map column_name cs)
names_lack [] = tt
names_lack (c ∷ cs) = (column_lacks_blank c, names_lack cs)

-- Filters.
filter_words : (name spelling text : List ℕ) → filter_in (name ∷ spelling ∷ words_of text) ≡ filter_of (column_named name) (op_named spelling) text
filter_words name spelling text =
    let h = some_part 32 text in
    ap (λ ws. filter_in (name ∷ spelling ∷ ws)) h.is
    ∙ ap (filter_of (column_named name) (op_named spelling)) (sym (ap text_of h.is) ∙ parts_joined 32 text)

filter_found : (f : Filter) (text : List ℕ) → IsValue f.column text f.value → filter_in (words_of (filter_text f text)) ≡ Some f
filter_found f text h =
    ap filter_in
    (parts_at 32 (column_name f.column) (op_text f.op ++ 32 ∷ text) (column_lacks_blank f.column)
    ∙ ap (λ ws. column_name f.column ∷ ws) (parts_at 32 (op_text f.op) text (op_lacks_blank f.op)))
    ∙ (filter_words (column_name f.column) (op_text f.op) text
    ∙ (ap₂ (λ c o. filter_of c o text) (column_found f.column) (op_found f.op)
    ∙ ap (option_map (λ v. record { column = f.column; op = f.op; value = v })) (value_found f.column text f.value h)))

-- behind a column and an operator stands the value
pub filter_parts : (text name rest spelling left : List ℕ) (c : Column) (o : Op) (r : Option FilterValue) → words_of text ≡ name ∷ words_of rest → words_of rest ≡ spelling ∷ words_of left → Some c ≡ column_named name → Some o ≡ op_named spelling
    → r ≡ value_read c left → option_map (λ v. record { column = c; op = o; value = v }) r ≡ filter_in (words_of text)
filter_parts text name rest spelling left c o r one two named spelled is =
    ap (option_map (λ v. record { column = c; op = o; value = v })) is
    ∙ (ap₂ (λ q s. filter_of q s left) named spelled
    ∙ (sym (filter_words name spelling left) ∙ ap filter_in (sym (one ∙ ap (λ ws. name ∷ ws) two))))

-- a text that is this filter
pub record IsFilter (f : Filter) (text : List ℕ) : Type 0 where
  pub value : List ℕ
  pub is_value : IsValue f.column value f.value
  pub is : text ≡ filter_text f value

filter_made : (name spelling text : List ℕ) (f : Filter) → filter_of (column_named name) (op_named spelling) text ≡ Some f → IsFilter f (name ++ 32 ∷ (spelling ++ 32 ∷ text))
filter_made name spelling text f e = by (column_named name) refl (op_named spelling) refl e
  where
    made : (c : Column) (o : Op) (v : FilterValue) → column_named name ≡ Some c → op_named spelling ≡ Some o → value_read c text ≡ Some v → IsFilter (record { column = c; op = o; value = v }) (name ++ 32 ∷ (spelling ++ 32 ∷ text))
    made c o v h g w = record {
      value = text;
      is_value = value_sound c text v w;
      is = ap₂ (λ n s. n ++ 32 ∷ (s ++ 32 ∷ text)) (column_sound name c h) (op_sound spelling o g);
    }

    valued : (c : Column) (o : Op) → column_named name ≡ Some c → op_named spelling ≡ Some o → (r : Option FilterValue) → value_read c text ≡ r → option_map (λ v. record { column = c; op = o; value = v }) r ≡ Some f → IsFilter f (name ++ 32 ∷ (spelling ++ 32 ∷ text))
    valued c o h g None w e = cc
    valued c o h g (Some v) w e =
        let g0 : Filter = record { column = c; op = o; value = v } in
        let is : g0 ≡ f = cc in
        subst (λ x. IsFilter x (name ++ 32 ∷ (spelling ++ 32 ∷ text))) is (made c o v h g w)

    by : (q : Option Column) → column_named name ≡ q → (r : Option Op) → op_named spelling ≡ r → filter_of q r text ≡ Some f → IsFilter f (name ++ 32 ∷ (spelling ++ 32 ∷ text))
    by None h r g e = cc
    by (Some c) h None g e = cc
    by (Some c) h (Some o) g e = valued c o h g (value_read c text) refl e

filter_sound : (ws : List (List ℕ)) (f : Filter) → filter_in ws ≡ Some f → IsFilter f (text_of ws)
filter_sound [] f e = cc
filter_sound (name ∷ []) f e = cc
filter_sound (name ∷ spelling ∷ []) f e = cc
filter_sound (name ∷ spelling ∷ word ∷ words) f e = filter_made name spelling (text_of (word ∷ words)) f e

-- Lines.
line_words : (word rest : List ℕ) → line_in (word ∷ words_of rest) ≡ line_with word (words_of rest)
line_words word rest = let h = some_part 32 rest in ap (λ ws. line_in (word ∷ ws)) h.is ∙ ap (line_with word) (sym h.is)

line_at : (word rest : List ℕ) → Lacks 32 word → line_read (word ++ 32 ∷ rest) ≡ line_with word (words_of rest)
unfolding line_read
line_at word rest h = ap line_in (parts_at 32 word rest h) ∙ line_words word rest

-- what a line is read as, by its first word
pub line_by : (line word rest : List ℕ) → words_of line ≡ word ∷ words_of rest → line_read line ≡ line_with word (words_of rest)
unfolding line_read
line_by line word rest e = ap line_in e ∙ line_words word rest

pub line_lacks : (line : List ℕ) → words_of line ≡ line ∷ [] → None ≡ line_read line
unfolding line_read
line_lacks line e = sym (ap line_in e)

pub limit_by : (text : List ℕ) → number_read most_limit text ≡ limit_in (words_of text)
limit_by text = ap (number_read most_limit) (sym (parts_joined 32 text))

columns_words : (cs : List Column) → 0 < length cs → words_of (join_with_byte 32 (map column_name cs)) ≡ map column_name cs
columns_words [] h = absurd (omega arith)
columns_words (c ∷ cs) h = parts_of_joined 32 (column_name c) (map column_name cs) (names_lack (c ∷ cs))

limit_found : (digits : List ℕ) (n : ℕ) → IsNumber most_limit digits n → limit_in (words_of digits) ≡ Some n
limit_found digits n h = ap (number_read most_limit) (parts_joined 32 digits) ∙ number_complete (record any_number { most = most_limit }) digits n h

pub line_complete : (l : QueryLine) (text : List ℕ) → IsLine l text → line_read text ≡ Some l
line_complete (line.Columns cs) text h =
    ap line_read h.1
    ∙ (line_at (codes "Columns:") (join_with_byte 32 (map column_name cs)) (lacks_by_test 32 (codes "Columns:") refl)
    ∙ ap (option_map line.Columns) (ap columns_in (columns_words cs h.0) ∙ columns_found cs))
line_complete (line.Filter f) text h =
    ap line_read h.2
    ∙ (line_at (codes "Filter:") (filter_text f h.0) (lacks_by_test 32 (codes "Filter:") refl)
    ∙ ap (option_map line.Filter) (filter_found f h.0 h.1))
line_complete (line.Limit n) text h =
    ap line_read h.2
    ∙ (line_at (codes "Limit:") h.0 (lacks_by_test 32 (codes "Limit:") refl)
    ∙ ap (option_map line.Limit) (limit_found h.0 n h.1))

columns_is : (words : List (List ℕ)) (text : List ℕ) (l : QueryLine) → 0 < length words → text ≡ codes "Columns:" ++ 32 ∷ text_of words → option_map line.Columns (columns_in words) ≡ Some l → IsLine l text
columns_is words text l some is e = by (columns_in words) refl e
  where
    many : (cs : List Column) → words ≡ map column_name cs → 0 < length cs
    many [] g = absurd (omega (arith, some, ap length g))
    many (c ∷ cs) g = omega arith

    by : (r : Option (List Column)) → columns_in words ≡ r → option_map line.Columns r ≡ Some l → IsLine l text
    by None h e = cc
    by (Some cs) h e =
        let g : words ≡ map column_name cs = columns_sound words cs h in
        let same : line.Columns cs ≡ l = cc in
        subst (λ x. IsLine x text) same (many cs g, is ∙ ap (λ ws. codes "Columns:" ++ 32 ∷ text_of ws) g)

filter_is : (words : List (List ℕ)) (text : List ℕ) (l : QueryLine) → text ≡ codes "Filter:" ++ 32 ∷ text_of words → option_map line.Filter (filter_in words) ≡ Some l → IsLine l text
filter_is words text l is e = by (filter_in words) refl e
  where
    by : (r : Option Filter) → filter_in words ≡ r → option_map line.Filter r ≡ Some l → IsLine l text
    by None h e = cc
    by (Some f) h e =
        let g = filter_sound words f h in
        let same : line.Filter f ≡ l = cc in
        subst (λ x. IsLine x text) same (g.value, g.is_value, is ∙ ap (λ t. codes "Filter:" ++ 32 ∷ t) g.is)

limit_is : (words : List (List ℕ)) (text : List ℕ) (l : QueryLine) → text ≡ codes "Limit:" ++ 32 ∷ text_of words → option_map line.Limit (limit_in words) ≡ Some l → IsLine l text
limit_is words text l is e = by (limit_in words) refl e
  where
    by : (r : Option ℕ) → limit_in words ≡ r → option_map line.Limit r ≡ Some l → IsLine l text
    by None h e = cc
    by (Some n) h e =
        let same : line.Limit n ≡ l = cc in
        subst (λ x. IsLine x text) same (text_of words, number_sound (record any_number { most = most_limit }) (text_of words) n h, is)

with_sound : (word : List ℕ) (words : List (List ℕ)) (text : List ℕ) (l : QueryLine) → 0 < length words → text ≡ word ++ 32 ∷ text_of words → line_with word words ≡ Some l → IsLine l text
with_sound word words text l some is e = by (bytes_eq word (codes "Columns:")) refl (bytes_eq word (codes "Filter:")) refl (bytes_eq word (codes "Limit:")) refl e
  where
    spelled : (w : List ℕ) → bytes_eq word w ≡ true → text ≡ w ++ 32 ∷ text_of words
    spelled w h = is ∙ ap (λ x. x ++ 32 ∷ text_of words) ((bytes_eq-Decides word w).0 h)

    by : (s : Bool) → bytes_eq word (codes "Columns:") ≡ s → (t : Bool) → bytes_eq word (codes "Filter:") ≡ t → (u : Bool) → bytes_eq word (codes "Limit:") ≡ u
        → cond s (option_map line.Columns (columns_in words)) (cond t (option_map line.Filter (filter_in words)) (cond u (option_map line.Limit (limit_in words)) None)) ≡ Some l → IsLine l text
    by true h t g u k e = columns_is words text l some (spelled (codes "Columns:") h) e
    by false h true g u k e = filter_is words text l (spelled (codes "Filter:") g) e
    by false h false g true k e = limit_is words text l (spelled (codes "Limit:") k) e
    by false h false g false k e = cc

in_sound : (words : List (List ℕ)) (text : List ℕ) (l : QueryLine) → text ≡ text_of words → line_in words ≡ Some l → IsLine l text
in_sound [] text l is e = cc
in_sound (word ∷ []) text l is e = cc
in_sound (word ∷ next ∷ words) text l is e = with_sound word (next ∷ words) text l (omega arith) is e

pub line_sound : (l : QueryLine) (text : List ℕ) → line_read text ≡ Some l → IsLine l text
unfolding line_read
line_sound l text e = in_sound (words_of text) text l (sym (parts_joined 32 text)) e

-- The first line.
pub kind_complete : (hosts : Bool) (text : List ℕ) → text ≡ kind_text hosts → kind_read text ≡ Some hosts
kind_complete true text h = ap kind_read h
kind_complete false text h = ap kind_read h

pub kind_sound : (hosts : Bool) (text : List ℕ) → kind_read text ≡ Some hosts → text ≡ kind_text hosts
kind_sound hosts text e = by (bytes_eq text (codes "GET hosts")) refl (bytes_eq text (codes "GET services")) refl e
  where
    by : (s : Bool) → bytes_eq text (codes "GET hosts") ≡ s → (t : Bool) → bytes_eq text (codes "GET services") ≡ t → cond s (Some true) (cond t (Some false) None) ≡ Some hosts → text ≡ kind_text hosts
    by true h t g e = let is : true ≡ hosts = cc in (bytes_eq-Decides text (codes "GET hosts")).0 h ∙ ap kind_text is
    by false h true g e = let is : false ≡ hosts = cc in (bytes_eq-Decides text (codes "GET services")).0 g ∙ ap kind_text is
    by false h false g e = cc
