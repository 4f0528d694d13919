-- Cells and functions of several layers.
use Rattle.std.proofs.Common.{◌≡◌, ℕ, ◌+◌, ◌-◌, ◌<◌, ◌≤◌, List, [], ◌∷◌, ◌++◌, length, drop, get_or, slice_get, Some, sym, ap, ◌∙◌, arith, length-append}
use Rattle.std.proofs.lemmas.List.{append_assoc, append-nil, drop_more, get_or_append_left, get_or-append_right}
use Rattle.std.proofs.Math.ListN.{drop_of_length-le}
use Rattle.dsl_value.specs.Contents.{Contained, PlainFunction, array, cell_at}
use Rattle.dsl_value.specs.Parts.{beside, all_of, AreCounted}
use Rattle.std.proofs.lemmas.Option.{slice_get-get_or}

-- a layer more at the end
pub all_added : (ls : List Contained) (l : Contained) → all_of (ls ++ l ∷ []) ≡ beside (all_of ls) l
all_added [] l = λ i. record { cells = append-nil l.cells i; functions = append-nil l.functions i }
all_added (x ∷ ls) l =
    ap (beside x) (all_added ls l)
    ∙ (λ i. record { cells = sym (append_assoc x.cells (all_of ls).cells l.cells) i; functions = sym (append_assoc x.functions (all_of ls).functions l.functions) i })

pub beside_together : (a b c : Contained) → beside (beside a b) c ≡ beside a (beside b c)
beside_together a b c = λ i. record { cells = append_assoc a.cells b.cells c.cells i; functions = append_assoc a.functions b.functions c.functions i }

-- the first of the layers that are left
pub first_left : (ls : List Contained) (i : ℕ) (l : Contained) → i < length ls → l ≡ get_or ls i l → all_of (drop i ls) ≡ beside l (all_of (drop (i + 1) ls))
first_left ls i l lt is = ap all_of (drop_more ls i l lt) ∙ ap (λ x. beside x (all_of (drop (i + 1) ls))) (sym is)

pub none_left : (ls : List Contained) (i : ℕ) → length ls ≤ i → all_of (drop i ls) ≡ record { cells = []; functions = [] }
none_left ls i le = ap all_of (drop_of_length-le ls le)

module _ (ls : List Contained) (i : ℕ) (l : Contained) (within : i < length ls) (is : l ≡ get_or ls i l) where
  cells_split : (all_of (drop i ls)).cells ≡ l.cells ++ (all_of (drop (i + 1) ls)).cells
  cells_split = ap (λ c. c.cells) (first_left ls i l within is)

  functions_split : (all_of (drop i ls)).functions ≡ l.functions ++ (all_of (drop (i + 1) ls)).functions
  functions_split = ap (λ c. c.functions) (first_left ls i l within is)

  -- a cell of the first layer that is left
  pub cell_here : (left : ℕ) → left < length l.cells → cell_at l.cells left ≡ cell_at (all_of (drop i ls)).cells left
  cell_here left lt = sym (ap (λ ks. cell_at ks left) cells_split ∙ get_or_append_left l.cells (all_of (drop (i + 1) ls)).cells (array []) left lt)

  -- a cell of a later one
  pub cell_later : (left n : ℕ) → n ≡ length l.cells → n ≤ left → cell_at (all_of (drop (i + 1) ls)).cells (left - n) ≡ cell_at (all_of (drop i ls)).cells left
  cell_later left n long le = sym (ap (λ ks. cell_at ks left) cells_split ∙ get_or-append_right l.cells (all_of (drop (i + 1) ls)).cells n left (array []) (sym long) le)

  pub cells_later : (left n : ℕ) → n ≡ length l.cells → n ≤ left → left < length (all_of (drop i ls)).cells → left - n < length (all_of (drop (i + 1) ls)).cells
  cells_later left n long le lt =
      let e = ap length cells_split in
      let f = length-append l.cells (all_of (drop (i + 1) ls)).cells in
      omega (arith, long, le, lt, e, f)

  pub function_here : (left : ℕ) (d : PlainFunction) → left < length l.functions → get_or l.functions left d ≡ get_or (all_of (drop i ls)).functions left d
  function_here left d lt = sym (ap (λ fs. get_or fs left d) functions_split ∙ get_or_append_left l.functions (all_of (drop (i + 1) ls)).functions d left lt)

  pub function_later : (left n : ℕ) (d : PlainFunction) → n ≡ length l.functions → n ≤ left → get_or (all_of (drop (i + 1) ls)).functions (left - n) d ≡ get_or (all_of (drop i ls)).functions left d
  function_later left n d long le = sym (ap (λ fs. get_or fs left d) functions_split ∙ get_or-append_right l.functions (all_of (drop (i + 1) ls)).functions n left d (sym long) le)

  pub functions_later : (left n : ℕ) → n ≡ length l.functions → n ≤ left → left < length (all_of (drop i ls)).functions → left - n < length (all_of (drop (i + 1) ls)).functions
  functions_later left n long le lt =
      let e = ap length functions_split in
      let f = length-append l.functions (all_of (drop (i + 1) ls)).functions in
      omega (arith, long, le, lt, e, f)

-- nothing is looked for once no layer is left
pub none_beyond : (ls : List Contained) (i left : ℕ) → length ls ≤ i → left < length (all_of (drop i ls)).cells → ⊥
none_beyond ls i left le lt = let e = ap (λ c. length c.cells) (none_left ls i le) in omega (arith, e, lt)

pub no_function_beyond : (ls : List Contained) (i left : ℕ) → length ls ≤ i → left < length (all_of (drop i ls)).functions → ⊥
no_function_beyond ls i left le lt = let e = ap (λ c. length c.functions) (none_left ls i le) in omega (arith, e, lt)

pub found_function : (fs : List PlainFunction) (k : ℕ) (f : PlainFunction) → k < length fs → get_or fs k f ≡ f → Some f ≡ slice_get fs k
found_function fs k f lt e = sym (slice_get-get_or fs k f lt ∙ ap Some e)

pub counted_beside : (ls new : List Contained) (l : Contained) (cells functions n m : ℕ) → AreCounted ls cells functions → n ≡ length l.cells → m ≡ length l.functions
    → all_of new ≡ beside (all_of ls) l → AreCounted new (cells + n) (functions + m)
counted_beside ls new l cells functions n m counted long long_functions e =
    let a = ap (λ c. length c.cells) e in
    let b = ap (λ c. length c.functions) e in
    let f = length-append (all_of ls).cells l.cells in
    let g = length-append (all_of ls).functions l.functions in
    record { cells_are = omega (arith, counted.cells_are, long, a, f); functions_are = omega (arith, counted.functions_are, long_functions, b, g) }
