-- What rules need to know of tokens: each has a sort, and rules speak of sets of sorts, as lists.
use Rattle.std.specs.Prelude.{ℕ, List, [], ◌∷◌, ◌++◌, Bool, true, false, cond, not, nat_eq}

-- a sort, by its class and its number there
pub data Sort : Type 0 where
  sort : ℕ → ℕ → Sort

abbrev pub same : Sort → Sort → Bool
same (sort a b) (sort c d) = cond (nat_eq a c) (nat_eq b d) false

pub record Alphabet (T : Type 0) : Type 0 where
  -- a token's sort
  pub sort_of : T → Sort
  -- the sort of newlines, over which some rules look
  pub line : Sort
  -- the sort of the last token of a list
  pub last : Sort
  -- a token of each sort
  pub sample : Sort → T

-- the sort is one of these
abbrev pub among : Sort → List Sort → Bool
among c [] = false
among c (x ∷ xs) = cond (same c x) true (among c xs)

-- the sorts that aren't this one
abbrev pub without : Sort → List Sort → List Sort
without c [] = []
without c (x ∷ xs) = cond (same x c) (without c xs) (x ∷ without c xs)

-- the sorts that are none of these
abbrev pub outside : List Sort → List Sort → List Sort
outside cs [] = []
outside cs (x ∷ xs) = cond (among x cs) (outside cs xs) (x ∷ outside cs xs)

-- no sort is in both
abbrev pub apart : List Sort → List Sort → Bool
apart [] ds = true
apart (c ∷ cs) ds = cond (among c ds) false (apart cs ds)

-- both hold
abbrev pub and : Bool → Bool → Bool
and b c = cond b c false

-- one holds, or both
abbrev pub or : Bool → Bool → Bool
or b c = cond b true c

-- these, if it holds
abbrev pub where_holds : Bool → List Sort → List Sort
where_holds b cs = cond b cs []

-- the next token is of one of these sorts
abbrev pub at : {T : Type 0} → Alphabet T → List Sort → List T → Bool
at al cs [] = false
at al cs (t ∷ ts) = among (al.sort_of t) cs

-- the tokens behind all newlines
abbrev pub skip : {T : Type 0} → Alphabet T → List T → List T
skip al [] = []
skip al (t ∷ ts) = cond (same (al.sort_of t) al.line) (skip al ts) (t ∷ ts)

-- the tokens, or those behind all newlines
abbrev pub over : {T : Type 0} → Alphabet T → Bool → List T → List T
over al look ts = cond look (skip al ts) ts
