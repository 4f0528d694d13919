-- Values at the front of some bytes.
use Rattle.std.specs.Prelude.{ℕ, ◌≡◌, zero, suc, nat_le, List, [], ◌∷◌, ◌++◌, length, drop, codes, Bool, true, false, Option, Some, None, Result, Ok, Err, if◌then◌else◌}
use Rattle.std.specs.Str.{is_utf8}
use Rattle.site_model.specs.Names.{place_of}
use Rattle.site_text.specs.ScriptReading.{Read, got, bad, quoted_at, begins}
use Rattle.site_text.specs.Wholes.{whole_at}
use Rattle.log_text.specs.declared.entry_error.EntryError.{EntryError}
use Rattle.log_text.specs.declared.entry_error.EntryError.TheVariants as error

-- a value and what stands behind it; none if the front spells none
abbrev pub Front : Type 0 → Type 0
Front A = Option (A × List ℕ)

infixl 10 ◌>>=◌
abbrev pub ◌>>=◌ : {A B : Type 0} → Option A → (A → Option B) → Option B
None >>= f = None
(Some x) >>= f = f x

-- an error that a call gave is what reading gives, unless memory ran out
abbrev pub Fails : {Y : Type 0} → EntryError → Option Y → Type 0
Fails error.BadLine read = read ≡ None
Fails error.OutOfMemory read = Unit {0}

-- what a call returned, seen by view, is what reading gives, unless memory ran out
abbrev pub Gives : {X Y : Type 0} → (X → Y) → Result X EntryError → Option Y → Type 0
Gives view (Ok x) read = read ≡ Some (view x)
Gives view (Err e) read = Fails e read

abbrev pub front_of : {A : Type 0} → Read A → Front A
front_of bad = None
front_of (got x rest) = Some (x, rest)

-- what stands behind a word
abbrev pub behind : List ℕ → List ℕ → Option (List ℕ)
behind word bytes = if begins word bytes then Some (drop (length word) bytes) else None

-- which of two words stands there
abbrev pub flag_at : List ℕ → List ℕ → List ℕ → Front Bool
flag_at word other bytes = if begins word bytes then Some (true, drop (length word) bytes) else if begins other bytes then Some (false, drop (length other) bytes) else None

-- which of these values is spelled there
abbrev pub spelled_at : {A : Type 0} → (A → List ℕ) → List A → List ℕ → Front A
spelled_at text [] bytes = None
spelled_at text (x ∷ xs) bytes = if begins (text x) bytes then Some (x, drop (length (text x)) bytes) else spelled_at text xs bytes

abbrev pub number_at : List ℕ → Front ℕ
number_at bytes = front_of (whole_at bytes)

abbrev pub at_most : ℕ → ℕ × List ℕ → Front ℕ
at_most most n = if nat_le n.0 most then Some n else None

-- a number that is at most this
unfoldable pub bounded_at : ℕ → List ℕ → Front ℕ
bounded_at most bytes = number_at bytes >>= at_most most

abbrev pub as_text : List ℕ × List ℕ → Front (List ℕ)
as_text t = if is_utf8 t.0 then Some t else None

-- a quoted text
unfoldable pub text_at : List ℕ → Front (List ℕ)
text_at bytes = front_of (quoted_at bytes) >>= as_text

abbrev pub with_rest : List ℕ → Option ℕ → Front ℕ
with_rest rest None = None
with_rest rest (Some k) = Some (k, rest)

abbrev pub placed : List (List ℕ) → List ℕ × List ℕ → Front ℕ
placed names t = with_rest t.1 (place_of t.0 names)

-- the place of a quoted name
unfoldable pub name_at : List (List ℕ) → List ℕ → Front ℕ
name_at names bytes = text_at bytes >>= placed names

-- parts that are joined, with a bound on their number
abbrev pub with_first : {A : Type 0} → A → List A × List ℕ → Front (List A)
with_first x xs = Some (x ∷ xs.0, xs.1)

abbrev pub with_front : {A : Type 0} → List A → List A × List ℕ → Front (List A)
with_front front xs = Some (front ++ xs.0, xs.1)

-- a part alone, or a part with those after the comma
abbrev pub joined : {A : Type 0} → (List ℕ → Front (List A)) → A × List ℕ → Option (List ℕ) → Front (List A)
joined again x None = Some (x.0 ∷ [], x.1)
joined again x (Some rest) = again rest >>= with_first x.0

abbrev pub after_part : {A : Type 0} → (List ℕ → Front (List A)) → A × List ℕ → Front (List A)
after_part again x = joined again x (behind (codes ", ") x.1)

abbrev pub parts_within : {A : Type 0} → ℕ → (List ℕ → Front A) → List ℕ → Front (List A)
parts_within zero part bytes = None
parts_within (suc most) part bytes = part bytes >>= after_part (parts_within most part)

-- the parts, or a dash if there are none
abbrev pub list_at : {A : Type 0} → (List ℕ → Front A) → List ℕ → Front (List A)
list_at part bytes = if begins (codes "-") bytes then Some ([], drop 1 bytes) else parts_within (length bytes) part bytes
