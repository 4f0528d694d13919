-- The methods of texts.
use Rattle.std.specs.Prelude.{ℕ, zero, suc, ℤ, pos, negsuc, ◌+ℤ◌, ◌-◌, ◌==◌, ◌&&◌, ◌||◌, min, nat_lt, nat_le, Bool, true, false, List, [], ◌∷◌, ◌++◌, length, map, reverse, slice_index, slice_range, Option, Some, None, if◌then◌else◌}
use Rattle.std.specs.Char.{to_ascii_lowercase, to_ascii_uppercase}
use Rattle.std.specs.Str.{chars, encode_utf8_all}
use Rattle.std.specs.List.{slice_split, list_any}
use Rattle.dsl_value.specs.Contents.{array}
use Rattle.dsl_ops.specs.Table.{whole_part}
use Rattle.dsl_value.specs.declared.value.Value.{Value}
use Rattle.dsl_value.specs.declared.value.Value.TheVariants as value
use Rattle.dsl_lib.specs.Answers.{Answer, gives, makes, counted, typed}
use Rattle.dsl_lib.specs.Arguments.{one, two, three, text_in, number_in}
use Rattle.dsl_lib.specs.Scalars.{whole}

abbrev pub len : List Value → Answer
len args = counted (one args) (λ v. typed (text_in v) (λ t. gives (whole (length t))))

-- a text begins with a part
abbrev pub begins_with : List ℕ → List ℕ → Bool
begins_with bs [] = true
begins_with [] (p ∷ ps) = false
begins_with (b ∷ bs) (p ∷ ps) = (b == p) && begins_with bs ps

-- a part stands somewhere in a text
abbrev pub has_part : List ℕ → List ℕ → Bool
has_part [] part = begins_with [] part
has_part (b ∷ bs) part = begins_with (b ∷ bs) part || has_part bs part

abbrev pub contains : List Value → Answer
contains args = counted (two args) (λ a. typed (text_in a.0) (λ t. typed (text_in a.1) (λ part. gives (value.Bool (has_part t part)))))

-- the text of what comes of a text's characters
abbrev pub by_chars : (List ℕ → List ℕ) → List ℕ → List ℕ
by_chars f t = encode_utf8_all (f (chars t))

abbrev pub changed : (List ℕ → List ℕ) → List Value → Answer
changed f args = counted (one args) (λ v. typed (text_in v) (λ t. gives (value.Str (by_chars f t))))

abbrev pub lower : List Value → Answer
lower = changed (map to_ascii_lowercase)

abbrev pub upper : List Value → Answer
upper = changed (map to_ascii_uppercase)

-- space, tab, carriage return and newline
abbrev pub is_blank : ℕ → Bool
is_blank c = (c == 32) || (c == 9) || (c == 13) || (c == 10)

abbrev pub skip_blanks : List ℕ → List ℕ
skip_blanks [] = []
skip_blanks (c ∷ cs) = if is_blank c then skip_blanks cs else c ∷ cs

-- without the blanks at both ends
abbrev pub trimmed : List ℕ → List ℕ
trimmed cs = reverse (skip_blanks (reverse (skip_blanks cs)))

abbrev pub trim : List Value → Answer
trim = changed trimmed

-- where a part begins, another text stands in its place, and its bytes are passed; so many are to be
-- passed first
abbrev pub replaced_behind : List ℕ → List ℕ → ℕ → List ℕ → List ℕ
replaced_behind part by n [] = []
replaced_behind part by (suc n) (b ∷ bs) = replaced_behind part by n bs
replaced_behind part by zero (b ∷ bs) = if begins_with (b ∷ bs) part then by ++ replaced_behind part by (length part - 1) bs else b ∷ replaced_behind part by zero bs

-- each part replaced, from left to right; an empty one changes nothing
abbrev pub replaced : List ℕ → List ℕ → List ℕ → List ℕ
replaced t part by = if length part == 0 then t else replaced_behind part by 0 t

abbrev pub replace : List Value → Answer
replace args = counted (three args) (λ a. typed (text_in a.0) (λ t. typed (text_in a.1) (λ part. typed (text_in a.2) (λ by. gives (value.Str (replaced t part by))))))

abbrev pub is_among : List ℕ → ℕ → Bool
is_among cs c = list_any (λ d. d == c) cs

-- the pieces of a text between the separators, each of which is one character
abbrev pub pieces : List ℕ → List ℕ → List (List ℕ)
pieces t separators = map encode_utf8_all (slice_split (is_among (chars separators)) (chars t))

abbrev pub split : List Value → Answer
split args = counted (two args) (λ a. typed (text_in a.0) (λ t. typed (text_in a.1) (λ separators. makes (array (map value.Str (pieces t separators))))))

-- a place, cut to a text of so many bytes
abbrev pub cut : ℤ → ℕ → ℕ
cut (pos n) len = min n len
cut (negsuc n) len = 0

-- a character begins at a place, or the text ends there
abbrev pub is_boundary : List ℕ → ℕ → Bool
is_boundary t i = (i == length t) || (nat_lt (slice_index t i) 128 || nat_le 192 (slice_index t i))

-- the window between two places, each of which lies inside no character
abbrev pub window : List ℕ → ℕ → ℕ → Option (List ℕ)
window t from to = if is_boundary t from && is_boundary t to then Some (slice_range t from to) else None

-- so many bytes from a place on, cut to the text
abbrev pub part_of : List ℕ → ℤ → ℤ → Option (List ℕ)
part_of t start len = window t (cut start (length t)) (cut (start +ℤ len) (length t))

abbrev pub substr : List Value → Answer
substr args = counted (three args) (λ a. typed (text_in a.0) (λ t. typed (number_in a.1) (λ m. typed (number_in a.2) (λ n. typed (whole_part m) (λ start. typed (whole_part n) (λ len. typed (part_of t start len) (λ p. gives (value.Str p))))))))
