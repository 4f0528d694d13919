-- Keys: bytes by which things are told apart. Whatever follows a key, it can be told where the key ends, and so the keys of the parts of a thing
-- stand in its key one after the other.
use Rattle.std.specs.Prelude.{ℕ, ℤ, zero, suc, pos, negsuc, ◌/◌, ◌%◌, Bool, true, false, nat_lt, List, [], ◌∷◌, ◌++◌, length, Option, Some, None, if◌then◌else◌}

-- a number by its bytes, the lowest first: so many of them, and one for all that is left
abbrev pub low_bytes : ℕ → ℕ → List ℕ
low_bytes zero n = n ∷ []
low_bytes (suc k) n = n % 256 ∷ low_bytes k (n / 256)

-- one byte is enough for a number below 255
abbrev pub number_key : ℕ → List ℕ
number_key n = if nat_lt n 255 then n ∷ [] else 255 ∷ low_bytes 7 n

abbrev pub whole_key : ℤ → List ℕ
whole_key (pos n) = 0 ∷ number_key n
whole_key (negsuc n) = 1 ∷ number_key n

abbrev pub boolean_key : Bool → List ℕ
boolean_key false = 0 ∷ []
boolean_key true = 1 ∷ []

-- its length and its bytes
abbrev pub text_key : List ℕ → List ℕ
text_key t = number_key (length t) ++ t

-- A 1 stands before each thing of a list, and a 0 at its end.
abbrev pub texts_key : List (List ℕ) → List ℕ
texts_key [] = 0 ∷ []
texts_key (t ∷ ts) = 1 ∷ (text_key t ++ texts_key ts)

-- So it is with a thing that may be absent.
abbrev pub maybe_text_key : Option (List ℕ) → List ℕ
maybe_text_key None = 0 ∷ []
maybe_text_key (Some t) = 1 ∷ text_key t
