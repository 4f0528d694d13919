-- Lines of bytes, of which at most 65,536 bytes are kept, and no part of a character.
use Rattle.std.specs.Prelude.{ℕ, ◌≡◌, ◌==◌, ◌/◌, nat_le, Bool, false, List, [], ◌∷◌, ◌++◌, length, slice_index, map, take, if◌then◌else◌}

-- what is looked at of a line or an output: what may be kept, and one byte more
abbrev pub kept : List ℕ → List ℕ
kept bytes = take 65537 bytes

-- a character of UTF-8 goes on by this byte
abbrev pub is_inside : ℕ → Bool
is_inside byte = byte / 64 == 2

-- where the last whole character of the first 65,536 bytes ends; at most three bytes of one stand before the byte that is too many
abbrev pub character_end : List ℕ → ℕ
character_end bytes =
    if is_inside (slice_index bytes 65536)
    then if is_inside (slice_index bytes 65535)
    then if is_inside (slice_index bytes 65534) then 65533 else 65534
    else 65535
    else 65536

-- what is handed on of a line or an output
unfoldable pub cut : List ℕ → List ℕ
cut bytes = if nat_le (length bytes) 65536 then bytes else take (character_end bytes) bytes

-- the lines that have ended, and the front of the one that goes on
pub record Read : Type 0 where
  pub whole : List (List ℕ)
  pub front : List ℕ

-- a newline ends a line; every other byte belongs to it
unfoldable pub read_byte : Read → ℕ → Read
read_byte r byte = if byte == 10 then record { whole = r.whole ++ cut r.front ∷ []; front = [] } else record { whole = r.whole; front = kept (r.front ++ byte ∷ []) }

unfoldable pub read_on : Read → List ℕ → Read
read_on r [] = r
read_on r (byte ∷ bytes) = read_on (read_byte r byte) bytes

-- the end of the input ends a line that has begun
abbrev pub at_end : Read → Read
at_end r = if length r.front == 0 then r else read_byte r 10

-- before the first byte
abbrev pub nothing : Read
nothing = record { whole = []; front = [] }

-- no newline is in it
abbrev pub IsLine : List ℕ → Type 0
IsLine [] = Unit {0}
IsLine (byte ∷ bytes) = ((byte == 10) ≡ false) × IsLine bytes

abbrev pub AreLines : List (List ℕ) → Type 0
AreLines [] = Unit {0}
AreLines (line ∷ lines) = IsLine line × AreLines lines

-- lines with a newline behind each
abbrev pub written : List (List ℕ) → List ℕ
written [] = []
written (line ∷ lines) = line ++ 10 ∷ written lines

-- in whatever pieces the bytes come, the same is read
abbrev pub ReadsPieces : Type 0
ReadsPieces = (r : Read) (some more : List ℕ) → read_on (read_on r some) more ≡ read_on r (some ++ more)

-- what is handed on of a line, of which no more was looked at
abbrev pub shortened : List ℕ → List ℕ
shortened line = cut (kept line)

-- what is read are the lines, each as far as it is kept
abbrev pub ReadsLines : Type 0
ReadsLines = (lines : List (List ℕ)) (rest : List ℕ) → AreLines lines → IsLine rest
    → read_on nothing (written lines ++ rest) ≡ record { whole = map shortened lines; front = kept rest }
