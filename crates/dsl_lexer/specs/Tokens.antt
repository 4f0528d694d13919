-- The tokens of a text.
use Rattle.std.specs.Prelude.{ℕ, ◌≡◌, ◌==◌, ◌&&◌, ◌≤◌, ◌<◌, ◌-◌, ◌*◌, ◌+◌, not, Bool, true, false, List, [], ◌∷◌, ◌++◌, length, codes, Some, IsTrue}
use Rattle.std.specs.List.{list_all}
use Rattle.std.specs.Char.{is_ascii_digit}
use Rattle.std.specs.Str.{IsUtf8}
use Rattle.site_base.specs.Reading.{number_read}
use Rattle.site_base.specs.declared.place.Place.{Place}
use Rattle.dsl_lexer.specs.Brackets.{keeps, opened}
use Rattle.dsl_lexer.specs.Places.{place_behind}
use Rattle.dsl_lexer.specs.Letters.{is_blank, is_name_start, is_name_byte, is_inner, goes_on, follows, is_octal, escape_value}
use Rattle.dsl_lexer.specs.Words.{word_spelling}
use Rattle.dsl_lexer.specs.Signs.{sign_spelling}
use Rattle.dsl_lexer.specs.Marks.{mark_spelling, begins}
use Rattle.dsl_lexer.specs.declared.word.Word.{Word}
use Rattle.dsl_lexer.specs.declared.sign.Sign.{Sign}
use Rattle.dsl_lexer.specs.declared.mark.Mark.{Mark}
use Rattle.dsl_lexer.specs.declared.mark.Mark.TheVariants as mark
use Rattle.dsl_lexer.specs.declared.token.Token.{Token}
use Rattle.dsl_lexer.specs.declared.token_kind.TokenKind.{TokenKind}
use Rattle.dsl_lexer.specs.declared.token_kind.TokenKind.TheVariants as kind

-- this is the longest mark with which a text begins
pub record IsLongest (m : Mark) (text : List ℕ) : Type 0 where
  pub stands : begins m text ≡ true
  pub longest : (other : Mark) → begins other text ≡ true → length (mark_spelling other) ≤ length (mark_spelling m)

-- the first of these ends stands at the end of a text: behind this body, and none before
pub record EndsWith (end body text : List ℕ) : Type 0 where
  pub whole : text ≡ body ++ end
  pub first : (front behind : List ℕ) → text ≡ front ++ (end ++ behind) → length body ≤ length front

-- what stands between tokens
pub data Gap : Type 0 where
  blank : ℕ → Gap
  newline : Gap
  line_comment : Mark → Gap
  block_comment : List ℕ → Gap

-- how a comment up to the newline begins
abbrev pub begins_line : Mark → Bool
begins_line mark.Hash = true
begins_line mark.DoubleSlash = true
begins_line m = false

-- this text is passed over before this rest: a blank; a newline where it is no token; a comment from `#` or `//` up to
-- the newline; a comment from `/*` up to the first `*/`
abbrev pub IsGap : Bool → Gap → List ℕ → List ℕ → Type 0
IsGap is_token (blank b) text rest = (is_blank b ≡ true) × (text ≡ b ∷ [])
IsGap is_token newline text rest = (is_token ≡ false) × (text ≡ 10 ∷ [])
IsGap is_token (line_comment m) text rest = (begins_line m ≡ true) × IsLongest m (text ++ rest) × IsTrue (list_all is_inner text) × (length (mark_spelling m) ≤ length text) × (follows is_inner rest ≡ false)
IsGap is_token (block_comment body) text rest = (inner : List ℕ) × (text ≡ codes "/*" ++ inner) × EndsWith (codes "*/") body inner

abbrev pub is_name : List ℕ → Bool
is_name [] = false
is_name (b ∷ bs) = is_name_start b && list_all is_name_byte bs

-- a point and a digit
abbrev pub begins_fraction : List ℕ → Bool
begins_fraction [] = false
begins_fraction (b ∷ []) = false
begins_fraction (b ∷ d ∷ bs) = b == 46 && is_ascii_digit d

-- the longest spelling of a number ends here: no letter, digit or `_` follows, and behind digits alone no point with a digit
abbrev pub ends_number : List ℕ → List ℕ → Bool
ends_number text rest = not (goes_on rest) && not (list_all is_ascii_digit text && begins_fraction rest)

-- one to three octal digits that stand for a byte, which is at most 127; fewer than three are followed by no other
abbrev pub IsOctal : List ℕ → List ℕ → ℕ → Type 0
IsOctal (x ∷ []) rest b = (is_octal x ≡ true) × (b ≡ x - 48) × (follows is_octal rest ≡ false)
IsOctal (x ∷ y ∷ []) rest b = (is_octal x ≡ true) × (is_octal y ≡ true) × (b ≡ (x - 48) * 8 + (y - 48)) × (follows is_octal rest ≡ false)
IsOctal (x ∷ y ∷ z ∷ []) rest b = (is_octal x ≡ true) × (is_octal y ≡ true) × (is_octal z ≡ true) × (b ≡ ((x - 48) * 8 + (y - 48)) * 8 + (z - 48)) × (b < 128)
IsOctal digits rest b = ⊥

-- a byte that stands for itself inside a string: no newline, quote or backslash
abbrev pub is_plain : ℕ → Bool
is_plain b = not (b == 10) && not (b == 34) && not (b == 92)

-- how a byte is written inside a string
pub data Way : Type 0 where
  plain : Way
  escape : ℕ → Way
  octal : List ℕ → Way

abbrev pub IsWritten : Way → List ℕ → List ℕ → ℕ → Type 0
IsWritten plain text rest b = (text ≡ b ∷ []) × (is_plain b ≡ true)
IsWritten (escape e) text rest b = (text ≡ 92 ∷ e ∷ []) × (escape_value e ≡ Some b)
IsWritten (octal digits) text rest b = (text ≡ 92 ∷ digits) × IsOctal digits rest b

-- a string behind its opening quote, through the closing one, stands for these bytes
abbrev pub IsInside : List ℕ → List ℕ → Type 0
IsInside text [] = text ≡ 34 ∷ []
IsInside text (b ∷ bs) = (way : Way) × (written rest : List ℕ) × (text ≡ written ++ rest) × IsWritten way written rest b × IsInside rest bs

-- a string on one line, or one from `{{{` up to the first `}}}`
pub data Quoting : Type 0 where
  quotes : Quoting
  braces : Quoting

abbrev pub IsString : Quoting → List ℕ → List ℕ → Type 0
IsString quotes text value = (inner : List ℕ) × (text ≡ 34 ∷ inner) × IsInside inner value
IsString braces text value = (inner : List ℕ) × (text ≡ codes "{{{" ++ inner) × EndsWith (codes "}}}") value inner

-- this text is this token before this rest, and no longer text is
abbrev pub IsToken : Bool → TokenKind → List ℕ → List ℕ → Type 0
IsToken is_token (kind.Word w) text rest = (text ≡ word_spelling w) × (goes_on rest ≡ false)
IsToken is_token (kind.Ident name) text rest = (text ≡ name) × (is_name name ≡ true) × ((w : Word) → name ≡ word_spelling w → ⊥) × (goes_on rest ≡ false)
IsToken is_token (kind.Number z) text rest = (number_read text ≡ Some z) × (ends_number text rest ≡ true)
IsToken is_token (kind.Str value) text rest = (quoting : Quoting) × IsString quoting text value × IsUtf8 value
IsToken is_token (kind.Sign s) text rest = (text ≡ sign_spelling s) × IsLongest (mark.Sign s) (text ++ rest)
IsToken is_token kind.NewLine text rest = (is_token ≡ true) × (text ≡ 10 ∷ [])
IsToken is_token kind.End text rest = ⊥

abbrev pub token : Place → TokenKind → Token
token p k = record { place = p; kind = k }

-- from a place, inside brackets, the innermost last: a text has these tokens
pub data Lexes : Place → List Sign → List ℕ → List Token → Type 0 where
  ends : {p : Place} {brackets : List Sign} → Lexes p brackets [] (token p kind.End ∷ [])
  passes : {p : Place} {brackets : List Sign} {bytes : List ℕ} {ts : List Token} (gap : Gap) (text rest : List ℕ) → bytes ≡ text ++ rest → IsGap (keeps brackets) gap text rest
      → Lexes (place_behind text p) brackets rest ts → Lexes p brackets bytes ts
  takes : {p : Place} {brackets : List Sign} {bytes : List ℕ} {ts : List Token} (k : TokenKind) (text rest : List ℕ) → bytes ≡ text ++ rest → IsToken (keeps brackets) k text rest
      → Lexes (place_behind text p) (opened k brackets) rest ts → Lexes p brackets bytes (token p k ∷ ts)

-- no text at the front is passed over or is a token
pub record IsStuck (is_token : Bool) (bytes : List ℕ) : Type 0 where
  pub no_gap : (gap : Gap) (text rest : List ℕ) → bytes ≡ text ++ rest → IsGap is_token gap text rest → ⊥
  pub no_token : (k : TokenKind) (text rest : List ℕ) → bytes ≡ text ++ rest → IsToken is_token k text rest → ⊥

-- in the same way the first place is reached where a byte begins nothing
pub data StopsAt : Place → List Sign → List ℕ → Place → Type 0 where
  stuck : {p : Place} {brackets : List Sign} {b : ℕ} {bs : List ℕ} → IsStuck (keeps brackets) (b ∷ bs) → StopsAt p brackets (b ∷ bs) p
  passes_on : {p q : Place} {brackets : List Sign} {bytes : List ℕ} (gap : Gap) (text rest : List ℕ) → bytes ≡ text ++ rest → IsGap (keeps brackets) gap text rest
      → StopsAt (place_behind text p) brackets rest q → StopsAt p brackets bytes q
  takes_on : {p q : Place} {brackets : List Sign} {bytes : List ℕ} (k : TokenKind) (text rest : List ℕ) → bytes ≡ text ++ rest → IsToken (keeps brackets) k text rest
      → StopsAt (place_behind text p) (opened k brackets) rest q → StopsAt p brackets bytes q
