-- The sorts of tokens: each word, each sign, and the other kinds.
use Rattle.std.specs.Prelude.{ℕ, zero, suc, List, [], ◌∷◌, pos}
use denote.Enum.Declared.{tag_of}
use Rattle.dsl_lexer.specs.declared.token.Token.{Token}
use Rattle.dsl_lexer.specs.declared.token_kind.TokenKind.{TokenKind}
use Rattle.dsl_lexer.specs.declared.token_kind.TokenKind.TheVariants as kinds
use Rattle.dsl_lexer.specs.declared.word.Word.{Word}
use Rattle.dsl_lexer.specs.declared.word.Word.TheVariants as words
use Rattle.dsl_lexer.specs.contracts.word.Word.{the_type as the_words}
use Rattle.dsl_lexer.specs.declared.sign.Sign.{Sign}
use Rattle.dsl_lexer.specs.declared.sign.Sign.TheVariants as signs
use Rattle.dsl_lexer.specs.contracts.sign.Sign.{the_type as the_signs}
use Rattle.dsl_rules.specs.Alphabet.{Sort, sort, Alphabet}

abbrev pub word_sort : Word → Sort
word_sort w = sort 0 (tag_of the_words w)

abbrev pub sign_sort : Sign → Sort
sign_sort s = sort 1 (tag_of the_signs s)

abbrev pub ident_sort : Sort
ident_sort = sort 2 0

abbrev pub number_sort : Sort
number_sort = sort 2 1

abbrev pub string_sort : Sort
string_sort = sort 2 2

abbrev pub line_sort : Sort
line_sort = sort 2 3

abbrev pub end_sort : Sort
end_sort = sort 2 4

abbrev pub kind_sort : TokenKind → Sort
kind_sort (kinds.Word w) = word_sort w
kind_sort (kinds.Sign s) = sign_sort s
kind_sort (kinds.Ident t) = ident_sort
kind_sort (kinds.Number n) = number_sort
kind_sort (kinds.Str t) = string_sort
kind_sort kinds.NewLine = line_sort
kind_sort kinds.End = end_sort

-- the kinds of each class, in order
abbrev pub word_kinds : List TokenKind
word_kinds =
    kinds.Word words.Object ∷ kinds.Word words.Template ∷ kinds.Word words.Apply ∷ kinds.Word words.To ∷ kinds.Word words.For ∷ kinds.Word words.In ∷ kinds.Word words.Use ∷ kinds.Word words.Where ∷ kinds.Word words.Assign ∷ kinds.Word words.Ignore ∷ kinds.Word words.Import ∷ kinds.Word words.Include ∷ kinds.Word words.IncludeRecursive ∷ kinds.Word words.Const ∷ kinds.Word words.Var ∷ kinds.Word words.Function ∷ kinds.Word words.Return ∷ kinds.Word words.Break ∷ kinds.Word words.Continue ∷ kinds.Word words.If ∷ kinds.Word words.Else ∷ kinds.Word words.While ∷ kinds.Word words.Throw ∷ kinds.Word words.True ∷ kinds.Word words.False ∷ kinds.Word words.Null ∷ kinds.Word words.This ∷ kinds.Word words.Globals ∷ kinds.Word words.Try ∷ kinds.Word words.Except ∷ kinds.Word words.Namespace ∷ kinds.Word words.Using ∷ kinds.Word words.Locals ∷ kinds.Word words.Debugger ∷ kinds.Word words.IgnoreOnError ∷ kinds.Word words.Library ∷ kinds.Word words.IncludeZones ∷ []

abbrev pub sign_kinds : List TokenKind
sign_kinds =
    kinds.Sign signs.NotIn ∷ kinds.Sign signs.AddSet ∷ kinds.Sign signs.SubtractSet ∷ kinds.Sign signs.MultiplySet ∷ kinds.Sign signs.DivideSet ∷ kinds.Sign signs.Arrow ∷ kinds.Sign signs.Equal ∷ kinds.Sign signs.NotEqual ∷ kinds.Sign signs.AtMost ∷ kinds.Sign signs.AtLeast ∷ kinds.Sign signs.ShiftLeft ∷ kinds.Sign signs.ShiftRight ∷ kinds.Sign signs.And ∷ kinds.Sign signs.Or ∷ kinds.Sign signs.OpenParen ∷ kinds.Sign signs.CloseParen ∷ kinds.Sign signs.OpenBracket ∷ kinds.Sign signs.CloseBracket ∷ kinds.Sign signs.OpenBrace ∷ kinds.Sign signs.CloseBrace ∷ kinds.Sign signs.Dot ∷ kinds.Sign signs.Comma ∷ kinds.Sign signs.Semicolon ∷ kinds.Sign signs.Set ∷ kinds.Sign signs.Plus ∷ kinds.Sign signs.Minus ∷ kinds.Sign signs.Star ∷ kinds.Sign signs.Slash ∷ kinds.Sign signs.Percent ∷ kinds.Sign signs.Not ∷ kinds.Sign signs.Tilde ∷ kinds.Sign signs.Less ∷ kinds.Sign signs.Greater ∷ kinds.Sign signs.BitAnd ∷ kinds.Sign signs.BitXor ∷ kinds.Sign signs.BitOr ∷ []

abbrev pub other_kinds : List TokenKind
other_kinds = kinds.Ident [] ∷ kinds.Number (pos 0) ∷ kinds.Str [] ∷ kinds.NewLine ∷ kinds.End ∷ []

abbrev pub nth_kind : List TokenKind → ℕ → TokenKind
nth_kind [] c = kinds.End
nth_kind (k ∷ ks) zero = k
nth_kind (k ∷ ks) (suc c) = nth_kind ks c

abbrev pub kind_of : Sort → TokenKind
kind_of (sort zero n) = nth_kind word_kinds n
kind_of (sort (suc zero) n) = nth_kind sign_kinds n
kind_of (sort (suc (suc c)) n) = nth_kind other_kinds n

abbrev pub sorts : Alphabet Token
sorts = record {
  sort_of = λ t. kind_sort t.kind;
  line = line_sort;
  last = end_sort;
  sample = λ c. record { place = record { file = 0; line = 0; col = 0 }; kind = kind_of c };
}
