-- How reserved words are written.
use Rattle.std.specs.Prelude.{ℕ, List, [], ◌∷◌, codes, filter, Option, Some, None, if◌then◌else◌}
use Rattle.std.specs.Str.{bytes_eq}
use Rattle.dsl_lexer.specs.Letters.{starts_with}
use Rattle.dsl_lexer.specs.declared.word.Word.{Word}
use Rattle.dsl_lexer.specs.declared.word.Word.TheVariants as word

abbrev pub word_spelling : Word → List ℕ
word_spelling word.Object = codes "object"
word_spelling word.Template = codes "template"
word_spelling word.Apply = codes "apply"
word_spelling word.To = codes "to"
word_spelling word.For = codes "for"
word_spelling word.In = codes "in"
word_spelling word.Use = codes "use"
word_spelling word.Where = codes "where"
word_spelling word.Assign = codes "assign"
word_spelling word.Ignore = codes "ignore"
word_spelling word.Import = codes "import"
word_spelling word.Include = codes "include"
word_spelling word.IncludeRecursive = codes "include_recursive"
word_spelling word.Const = codes "const"
word_spelling word.Var = codes "var"
word_spelling word.Function = codes "function"
word_spelling word.Return = codes "return"
word_spelling word.Break = codes "break"
word_spelling word.Continue = codes "continue"
word_spelling word.If = codes "if"
word_spelling word.Else = codes "else"
word_spelling word.While = codes "while"
word_spelling word.Throw = codes "throw"
word_spelling word.True = codes "true"
word_spelling word.False = codes "false"
word_spelling word.Null = codes "null"
word_spelling word.This = codes "this"
word_spelling word.Globals = codes "globals"
word_spelling word.Try = codes "try"
word_spelling word.Except = codes "except"
word_spelling word.Namespace = codes "namespace"
word_spelling word.Using = codes "using"
word_spelling word.Locals = codes "locals"
word_spelling word.Debugger = codes "debugger"
word_spelling word.IgnoreOnError = codes "ignore_on_error"
word_spelling word.Library = codes "library"
word_spelling word.IncludeZones = codes "include_zones"

-- all of them
abbrev pub all_words : List Word
all_words =
    word.Object ∷ word.Template ∷ word.Apply ∷ word.To ∷ word.For ∷ word.In ∷ word.Use ∷ word.Where ∷ word.Assign ∷ word.Ignore ∷ word.Import ∷ word.Include ∷ word.IncludeRecursive ∷ word.Const ∷ word.Var ∷ word.Function ∷ word.Return ∷ word.Break ∷ word.Continue ∷ word.If ∷ word.Else ∷ word.While ∷ word.Throw ∷ word.True ∷ word.False ∷ word.Null ∷ word.This ∷ word.Globals ∷ word.Try ∷ word.Except ∷ word.Namespace ∷ word.Using ∷ word.Locals ∷ word.Debugger ∷ word.IgnoreOnError ∷ word.Library ∷ word.IncludeZones ∷ []

-- those that begin with this byte
abbrev pub words_from : ℕ → List Word
words_from b = filter (λ w. starts_with b (word_spelling w)) all_words

-- the first word of these that is written so
abbrev pub word_among : List Word → List ℕ → Option Word
word_among [] text = None
word_among (w ∷ ws) text = if bytes_eq text (word_spelling w) then Some w else word_among ws text

-- the word that is written so
unfoldable pub word_of : List ℕ → Option Word
word_of text = word_among all_words text
