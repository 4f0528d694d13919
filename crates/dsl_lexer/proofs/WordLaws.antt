-- Which text is a reserved word, both ways.
use Rattle.std.proofs.Common.{◌≡◌, ℕ, List, [], ◌∷◌, Bool, true, false, cond, Option, Some, None, refl, ap, ◌∙◌}
use Rattle.std.specs.Str.{bytes_eq}
use Rattle.dsl_lexer.specs.declared.word.Word.{Word}
use Rattle.dsl_lexer.specs.declared.word.Word.TheVariants as word
use Rattle.dsl_lexer.specs.Words.{word_spelling, word_among, word_of, all_words}
use Rattle.dsl_lexer.specs.Tokens.{is_name}
use Rattle.dsl_lexer.proofs.Bytes.{same_bytes}

among_sound : (ws : List Word) (text : List ℕ) (w : Word) → word_among ws text ≡ Some w → text ≡ word_spelling w
among_sound [] text w e = cc
among_sound (v ∷ ws) text w e = by (λ e. among_sound ws text w e) (bytes_eq text (word_spelling v)) refl e
  where
    by : (word_among ws text ≡ Some w → text ≡ word_spelling w) → (t : Bool) → bytes_eq text (word_spelling v) ≡ t → cond t (Some v) (word_among ws text) ≡ Some w → text ≡ word_spelling w
    by more true same e = let is : v ≡ w = cc in same_bytes text (word_spelling v) same ∙ ap word_spelling is
    by more false same e = more e

pub word_sound : (text : List ℕ) (w : Word) → word_of text ≡ Some w → text ≡ word_spelling w
unfolding word_of
word_sound text w e = among_sound all_words text w e

pub word_found : (w : Word) → word_of (word_spelling w) ≡ Some w
unfolding word_of
word_found word.Object = refl
word_found word.Template = refl
word_found word.Apply = refl
word_found word.To = refl
word_found word.For = refl
word_found word.In = refl
word_found word.Use = refl
word_found word.Where = refl
word_found word.Assign = refl
word_found word.Ignore = refl
word_found word.Import = refl
word_found word.Include = refl
word_found word.IncludeRecursive = refl
word_found word.Const = refl
word_found word.Var = refl
word_found word.Function = refl
word_found word.Return = refl
word_found word.Break = refl
word_found word.Continue = refl
word_found word.If = refl
word_found word.Else = refl
word_found word.While = refl
word_found word.Throw = refl
word_found word.True = refl
word_found word.False = refl
word_found word.Null = refl
word_found word.This = refl
word_found word.Globals = refl
word_found word.Try = refl
word_found word.Except = refl
word_found word.Namespace = refl
word_found word.Using = refl
word_found word.Locals = refl
word_found word.Debugger = refl
word_found word.IgnoreOnError = refl
word_found word.Library = refl
word_found word.IncludeZones = refl

pub word_is_name : (w : Word) → is_name (word_spelling w) ≡ true
word_is_name word.Object = refl
word_is_name word.Template = refl
word_is_name word.Apply = refl
word_is_name word.To = refl
word_is_name word.For = refl
word_is_name word.In = refl
word_is_name word.Use = refl
word_is_name word.Where = refl
word_is_name word.Assign = refl
word_is_name word.Ignore = refl
word_is_name word.Import = refl
word_is_name word.Include = refl
word_is_name word.IncludeRecursive = refl
word_is_name word.Const = refl
word_is_name word.Var = refl
word_is_name word.Function = refl
word_is_name word.Return = refl
word_is_name word.Break = refl
word_is_name word.Continue = refl
word_is_name word.If = refl
word_is_name word.Else = refl
word_is_name word.While = refl
word_is_name word.Throw = refl
word_is_name word.True = refl
word_is_name word.False = refl
word_is_name word.Null = refl
word_is_name word.This = refl
word_is_name word.Globals = refl
word_is_name word.Try = refl
word_is_name word.Except = refl
word_is_name word.Namespace = refl
word_is_name word.Using = refl
word_is_name word.Locals = refl
word_is_name word.Debugger = refl
word_is_name word.IgnoreOnError = refl
word_is_name word.Library = refl
word_is_name word.IncludeZones = refl

pub word_none : (text : List ℕ) → word_of text ≡ None → (w : Word) → text ≡ word_spelling w → ⊥
word_none text e w is = let found : word_of text ≡ Some w = ap word_of is ∙ word_found w in cc

pub none_word : (text : List ℕ) → ((w : Word) → text ≡ word_spelling w → ⊥) → word_of text ≡ None
none_word text h = by (word_of text) refl
  where
    by : (o : Option Word) → word_of text ≡ o → o ≡ None
    by None e = refl
    by (Some w) e = absurd (h w (word_sound text w e))
