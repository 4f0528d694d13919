-- The function `match`.
use Rattle.std.specs.Prelude.{ℕ, Bool, false, List, [], ◌∷◌, Option, Some, None}
use Rattle.std.specs.List.{list_all}
use Rattle.site_base.specs.Numbers.{number_text}
use Rattle.dsl_value.specs.Contents.{Contents, PlainCell, cell_at}
use Rattle.dsl_value.specs.declared.value.Value.{Value}
use Rattle.dsl_value.specs.declared.value.Value.TheVariants as value
use Rattle.dsl_lib.specs.Answers.{Answer, gives, counted, typed}
use Rattle.dsl_lib.specs.Arguments.{two, text_in, items_of}
use Rattle.dsl_lib.specs.Arrays.{all_in}
use Rattle.wildcards.specs.Wildcards.{matches}

-- what a pattern is held against: a string, a number's text, or nothing for null
abbrev pub matched_text : Value → Option (List ℕ)
matched_text value.Null = Some []
matched_text (value.Str t) = Some t
matched_text (value.Number n) = Some (number_text n)
matched_text _ = None

abbrev pub option_of : {A B : Type 0} → (A → B) → Option A → Option B
option_of f None = None
option_of f (Some a) = Some (f a)

abbrev pub then_in : {A B : Type 0} → Option A → (A → Option B) → Option B
then_in None f = None
then_in (Some a) f = f a

-- there are texts, and the pattern describes each
abbrev pub all_match : List ℕ → List (List ℕ) → Bool
all_match pattern [] = false
all_match pattern (t ∷ ts) = list_all (matches pattern) (t ∷ ts)

-- whether the pattern describes a value, or all elements of an array, of which there have to be some
abbrev pub matched : List PlainCell → List ℕ → Value → Option Bool
matched cells pattern (value.Ref k) = then_in (items_of (cell_at cells k)) (λ vs. option_of (all_match pattern) (all_in matched_text vs))
matched cells pattern v = option_of (matches pattern) (matched_text v)

abbrev pub match_answer : Contents → List Value → Answer
match_answer s args = counted (two args) (λ a. typed (text_in a.0) (λ pattern. typed (matched s.cells pattern a.1) (λ b. gives (value.Bool b))))
