-- The functions that make an array of several.
use Rattle.std.specs.Prelude.{ℕ, zero, suc, ℤ, pos, negsuc, ◌+ℤ◌, ◌-ℤ◌, ◌+◌, ◌-◌, ◌/◌, Bool, true, false, List, [], ◌∷◌, ◌++◌, filter, Option, Some, None, if◌then◌else◌}
use Rattle.std.specs.List.{list_all, flat_map}
use Rattle.dsl_value.specs.Contents.{Contents, PlainCell, array}
use Rattle.dsl_value.specs.declared.value.Value.{Value}
use Rattle.dsl_value.specs.declared.value.Value.TheVariants as value
use Rattle.dsl_lib.specs.Answers.{Answer, gives, makes, counted, typed}
use Rattle.dsl_lib.specs.Arguments.{number_in, items_in}
use Rattle.dsl_lib.specs.Arrays.{has_equal, all_in}

-- at least one argument
abbrev pub some_args : List Value → Option (List Value)
some_args [] = None
some_args (v ∷ vs) = Some (v ∷ vs)

-- a value more, unless one that was taken is equal to it
abbrev pub with_distinct : List PlainCell → List Value → Value → List Value
with_distinct cells taken v = if has_equal cells taken v then taken else taken ++ v ∷ []

-- those that were taken, and the distinct ones of more
abbrev pub distinct : List PlainCell → List Value → List Value → List Value
distinct cells taken [] = taken
distinct cells taken (v ∷ vs) = distinct cells (with_distinct cells taken v) vs

-- the distinct elements of arrays, in the order in which each first comes
abbrev pub union : Contents → List Value → Answer
union s args = counted (some_args args) (λ arrays. typed (all_in (items_in s.cells) arrays) (λ xss. makes (array (distinct s.cells [] (flat_map (λ xs. xs) xss)))))

-- a value is in each of some arrays
abbrev pub is_common : List PlainCell → List (List Value) → Value → Bool
is_common cells xss v = list_all (λ xs. has_equal cells xs v) xss

abbrev pub common : List PlainCell → List (List Value) → List Value
common cells [] = []
common cells (xs ∷ xss) = distinct cells [] (filter (is_common cells xss) xs)

-- the distinct ones of the first array's elements that are in all
abbrev pub intersection : Contents → List Value → Answer
intersection s args = counted (some_args args) (λ arrays. typed (all_in (items_in s.cells) arrays) (λ xss. makes (array (common s.cells xss))))

-- so many numbers from one on, each by a step above the one before it
abbrev pub numbers_from : ℕ → ℤ → ℤ → List Value
numbers_from zero first step = []
numbers_from (suc n) first step = value.Number first ∷ numbers_from n (first +ℤ step) step

-- how many steps of a size there are below a distance
abbrev pub steps_below : ℤ → ℤ → ℕ
steps_below (pos d) (pos s) = (d + (s - 1)) / s
steps_below (pos d) (negsuc s) = 0
steps_below (negsuc d) s = 0

-- the numbers from the first on by a step, which lie below the end
abbrev pub numbers_below : ℤ → ℤ → ℤ → List Value
numbers_below first end step = numbers_from (steps_below (end -ℤ first) step) first step

abbrev pub is_positive : ℤ → Bool
is_positive (pos zero) = false
is_positive (pos (suc n)) = true
is_positive (negsuc n) = false

-- the step has to be above 0
abbrev pub ranged : ℤ → ℤ → ℤ → Answer
ranged first end step = typed (if is_positive step then Some step else None) (λ by. makes (array (numbers_below first end by)))

-- from 0 or the first number, below the second, by 1 or the third
abbrev pub range : List Value → Answer
range (a ∷ []) = typed (number_in a) (λ end. ranged (pos 0) end (pos 1000))
range (a ∷ b ∷ []) = typed (number_in a) (λ first. typed (number_in b) (λ end. ranged first end (pos 1000)))
range (a ∷ b ∷ c ∷ []) = typed (number_in a) (λ first. typed (number_in b) (λ end. typed (number_in c) (λ step. ranged first end step)))
range _ = counted None (λ (v : Value). gives v)
