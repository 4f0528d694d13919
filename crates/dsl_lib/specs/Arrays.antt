-- The methods of arrays.
use Rattle.std.specs.Prelude.{ℕ, ℤ, Bool, List, [], ◌∷◌, length, map, Option, Some, None, if◌then◌else◌}
use Rattle.std.specs.List.{list_any, join_by}
use Rattle.std.specs.Ordering.{int_cmp, is_gt}
use Rattle.std.specs.declared.cmp.Ordering.{Ordering}
use Rattle.dsl_value.specs.Pairs.{key_cmp}
use Rattle.dsl_value.specs.Equality.{equal_within}
use Rattle.dsl_value.specs.Contents.{Contents, PlainCell, array, cell_at, pushed}
use Rattle.dsl_value.specs.declared.value.Value.{Value}
use Rattle.dsl_value.specs.declared.value.Value.TheVariants as value
use Rattle.dsl_lib.specs.Answers.{Answer, gives, makes, counted, typed, written}
use Rattle.dsl_lib.specs.Arguments.{one, two, text_in, number_in, items_in, array_in}
use Rattle.dsl_lib.specs.Scalars.{whole, scalar_text}
pub use Rattle.dsl_ops.specs.Members.{element}
use Rattle.dsl_ops.specs.Table.{whole_part}

abbrev pub len : Contents → List Value → Answer
len s args = counted (one args) (λ a. typed (items_in s.cells a) (λ vs. gives (whole (length vs))))

-- one of some values is equal to a value, to 100 levels of nesting
abbrev pub has_equal : List PlainCell → List Value → Value → Bool
has_equal cells vs v = list_any (λ x. equal_within 100 cells x v) vs

abbrev pub contains : Contents → List Value → Answer
contains s args = counted (two args) (λ a. typed (items_in s.cells a.0) (λ vs. gives (value.Bool (has_equal s.cells vs a.1))))

abbrev pub get : Contents → List Value → Answer
get s args = counted (two args) (λ a. typed (items_in s.cells a.0) (λ vs. typed (number_in a.1) (λ n. typed (whole_part n) (λ i. gives (element vs i)))))

abbrev pub add : Contents → List Value → Answer
add s args = counted (two args) (λ a. typed (array_in s.cells a.0) (λ k. written s k (pushed (cell_at s.cells k) a.1)))

abbrev pub and_also : {A : Type 0} → Option A → Option (List A) → Option (List A)
and_also None rest = None
and_also (Some x) None = None
and_also (Some x) (Some xs) = Some (x ∷ xs)

-- what all of some values are, if each is one
abbrev pub all_in : {A : Type 0} → (Value → Option A) → List Value → Option (List A)
all_in read [] = Some []
all_in read (v ∷ vs) = and_also (read v) (all_in read vs)

abbrev pub joined : List ℕ → List (List ℕ) → List ℕ
joined separator ts = join_by (λ t. t) separator ts

-- the texts of scalars, with a separator between each two
abbrev pub join : Contents → List Value → Answer
join s args = counted (two args) (λ a. typed (items_in s.cells a.0) (λ vs. typed (text_in a.1) (λ separator. typed (all_in scalar_text vs) (λ ts. gives (value.Str (joined separator ts))))))

-- an element put behind those that aren't greater
abbrev pub put_in : {A : Type 0} → (A → A → Ordering) → A → List A → List A
put_in cmp x [] = x ∷ []
put_in cmp x (y ∷ ys) = if is_gt (cmp x y) then y ∷ put_in cmp x ys else x ∷ y ∷ ys

-- some elements in order
abbrev pub sorted : {A : Type 0} → (A → A → Ordering) → List A → List A
sorted cmp [] = []
sorted cmp (x ∷ xs) = put_in cmp x (sorted cmp xs)

abbrev pub numbers_sorted : Option (List ℤ) → Option (List Value)
numbers_sorted None = None
numbers_sorted (Some ns) = Some (map value.Number (sorted int_cmp ns))

abbrev pub texts_sorted : Option (List (List ℕ)) → Option (List Value) → Option (List Value)
texts_sorted None other = other
texts_sorted (Some ts) other = Some (map value.Str (sorted key_cmp ts))

-- all texts by their bytes, or all numbers
abbrev pub sorted_values : List Value → Option (List Value)
sorted_values vs = texts_sorted (all_in text_in vs) (numbers_sorted (all_in number_in vs))

abbrev pub sort : Contents → List Value → Answer
sort s args = counted (one args) (λ a. typed (items_in s.cells a) (λ vs. typed (sorted_values vs) (λ ws. makes (array ws))))
