-- The methods of dictionaries.
use Rattle.std.specs.Prelude.{ℕ, List, length, map, is_some}
use Rattle.dsl_value.specs.Pairs.{find}
use Rattle.dsl_value.specs.Contents.{Contents, array, cell_at, with_pair, without_pair}
use Rattle.dsl_value.specs.declared.value.Value.{Value}
use Rattle.dsl_value.specs.declared.value.Value.TheVariants as value
pub use Rattle.dsl_ops.specs.Members.{or_null}
use Rattle.dsl_lib.specs.Answers.{Answer, gives, makes, counted, typed, written}
use Rattle.dsl_lib.specs.Arguments.{one, two, three, text_in, pairs_in, dict_in}
use Rattle.dsl_lib.specs.Scalars.{whole}

abbrev pub key_of : List ℕ × Value → Value
key_of p = value.Str p.0

abbrev pub value_of : List ℕ × Value → Value
value_of p = p.1

-- the function `keys` and the method `keys` are one
abbrev pub keys : Contents → List Value → Answer
keys s args = counted (one args) (λ d. typed (pairs_in s.cells d) (λ ps. makes (array (map key_of ps))))

abbrev pub values : Contents → List Value → Answer
values s args = counted (one args) (λ d. typed (pairs_in s.cells d) (λ ps. makes (array (map value_of ps))))

abbrev pub len : Contents → List Value → Answer
len s args = counted (one args) (λ d. typed (pairs_in s.cells d) (λ ps. gives (whole (length ps))))

abbrev pub contains : Contents → List Value → Answer
contains s args = counted (two args) (λ a. typed (pairs_in s.cells a.0) (λ ps. typed (text_in a.1) (λ key. gives (value.Bool (is_some (find key ps))))))

-- the key's value, or null
abbrev pub get : Contents → List Value → Answer
get s args = counted (two args) (λ a. typed (pairs_in s.cells a.0) (λ ps. typed (text_in a.1) (λ key. gives (or_null (find key ps)))))

-- a key of the wrong type is found before a frozen dictionary
abbrev pub set : Contents → List Value → Answer
set s args = counted (three args) (λ a. typed (dict_in s.cells a.0) (λ k. typed (text_in a.1) (λ key. written s k (with_pair (cell_at s.cells k) key a.2))))

-- a frozen dictionary is found where the key is absent too
abbrev pub remove : Contents → List Value → Answer
remove s args = counted (two args) (λ a. typed (dict_in s.cells a.0) (λ k. typed (text_in a.1) (λ key. written s k (without_pair (cell_at s.cells k) key))))
