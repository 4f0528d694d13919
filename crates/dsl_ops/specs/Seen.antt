-- Values among which an equal one is looked for.
use Rattle.std.specs.Prelude.{◌≡◌, ℕ, pos, Bool, true, false, ◌||◌, ◌&&◌, ◌==◌, List, [], ◌∷◌, ◌++◌, length}
use Rattle.std.specs.List.{AllByRecursion, list_any}
use Rattle.std.specs.Ordering.{int_cmp, int_eq, nat_cmp}
use Rattle.std.specs.BTreeSet.{contains, Updates}
use Rattle.dsl_value.specs.Contents.{PlainCell}
use Rattle.dsl_value.specs.Equality.{equal_within}
use Rattle.dsl_value.specs.Pairs.{key_cmp}
use Rattle.dsl_value.specs.Whole.{Names}
use Rattle.dsl_value.specs.declared.value.Value.{Value}
use Rattle.dsl_value.specs.declared.value.Value.TheVariants as value
use Rattle.dsl_ops.specs.declared.seen.Seen.{Seen}

-- one of some values is equal to a value, to 100 levels of nesting
abbrev pub among : List PlainCell → List Value → Value → Bool
among cells vs v = list_any (λ x. equal_within 100 cells x v) vs

-- the same by the sets: null is equal to 0 and to the empty text
abbrev pub found_in : List PlainCell → Seen → Value → Bool
found_in content s value.Null = (contains int_cmp s.numbers (pos 0) || contains key_cmp s.texts s.empty) || s.has_null
found_in content s (value.Bool true) = s.has_true
found_in content s (value.Bool false) = s.has_false
found_in content s (value.Number n) = contains int_cmp s.numbers n || (int_eq n (pos 0) && s.has_null)
found_in content s (value.Str t) = contains key_cmp s.texts t || ((length t == 0) && s.has_null)
found_in content s (value.Func k) = contains nat_cmp s.functions k
found_in content s (value.Ref k) = among content s.cells (value.Ref k)

-- these values were added, and each names one of so many cells or functions
pub record IsSeen (count functions : ℕ) (content : List PlainCell) (values : List Value) (s : Seen) : Type 0 where
  pub found : (v : Value) → found_in content s v ≡ among content values v
  pub cells : AllByRecursion (Names count functions) s.cells
  pub empty : s.empty ≡ []

-- all but what a kind of value adds to stays as it was
pub record Keeps (Null Truths Numbers Texts Functions Cells : Type 0) (old new : Seen) : Type 0 where
  pub null : Null
  pub truths : Truths
  pub numbers : Numbers
  pub texts : Texts
  pub functions : Functions
  pub cells : Cells
  pub empty : new.empty ≡ old.empty

abbrev pub SameTruths : Seen → Seen → Type 0
SameTruths old new = (new.has_true ≡ old.has_true) × (new.has_false ≡ old.has_false)

-- a value is added
abbrev pub Adds : Seen → Value → Seen → Type 0
Adds old value.Null new = Keeps (new.has_null ≡ true) (SameTruths old new) (new.numbers ≡ old.numbers) (new.texts ≡ old.texts) (new.functions ≡ old.functions) (new.cells ≡ old.cells) old new
Adds old (value.Bool true) new = Keeps (new.has_null ≡ old.has_null) ((new.has_true ≡ true) × (new.has_false ≡ old.has_false)) (new.numbers ≡ old.numbers) (new.texts ≡ old.texts) (new.functions ≡ old.functions) (new.cells ≡ old.cells) old new
Adds old (value.Bool false) new = Keeps (new.has_null ≡ old.has_null) ((new.has_true ≡ old.has_true) × (new.has_false ≡ true)) (new.numbers ≡ old.numbers) (new.texts ≡ old.texts) (new.functions ≡ old.functions) (new.cells ≡ old.cells) old new
Adds old (value.Number n) new = Keeps (new.has_null ≡ old.has_null) (SameTruths old new) (Updates int_cmp old.numbers new.numbers n true) (new.texts ≡ old.texts) (new.functions ≡ old.functions) (new.cells ≡ old.cells) old new
Adds old (value.Str t) new = Keeps (new.has_null ≡ old.has_null) (SameTruths old new) (new.numbers ≡ old.numbers) (Updates key_cmp old.texts new.texts t true) (new.functions ≡ old.functions) (new.cells ≡ old.cells) old new
Adds old (value.Func k) new = Keeps (new.has_null ≡ old.has_null) (SameTruths old new) (new.numbers ≡ old.numbers) (new.texts ≡ old.texts) (Updates nat_cmp old.functions new.functions k true) (new.cells ≡ old.cells) old new
Adds old (value.Ref k) new = Keeps (new.has_null ≡ old.has_null) (SameTruths old new) (new.numbers ≡ old.numbers) (new.texts ≡ old.texts) (new.functions ≡ old.functions) (new.cells ≡ old.cells ++ value.Ref k ∷ []) old new
