-- Pairs of a key and a value, sorted by the keys' bytes.
use Rattle.std.specs.Prelude.{◌≡◌, ℕ, ◌<◌, ◌≤◌, Bool, not, List, [], ◌∷◌, length, slice_index_or, Option, Some, None, if◌then◌else◌}
use Rattle.std.specs.Cmp.Lexicographic.{slice_cmp}
use Rattle.std.specs.Ordering.{nat_cmp, eq_by_cmp}
use Rattle.std.specs.BTreeMap.{insert_entry}
use Rattle.std.specs.FinMap.Entries as entries
use Rattle.std.specs.declared.cmp.Ordering.{Ordering}
use Rattle.std.specs.declared.cmp.Ordering.TheVariants.{Less, Greater}
use Rattle.dsl_value.specs.declared.value.Value.{Value}
use Rattle.dsl_value.specs.declared.value.Value.TheVariants.{Null}

abbrev pub Pairs : Type 0
Pairs = List (List ℕ × Value)

-- keys go by their bytes
abbrev pub key_cmp : List ℕ → List ℕ → Ordering
key_cmp = slice_cmp nat_cmp

-- whether the keys strictly rise
abbrev pub is_sorted : Pairs → Bool
is_sorted = entries.is_sorted key_cmp

-- the value of a key
abbrev pub find : List ℕ → Pairs → Option Value
find = entries.find key_cmp

-- the pairs with a value at a key, which stands in its place
abbrev pub put : List ℕ → Value → Pairs → Pairs
put k v ps = insert_entry key_cmp ps k v

-- the pairs without a key's
abbrev pub without : List ℕ → Pairs → Pairs
without key = entries.where_key key_cmp (λ k. not (eq_by_cmp key_cmp key k))

-- sorted pairs with more put in, one after another, so that the last of equal keys wins
abbrev pub dict_of : Pairs → Pairs → Pairs
dict_of [] sorted = sorted
dict_of (p ∷ ps) sorted = dict_of ps (put p.0 p.1 sorted)

-- the first of two that is there
abbrev pub or_found : Option Value → Option Value → Option Value
or_found (Some v) o = Some v
or_found None o = o

-- the value of the last pair that has a key
abbrev pub last_of : List ℕ → Pairs → Option Value
last_of key [] = None
last_of key (p ∷ ps) = or_found (last_of key ps) (if eq_by_cmp key_cmp key p.0 then Some p.1 else None)

-- the key of the pair at a place
abbrev pub key_at : Pairs → ℕ → List ℕ
key_at ps i = (slice_index_or ps i ([], Null)).0

-- the pair at a place has the key
pub record IsAt (ps : Pairs) (key : List ℕ) (i : ℕ) : Type 0 where
  pub inside : i < length ps
  pub before : (j : ℕ) → j < i → key_cmp key (key_at ps j) ≡ Greater
  pub here : key_at ps i ≡ key
  pub behind : (j : ℕ) → i < j → j < length ps → key_cmp key (key_at ps j) ≡ Less

-- the key would go to a place: lesser keys stand before it, greater ones from it on
pub record IsGapFor (ps : Pairs) (key : List ℕ) (i : ℕ) : Type 0 where
  pub inside : i ≤ length ps
  pub before : (j : ℕ) → j < i → key_cmp key (key_at ps j) ≡ Greater
  pub behind : (j : ℕ) → i ≤ j → j < length ps → key_cmp key (key_at ps j) ≡ Less
