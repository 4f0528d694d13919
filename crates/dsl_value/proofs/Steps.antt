-- A walk, step by step.
use Rattle.std.proofs.Common.{◌≡◌, ℤ, ℕ, zero, suc, ◌+◌, ◌-◌, ◌<◌, ◌≤◌, Bool, true, false, cond, nat_lt, List, [], ◌∷◌, ◌++◌, length, drop, map, slice_get, Option, Some, None, Ok, Err, refl, sym, ap, subst, ◌∙◌, arith, length-append}
use Rattle.std.proofs.lemmas.Bool.Decides.{nat_tests}
use Rattle.std.proofs.lemmas.Option.{get_or_from_slice_get, slice_get_within, slice_get-get_or}
use Rattle.std.proofs.lemmas.List.{append_assoc, append-nil}
use Rattle.std.proofs.Math.Seq.{drop-cons}
use Rattle.std.proofs.Math.ListN.{drop_of_length-le}
use Rattle.std.proofs.lemmas.List.Elements.{All-from_recursion}
use Rattle.site_base.specs.Data.{Data}
use Rattle.site_base.specs.Data as tree
use Rattle.site_base.specs.View.{items_of, pairs_of}
use Rattle.dsl_value.specs.Pairs.{Pairs}
use Rattle.dsl_value.specs.Contents.{PlainCell, array, dict, cell_at}
use Rattle.dsl_value.specs.Whole.{Names, NamesAll, Stands}
use Rattle.dsl_value.specs.Walks.{most, Walk, walked, stopped, ◌>>=◌, charged, Walker, values_walked, pairs_walked, cell_walked, is_open, value_walked, walk, outcome, tree_walked}
use Rattle.dsl_value.specs.Paths.{entered, next_value, value_of_pair, key_bytes, bytes_of_pair, keyed, with_child, tree_made, rest_walked, inside_walk, from_here, going_with}
use Rattle.dsl_value.specs.Entering.{Entered, in_array, in_dict, cell_of}
use Rattle.dsl_value.specs.declared.value.Value.{Value}
use Rattle.dsl_value.specs.declared.value.Value.TheVariants as value
use Rattle.dsl_value.specs.declared.tree_fault.TreeFault.{TreeFault}
use Rattle.dsl_value.specs.declared.tree_fault.TreeFault.TheVariants.{Cyclic, HasFunction, TooLarge}

-- one level of a walk
pub a_level : (levels : ℕ) (cells : List PlainCell) (open_cells : List ℕ) (v : Value) (c : ℕ) → 0 < levels → walk levels cells open_cells v c ≡ value_walked (walk (levels - 1) cells) cells open_cells v c
unfolding walk
a_level zero cells open_cells v c some = absurd (omega (arith, some))
a_level (suc n) cells open_cells v c some = ap (λ m. value_walked (walk m cells) cells open_cells v c) {x = n} (omega arith)

within_cond : {A : Type 0} (b : Bool) (x y : A) → b ≡ false → cond b x y ≡ y
within_cond b x y h = rw h

over_cond : {A : Type 0} (b : Bool) (x y : A) → b ≡ true → cond b x y ≡ x
over_cond b x y h = rw h

-- what is within the cost goes on, what is above it stops
pub charged_within : {A : Type 0} (c : ℕ) (next : ℕ → Walk A) → c ≤ most → charged c next ≡ next c
charged_within c next le = let no : nat_lt most c ≡ false = grind (arith, nat_tests) in within_cond (nat_lt most c) (stopped TooLarge) (next c) no

pub charged_over : {A : Type 0} (c : ℕ) (next : ℕ → Walk A) → most < c → charged c next ≡ stopped TooLarge
charged_over c next lt = let yes : nat_lt most c ≡ true = grind (arith, nat_tests) in over_cond (nat_lt most c) (stopped TooLarge) (next c) yes

bind_same : {A B : Type 0} (w : Walk A) (f g : A → ℕ → Walk B) → ((a : A) (c : ℕ) → f a c ≡ g a c) → (w >>= f) ≡ (w >>= g)
bind_same (walked a c) f g e = e a c
bind_same (stopped x) f g e = refl

bind_bind : {A B C : Type 0} (w : Walk A) (f : A → ℕ → Walk B) (g : B → ℕ → Walk C) → ((w >>= f) >>= g) ≡ (w >>= λ a c. (f a c >>= g))
bind_bind (walked a c) f g = refl
bind_bind (stopped x) f g = refl

drop_found : {A : Type 0} (xs : List A) (n : ℕ) (x : A) → slice_get xs n ≡ Some x → drop n xs ≡ x ∷ drop (suc n) xs
drop_found xs n x e = drop-cons xs n x (slice_get_within xs n x e) ∙ ap (λ y. y ∷ drop (suc n) xs) (get_or_from_slice_get xs n x x e)

past_or_found : {A : Type 0} (xs : List A) (n : ℕ) → slice_get xs n ≡ None → (d : A) → n < length xs → ⊥
past_or_found xs n e d lt = absurd (let f = slice_get-get_or xs n d lt in cc)

drop_past : {A : Type 0} (xs : List A) (n : ℕ) → slice_get xs n ≡ None → drop n xs ≡ []
drop_past [] n e = drop_of_length-le [] (omega arith)
drop_past (x ∷ xs) n e = let no = past_or_found (x ∷ xs) n e x in drop_of_length-le (x ∷ xs) (omega (arith, no))

longer : {A : Type 0} (xs : List A) (x : A) → length (xs ++ x ∷ []) ≡ suc (length xs)
longer xs x = length-append xs (x ∷ []) ∙ omega arith

-- trees that are passed, with one more
module _ {A : Type 0} (made : List A) (d : A) (finish : List A → Data) where
  added : (w : Walk (List A)) → ((w >>= λ ds c. walked (d ∷ ds) c) >>= λ ds c. walked (finish (made ++ ds)) c) ≡ (w >>= λ ds c. walked (finish ((made ++ d ∷ []) ++ ds)) c)
  added (walked ds c) = ap (λ xs. walked (finish xs) c) (sym (append_assoc made (d ∷ []) ds))
  added (stopped x) = refl

module _ (inside : Walker) where
  -- what comes next is walked, and then the rest
  array_found : (k : ℕ) (vs : List Value) (made : List Data) (v : Value) (c : ℕ) → slice_get vs (length made) ≡ Some v
      → rest_walked inside (array vs) (in_array k made) c ≡ (charged (c + 1) (λ c1. inside v c1) >>= λ d c2. rest_walked inside (array vs) (in_array k (made ++ d ∷ [])) c2)
  array_found k vs made v c e =
      ap (λ xs. values_walked inside xs c >>= λ ds c1. walked (tree.list (items_of (made ++ ds))) c1) (drop_found vs (length made) v e)
      ∙ bind_bind (charged (c + 1) (λ c1. inside v c1)) _ _
      ∙ bind_same (charged (c + 1) (λ c1. inside v c1)) _ _ (λ d c2.
      added made d (λ ds. tree.list (items_of ds)) (values_walked inside (drop (suc (length made)) vs) c2)
      ∙ ap (λ n. values_walked inside (drop n vs) c2 >>= λ ds c1. walked (tree.list (items_of ((made ++ d ∷ []) ++ ds))) c1) (sym (longer made d)))

  dict_found : (k : ℕ) (ps : Pairs) (made : List (List ℕ × Data)) (p : List ℕ × Value) (c : ℕ) → slice_get ps (length made) ≡ Some p
      → rest_walked inside (dict ps) (in_dict k made) c ≡ (charged (c + (1 + length p.0)) (λ c1. inside p.1 c1) >>= λ d c2. rest_walked inside (dict ps) (in_dict k (made ++ (p.0, d) ∷ [])) c2)
  dict_found k ps made p c e =
      ap (λ xs. pairs_walked inside xs c >>= λ ds c1. walked (tree.dict (pairs_of (made ++ ds))) c1) (drop_found ps (length made) p e)
      ∙ bind_bind (charged (c + (1 + length p.0)) (λ c1. inside p.1 c1)) _ _
      ∙ bind_same (charged (c + (1 + length p.0)) (λ c1. inside p.1 c1)) _ _ (λ d c2.
      added made (p.0, d) (λ ds. tree.dict (pairs_of ds)) (pairs_walked inside (drop (suc (length made)) ps) c2)
      ∙ ap (λ n. pairs_walked inside (drop n ps) c2 >>= λ ds c1. walked (tree.dict (pairs_of ((made ++ (p.0, d) ∷ []) ++ ds))) c1) (sym (longer made (p.0, d))))

  dict_found_at : (k : ℕ) (ps : Pairs) (made : List (List ℕ × Data)) (v : Value) (c : ℕ) (o : Option (List ℕ × Value)) → slice_get ps (length made) ≡ o → value_of_pair o ≡ Some v
      → rest_walked inside (dict ps) (in_dict k made) c ≡ (charged (c + (1 + bytes_of_pair o)) (λ c1. inside v c1) >>= λ d c2. rest_walked inside (dict ps) (in_dict k (keyed o made d)) c2)
  dict_found_at k ps made v c None e f = absurd cc
  dict_found_at k ps made v c (Some p) e f =
      let same : p.1 ≡ v = cc in
      subst (λ u. rest_walked inside (dict ps) (in_dict k made) c ≡ (charged (c + (1 + length p.0)) (λ c1. inside u c1) >>= λ d c2. rest_walked inside (dict ps) (in_dict k (made ++ (p.0, d) ∷ [])) c2)) same (dict_found k ps made p c e)

  pub next_found : (cell : PlainCell) (f : Entered) (v : Value) (c : ℕ) → next_value cell f ≡ Some v
      → rest_walked inside cell f c ≡ (charged (c + (1 + key_bytes cell f)) (λ c1. inside v c1) >>= λ d c2. rest_walked inside cell (with_child cell f d) c2)
  next_found (array vs) (in_array k made) v c e = array_found k vs made v c e
  next_found (array vs) (in_dict k made) v c e = absurd cc
  next_found (dict ps) (in_array k made) v c e = absurd cc
  next_found (dict ps) (in_dict k made) v c e = dict_found_at k ps made v c (slice_get ps (length made)) refl e

  nothing_next : (ps : Pairs) (n : ℕ) (o : Option (List ℕ × Value)) → slice_get ps n ≡ o → value_of_pair o ≡ None → drop n ps ≡ []
  nothing_next ps n None e f = drop_past ps n e
  nothing_next ps n (Some p) e f = absurd cc

  list_made : (k : ℕ) (vs : List Value) (made : List Data) (c : ℕ) → drop (length made) vs ≡ [] → (values_walked inside (drop (length made) vs) c >>= λ ds c1. walked (tree.list (items_of (made ++ ds))) c1) ≡ walked (tree.list (items_of made)) c
  list_made k vs made c e = rw e (ap (λ ds. walked (tree.list (items_of ds)) c) (append-nil made))

  dict_made : (k : ℕ) (ps : Pairs) (made : List (List ℕ × Data)) (c : ℕ) → drop (length made) ps ≡ [] → (pairs_walked inside (drop (length made) ps) c >>= λ ds c1. walked (tree.dict (pairs_of (made ++ ds))) c1) ≡ walked (tree.dict (pairs_of made)) c
  dict_made k ps made c e = rw e (ap (λ ds. walked (tree.dict (pairs_of ds)) c) (append-nil made))

  -- where nothing comes next, the tree is made
  pub next_none : (cell : PlainCell) (f : Entered) (c : ℕ) → next_value cell f ≡ None → rest_walked inside cell f c ≡ walked (tree_made f) c
  next_none (array vs) (in_array k made) c e = list_made k vs made c (drop_past vs (length made) e)
  next_none (array vs) (in_dict k made) c e = dict_made k [] made c (drop_of_length-le [] (omega arith))
  next_none (dict ps) (in_array k made) c e = list_made k [] made c (drop_of_length-le [] (omega arith))
  next_none (dict ps) (in_dict k made) c e = dict_made k ps made c (nothing_next ps (length made) (slice_get ps (length made)) refl e)

  -- a cell is walked from its beginning
  pub entered_walked : (k : ℕ) (cell : PlainCell) (c : ℕ) → rest_walked inside cell (entered k cell) c ≡ cell_walked inside cell c
  entered_walked k (array vs) c = refl
  entered_walked k (dict ps) c = refl

-- a walk that stopped stays stopped
pub stays_stopped : (cells : List PlainCell) (below : List Entered) (e : TreeFault) → going_with cells below (stopped e) ≡ stopped e
stays_stopped cells [] e = refl
stays_stopped cells (f ∷ below) e = stays_stopped cells below e

pub cell_of_child : (cell : PlainCell) (f : Entered) (d : Data) → cell_of (with_child cell f d) ≡ cell_of f
cell_of_child cell (in_array k made) d = refl
cell_of_child cell (in_dict k made) d = refl

pub cell_of_entered : (k : ℕ) (cell : PlainCell) → cell_of (entered k cell) ≡ k
cell_of_entered k (array vs) = refl
cell_of_entered k (dict ps) = refl

-- one more element is passed: the cell and what lies inside of it stay the same
from_child : (cells : List PlainCell) (below : List Entered) (cell : PlainCell) (f : Entered) (d : Data) (c : ℕ)
    → rest_walked (inside_walk cells below f) (cell_at cells (cell_of f)) (with_child cell f d) c ≡ from_here cells below (with_child cell f d) c
from_child cells below cell (in_array k made) d c = refl
from_child cells below cell (in_dict k made) d c = refl

-- the element that comes next is looked at, or its unit is too much
pub element_within : (cells : List PlainCell) (below : List Entered) (f : Entered) (v : Value) (c : ℕ) → next_value (cell_at cells (cell_of f)) f ≡ Some v → c + (1 + key_bytes (cell_at cells (cell_of f)) f) ≤ most
    → from_here cells below f c ≡ (inside_walk cells below f v (c + (1 + key_bytes (cell_at cells (cell_of f)) f)) >>= λ d c2. from_here cells below (with_child (cell_at cells (cell_of f)) f d) c2)
element_within cells below f v c e le =
    next_found (inside_walk cells below f) (cell_at cells (cell_of f)) f v c e
    ∙ bind_same (charged (c + (1 + key_bytes (cell_at cells (cell_of f)) f)) (λ c1. inside_walk cells below f v c1)) _ _ (λ d c2. from_child cells below (cell_at cells (cell_of f)) f d c2)
    ∙ ap (λ w. w >>= λ d c2. from_here cells below (with_child (cell_at cells (cell_of f)) f d) c2) (charged_within (c + (1 + key_bytes (cell_at cells (cell_of f)) f)) (λ c1. inside_walk cells below f v c1) le)

pub element_over : (cells : List PlainCell) (below : List Entered) (f : Entered) (v : Value) (c : ℕ) → next_value (cell_at cells (cell_of f)) f ≡ Some v → most < c + (1 + key_bytes (cell_at cells (cell_of f)) f)
    → going_with cells below (from_here cells below f c) ≡ stopped TooLarge
element_over cells below f v c e lt =
    ap (going_with cells below) (next_found (inside_walk cells below f) (cell_at cells (cell_of f)) f v c e
    ∙ ap (λ w. w >>= λ d c2. rest_walked (inside_walk cells below f) (cell_at cells (cell_of f)) (with_child (cell_at cells (cell_of f)) f d) c2) (charged_over (c + (1 + key_bytes (cell_at cells (cell_of f)) f)) (λ c1. inside_walk cells below f v c1) lt))
    ∙ stays_stopped cells below TooLarge

-- all of the last cell is passed
pub element_none : (cells : List PlainCell) (below : List Entered) (f : Entered) (c : ℕ) → next_value (cell_at cells (cell_of f)) f ≡ None
    → going_with cells below (from_here cells below f c) ≡ going_with cells below (walked (tree_made f) c)
element_none cells below f c e = ap (going_with cells below) (next_none (inside_walk cells below f) (cell_at cells (cell_of f)) f c e)

module _ (cells : List PlainCell) (below : List Entered) (f : Entered) (few : length below < most) where
  pub level : (v : Value) (c : ℕ) → inside_walk cells below f v c ≡ value_walked (walk (most - length below - 1) cells) cells (cell_of f ∷ map cell_of below) v c
  level v c = a_level (most - length below) cells (cell_of f ∷ map cell_of below) v c (omega (arith, few))

  pub at_null : (c : ℕ) → inside_walk cells below f value.Null c ≡ walked tree.null c
  at_null c = level value.Null c

  pub at_bool : (b : Bool) (c : ℕ) → inside_walk cells below f (value.Bool b) c ≡ walked (tree.boolean b) c
  at_bool b c = level (value.Bool b) c

  pub at_number : (n : ℤ) (c : ℕ) → inside_walk cells below f (value.Number n) c ≡ walked (tree.number n) c
  at_number n c = level (value.Number n) c

  pub at_function : (k c : ℕ) → going_with cells (f ∷ below) (inside_walk cells below f (value.Func k) c) ≡ stopped HasFunction
  at_function k c = ap (going_with cells (f ∷ below)) (level (value.Func k) c) ∙ stays_stopped cells (f ∷ below) HasFunction

  pub text_within : (t : List ℕ) (c : ℕ) → c + length t ≤ most → inside_walk cells below f (value.Str t) c ≡ walked (tree.string t) (c + length t)
  text_within t c le = level (value.Str t) c ∙ charged_within (c + length t) (λ c1. walked (tree.string t) c1) le

  pub text_over : (t : List ℕ) (c : ℕ) → most < c + length t → going_with cells (f ∷ below) (inside_walk cells below f (value.Str t) c) ≡ stopped TooLarge
  text_over t c lt = ap (going_with cells (f ∷ below)) (level (value.Str t) c ∙ charged_over (c + length t) (λ c1. walked (tree.string t) c1) lt) ∙ stays_stopped cells (f ∷ below) TooLarge

  pub at_open : (k c : ℕ) → is_open k (map cell_of (f ∷ below)) ≡ true → going_with cells (f ∷ below) (inside_walk cells below f (value.Ref k) c) ≡ stopped (Cyclic k)
  at_open k c e = ap (going_with cells (f ∷ below)) (level (value.Ref k) c ∙ over_cond _ (stopped (Cyclic k)) _ e) ∙ stays_stopped cells (f ∷ below) (Cyclic k)

  pub cell_over : (k c : ℕ) → is_open k (map cell_of (f ∷ below)) ≡ false → most < c + 1 → going_with cells (f ∷ below) (inside_walk cells below f (value.Ref k) c) ≡ stopped TooLarge
  cell_over k c e lt =
      ap (going_with cells (f ∷ below)) (level (value.Ref k) c
      ∙ within_cond _ (stopped (Cyclic k)) _ e
      ∙ charged_over (c + 1) (λ c1. cell_walked (walk (most - length below - 1) cells (k ∷ map cell_of (f ∷ below))) (cell_at cells k) c1) lt)
      ∙ stays_stopped cells (f ∷ below) TooLarge

entered_there : (n : ℕ) (cells : List PlainCell) (open_cells : List ℕ) (k : ℕ) (cell : PlainCell) (c : ℕ)
    → rest_walked (walk n cells (cell_of (entered k cell) ∷ open_cells)) (cell_at cells (cell_of (entered k cell))) (entered k cell) c ≡ rest_walked (walk n cells (k ∷ open_cells)) (cell_at cells k) (entered k cell) c
entered_there n cells open_cells k (array vs) c = refl
entered_there n cells open_cells k (dict ps) c = refl

from_entered : (cells : List PlainCell) (below : List Entered) (k c : ℕ) → from_here cells below (entered k (cell_at cells k)) c ≡ cell_walked (walk (most - length below) cells (k ∷ map cell_of below)) (cell_at cells k) c
from_entered cells below k c = entered_there (most - length below) cells (map cell_of below) k (cell_at cells k) c ∙ entered_walked (walk (most - length below) cells (k ∷ map cell_of below)) k (cell_at cells k) c

-- a cell that isn't open is entered
pub cell_entered : (cells : List PlainCell) (below : List Entered) (f : Entered) (k c : ℕ) → length below < most → is_open k (map cell_of (f ∷ below)) ≡ false → c + 1 ≤ most
    → inside_walk cells below f (value.Ref k) c ≡ from_here cells (f ∷ below) (entered k (cell_at cells k)) (c + 1)
cell_entered cells below f k c few e le =
    level cells below f few (value.Ref k) c
    ∙ within_cond _ (stopped (Cyclic k)) _ e
    ∙ charged_within (c + 1) (λ c1. cell_walked (walk (most - length below - 1) cells (k ∷ map cell_of (f ∷ below))) (cell_at cells k) c1) le
    ∙ ap (λ n. cell_walked (walk n cells (k ∷ map cell_of (f ∷ below))) (cell_at cells k) (c + 1)) {x = most - length below - 1} {y = most - suc (length below)} (omega (arith, few))
    ∙ sym (from_entered cells (f ∷ below) k (c + 1))

-- a walk begins inside of a cell
pub begun : (cells : List PlainCell) (k : ℕ) → from_here cells [] (entered k (cell_at cells k)) 1 ≡ walk (most + 1) cells [] (value.Ref k) 0
begun cells k =
    from_entered cells [] k 1
    ∙ sym (charged_within 1 (λ c1. cell_walked (walk most cells (k ∷ [])) (cell_at cells k) c1) (omega arith))
    ∙ sym (a_level (most + 1) cells [] (value.Ref k) 0 (omega arith))

-- the walk that is left once a cell is entered
pub entered_going : (cells : List PlainCell) (below more : List Entered) (f top : Entered) (k c cost : ℕ) → length below < most → is_open k (map cell_of (f ∷ below)) ≡ false → c + 1 ≤ most
    → more ≡ f ∷ below → top ≡ entered k (cell_at cells k) → cost ≡ c + 1
    → going_with cells more (from_here cells more top cost) ≡ going_with cells (f ∷ below) (inside_walk cells below f (value.Ref k) c)
entered_going cells below more f top k c cost few e le same first counted =
    ap (λ b. going_with cells b (from_here cells b top cost)) same
    ∙ ap (λ t. going_with cells (f ∷ below) (from_here cells (f ∷ below) t cost)) first
    ∙ ap (λ n. going_with cells (f ∷ below) (from_here cells (f ∷ below) (entered k (cell_at cells k)) n)) counted
    ∙ ap (going_with cells (f ∷ below)) (sym (cell_entered cells below f k c few e le))

found_names : (n m : ℕ) (ps : Pairs) (k : ℕ) (v : Value) (o : Option (List ℕ × Value)) → NamesAll n m ps → slice_get ps k ≡ o → value_of_pair o ≡ Some v → Names n m v
found_names n m ps k v None all e f = absurd cc
found_names n m ps k v (Some p) all e f =
    let same : p.1 ≡ v = cc in
    subst (Names n m) (ap (λ q. q.1) (get_or_from_slice_get ps k p p e) ∙ same) (All-from_recursion (λ q. Names n m q.1) ps all k p (slice_get_within ps k p e))

-- the value that comes next names what is there
pub next_names : (n m : ℕ) (cell : PlainCell) (f : Entered) (v : Value) → Stands n m cell → next_value cell f ≡ Some v → Names n m v
next_names n m (array vs) (in_array k made) v s e = subst (Names n m) (get_or_from_slice_get vs (length made) v v e) (All-from_recursion (Names n m) vs s (length made) v (slice_get_within vs (length made) v e))
next_names n m (array vs) (in_dict k made) v s e = absurd cc
next_names n m (dict ps) (in_array k made) v s e = absurd cc
next_names n m (dict ps) (in_dict k made) v s e = found_names n m ps (length made) v (slice_get ps (length made)) s.0 refl e

pub begun_going : (cells : List PlainCell) (below : List Entered) (top : Entered) (k : ℕ) → below ≡ [] → top ≡ entered k (cell_at cells k) → going_with cells below (from_here cells below top 1) ≡ walk (most + 1) cells [] (value.Ref k) 0
begun_going cells below top k none first = ap (λ b. going_with cells b (from_here cells b top 1)) none ∙ ap (λ t. from_here cells [] t 1) first ∙ begun cells k

-- a value at the top of a walk
pub at_top : (cells : List PlainCell) (v : Value) → tree_walked cells v ≡ outcome (value_walked (walk (most + 1 - 1) cells) cells [] v 0)
at_top cells v = ap outcome (a_level (most + 1) cells [] v 0 (omega arith))

pub top_text_within : (cells : List PlainCell) (t : List ℕ) → length t ≤ most → tree_walked cells (value.Str t) ≡ Ok (tree.string t)
top_text_within cells t le = at_top cells (value.Str t) ∙ ap outcome (charged_within (0 + length t) (λ c1. walked (tree.string t) c1) (omega (arith, le)))

pub top_text_over : (cells : List PlainCell) (t : List ℕ) → most < length t → tree_walked cells (value.Str t) ≡ Err TooLarge
top_text_over cells t lt = at_top cells (value.Str t) ∙ ap outcome (charged_over (0 + length t) (λ c1. walked (tree.string t) c1) (omega (arith, lt)))
