-- What trees weigh, level by level, and how that falls while a tree is taken apart.
use Rattle.std.proofs.Common.{◌≡◌, ◌+◌, ◌<◌, ◌≤◌, ℕ, ℤ, Bool, zero, suc, List, [], ◌∷◌, ◌++◌, length, get_or, set, Vec, Global, rules, arith, refl, ap}
use Rattle.site_base.specs.Weight.{weight, items_weight, pairs_weight}
use Rattle.site_base.specs.declared.tree.Tree.{Tree, the_lemmas}
use Rattle.site_base.specs.declared.tree.Tree as tree

pub weight_null : weight tree.Null ≡ 1
weight_null = search (rules, the_lemmas)

pub weight_bool : (b : Bool) → weight (tree.Bool b) ≡ 1
weight_bool b = search (rules, the_lemmas)

pub weight_number : (n : ℤ) → weight (tree.Number n) ≡ 1
weight_number n = search (rules, the_lemmas)

pub weight_str : (t : List ℕ) → weight (tree.Str t) ≡ 1
weight_str t = search (rules, the_lemmas)

pub weight_list : (v : Vec Tree Global) → weight (tree.List v) ≡ 1 + items_weight v.items
weight_list v = search (rules, the_lemmas)

pub weight_dict : (v : Vec (List ℕ × Tree) Global) → weight (tree.Dict v) ≡ 1 + pairs_weight v.items
weight_dict v = search (rules, the_lemmas)

pub some_items : (ts : List Tree) → 0 < length ts → 0 < items_weight ts
some_items [] some = absurd (omega (arith, some))
some_items (t ∷ ts) some = omega arith

pub no_items : (ts : List Tree) → length ts ≡ 0 → items_weight ts ≡ 0
no_items [] none = refl
no_items (t ∷ ts) none = absurd (omega (arith, none))

pub some_pairs : (ps : List (List ℕ × Tree)) → 0 < length ps → 0 < pairs_weight ps
some_pairs [] some = absurd (omega (arith, some))
some_pairs (p ∷ ps) some = omega arith

pub no_pairs : (ps : List (List ℕ × Tree)) → length ps ≡ 0 → pairs_weight ps ≡ 0
no_pairs [] none = refl
no_pairs (p ∷ ps) none = absurd (omega (arith, none))

-- what weighs nothing has nothing in it
pub empty_items : (ts : List Tree) → items_weight ts ≡ 0 → length ts ≡ 0
empty_items [] none = refl
empty_items (t ∷ ts) none = absurd (omega (arith, none))

pub empty_pairs : (ps : List (List ℕ × Tree)) → pairs_weight ps ≡ 0 → length ps ≡ 0
empty_pairs [] none = refl
empty_pairs (p ∷ ps) none = absurd (omega (arith, none))

-- the last part
pub last_item : (ts : List Tree) (t : Tree) → items_weight (ts ++ t ∷ []) ≡ suc (weight t + items_weight ts)
last_item [] t = refl
last_item (u ∷ ts) t = omega (arith, last_item ts t)

pub last_pair : (ps : List (List ℕ × Tree)) (p : List ℕ × Tree) → pairs_weight (ps ++ p ∷ []) ≡ suc (weight p.1 + pairs_weight ps)
last_pair [] p = refl
last_pair (q ∷ ps) p = omega (arith, last_pair ps p)

-- another tree in the place of the first
pub first_item : (ts : List Tree) (d y : Tree) → 0 < length ts → items_weight (set ts 0 y) + weight (get_or ts 0 d) ≡ items_weight ts + weight y
first_item [] d y some = absurd (omega (arith, some))
first_item (t ∷ ts) d y some = omega arith

pub first_pair : (ps : List (List ℕ × Tree)) (d p : List ℕ × Tree) → 0 < length ps → pairs_weight (set ps 0 p) + weight (get_or ps 0 d).1 ≡ pairs_weight ps + weight p.1
first_pair [] d p some = absurd (omega (arith, some))
first_pair (q ∷ ps) d p some = omega arith

pub first_item_less : (ts : List Tree) (d : Tree) → 0 < length ts → weight (get_or ts 0 d) < items_weight ts
first_item_less [] d some = absurd (omega (arith, some))
first_item_less (t ∷ ts) d some = omega arith

pub first_pair_less : (ps : List (List ℕ × Tree)) (d : List ℕ × Tree) → 0 < length ps → weight (get_or ps 0 d).1 < pairs_weight ps
first_pair_less [] d some = absurd (omega (arith, some))
first_pair_less (q ∷ ps) d some = omega arith

-- how much is left while a tree is taken apart
abbrev pub triangle : ℕ → ℕ
triangle zero = zero
triangle (suc t) = suc t + triangle t

-- a part goes on in the place of what contains it
pub across : (s p s1 p1 : ℕ) → s1 + p1 ≡ s + p → p1 < p → triangle (s1 + p1) + p1 < triangle (s + p) + p
across s p s1 p1 e less = let same : triangle (s1 + p1) ≡ triangle (s + p) = ap triangle e in omega (arith, same, less)

-- a greater number's triangle is greater by that number at least
rises : (m n : ℕ) → m < n → triangle m + n ≤ triangle n
rises m zero lt = absurd (omega (arith, lt))
rises zero (suc n) lt = omega arith
rises (suc m) (suc n) lt = omega (arith, rises m n (omega (arith, lt)))

-- a part without parts goes
pub down : (s p s1 p1 : ℕ) → p1 + s1 < s → p ≡ 1 → triangle (s1 + p1) + p1 < triangle (s + p) + p
down s p s1 p1 less one =
    let below = rises (s1 + p1) (s + p) (omega (arith, less, one)) in
    omega (arith, below, less, one)
