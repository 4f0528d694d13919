-- Orders by their numbers.
use Rattle.std.proofs.Common.{◌≡◌, ℕ, ◌+◌, ◌<◌, ◌≤◌, nat_eq, not, Bool, true, false, cond, List, [], ◌∷◌, ◌++◌, map, Some, ◌⊎◌, inl, inr, refl, sym, ap, ◌∙◌, subst, arith}
use Rattle.std.proofs.lemmas.Bool.{cases_order}
use Rattle.std.proofs.lemmas.Bool.Decides.{nat_tests}
use Rattle.std.specs.BTreeMap.{insert_entry, is_at}
use Rattle.std.specs.Map.{lookup, remove_entry}
use Rattle.std.specs.Ordering.{is_eq, match_ordering, nat_cmp}
use Rattle.std.specs.declared.cmp.Ordering.TheVariants.{Less, Equal, Greater}
use Rattle.run_meaning.specs.Dealing.{checkable_of, without}
use Rattle.order_book.specs.Orders.{Rise, outstanding_of}

abbrev Kept : Type 0
Kept = ℕ × ℕ

-- a look-up's test of a key is that of the definition
tests_same : (n k : ℕ) → is_at (nat_cmp n) k ≡ nat_eq k n
tests_same n k = by (cases_order n k)
  where
    by : (n ≡ k) ⊎ ((n < k) ⊎ (k < n)) → is_eq (nat_cmp n k) ≡ nat_eq k n
    by (inl e) =
        let a : nat_cmp n k ≡ Equal = grind (arith, nat_tests, e) in
        let b : nat_eq k n ≡ true = grind (arith, nat_tests, e) in
        ap is_eq a ∙ sym b
    by (inr (inl l)) =
        let a : nat_cmp n k ≡ Less = grind (arith, nat_tests, l) in
        let b : nat_eq k n ≡ false = grind (arith, nat_tests, l) in
        ap is_eq a ∙ sym b
    by (inr (inr l)) =
        let a : nat_cmp n k ≡ Greater = grind (arith, nat_tests, l) in
        let b : nat_eq k n ≡ false = grind (arith, nat_tests, l) in
        ap is_eq a ∙ sym b

pub found : (n : ℕ) (kept : List Kept) → lookup (is_at (nat_cmp n)) kept ≡ checkable_of n (map outstanding_of kept)
found n [] = refl
found n (o ∷ kept) =
    ap (λ t. cond t (Some o.1) (lookup (is_at (nat_cmp n)) kept)) (tests_same n o.0)
    ∙ ap (λ r. cond (nat_eq o.0 n) (Some o.1) r) (found n kept)

-- One less.

rise_lower : (m k last : ℕ) (kept : List Kept) → m ≤ k → Rise k last kept → Rise m last kept
rise_lower m k last [] h rise = tt
rise_lower m k last (x ∷ xs) h rise = (let a = rise.0 in omega (arith, a, h), rise.1, rise.2)

none_left_out : (n last : ℕ) (kept : List Kept) → Rise n last kept → without n (map outstanding_of kept) ≡ map outstanding_of kept
none_left_out n last [] rise = refl
none_left_out n last (o ∷ kept) rise =
    let above = rise.0 in
    let other : nat_eq o.0 n ≡ false = grind (arith, nat_tests, above) in
    ap (λ t. cond (not t) (outstanding_of o ∷ without n (map outstanding_of kept)) (without n (map outstanding_of kept))) other
    ∙ ap (λ os. outstanding_of o ∷ os) (none_left_out n last kept (rise_lower n o.0 last kept (let a = rise.0 in omega (arith, a)) rise.2))

pub left_out : (n from last : ℕ) (kept : List Kept) → Rise from last kept → map outstanding_of (remove_entry (is_at (nat_cmp n)) kept) ≡ without n (map outstanding_of kept)
left_out n from last [] rise = refl
left_out n from last (o ∷ kept) rise =
    ap (λ t. map outstanding_of (cond t kept (o ∷ remove_entry (is_at (nat_cmp n)) kept))) (tests_same n o.0) ∙ by (nat_eq o.0 n) refl (left_out n o.0 last kept rise.2)
  where
    by : (t : Bool) → nat_eq o.0 n ≡ t → map outstanding_of (remove_entry (is_at (nat_cmp n)) kept) ≡ without n (map outstanding_of kept)
        → map outstanding_of (cond t kept (o ∷ remove_entry (is_at (nat_cmp n)) kept)) ≡ cond (not t) (outstanding_of o ∷ without n (map outstanding_of kept)) (without n (map outstanding_of kept))
    by true q more =
        let same : o.0 ≡ n = grind (arith, nat_tests, q) in
        sym (none_left_out n last kept (subst (λ k. Rise k last kept) same rise.2))
    by false q more = ap (λ os. outstanding_of o ∷ os) more

pub still_rise : (test : ℕ → Bool) (from last : ℕ) (kept : List Kept) → Rise from last kept → Rise from last (remove_entry test kept)
still_rise test from last [] rise = tt
still_rise test from last (o ∷ kept) rise = by (test o.0) (still_rise test o.0 last kept rise.2)
  where
    by : (t : Bool) → Rise o.0 last (remove_entry test kept) → Rise from last (cond t kept (o ∷ remove_entry test kept))
    by true more = rise_lower from o.0 last kept (let a = rise.0 in omega (arith, a)) rise.2
    by false more = (rise.0, rise.1, more)

-- One more.

pub put_last : (from last c : ℕ) (kept : List Kept) → Rise from last kept → insert_entry nat_cmp kept (last + 1) c ≡ kept ++ (last + 1, c) ∷ []
put_last from last c [] rise = refl
put_last from last c (o ∷ kept) rise =
    let most = rise.1 in
    let behind : nat_cmp (last + 1) o.0 ≡ Greater = grind (arith, nat_tests, most) in
    ap (λ r. match_ordering r ((last + 1, c) ∷ o ∷ kept) ((o.0, c) ∷ kept) (o ∷ insert_entry nat_cmp kept (last + 1) c)) behind
    ∙ ap (λ ks. o ∷ ks) (put_last o.0 last c kept rise.2)

pub more_rise : (from last c : ℕ) (kept : List Kept) → from ≤ last → Rise from last kept → Rise from (last + 1) (kept ++ (last + 1, c) ∷ [])
more_rise from last c [] h rise = (omega (arith, h), omega arith, tt)
more_rise from last c (o ∷ kept) h rise =
    let a = rise.0 in
    let b = rise.1 in
    (a, omega (arith, b), more_rise o.0 last c kept b rise.2)

pub map_more : (kept : List Kept) (o : Kept) → map outstanding_of (kept ++ o ∷ []) ≡ map outstanding_of kept ++ outstanding_of o ∷ []
map_more [] o = refl
map_more (x ∷ xs) o = ap (λ os. outstanding_of x ∷ os) (map_more xs o)
